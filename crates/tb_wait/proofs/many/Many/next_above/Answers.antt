use Rattle.std.proofs.Common.{ap, subst, arith, Some, None}
use Rattle.tb_wait.specs.Numbers.{IsNextAbove}
use Rattle.tb_wait.proofs.NumbersLemmas.{next_found, next_none}
use Rattle.tb_wait.proofs.many.Many.next_above.Goals as goal

pub returns-then-at-len : goal.returns-then-at-len
returns-then-at-len c =
    subst (λ xs. IsNextAbove xs c.args.low (Some c.number_at.result)) (ap (λ v. v.items) c.self.view_is)
    (next_found c.self.inside.items.items c.self.inside.bound c.gap-at.result c.number_at.result c.args.low c.self.invariant.0 c.gap-at.ensures.gap
    (omega (arith, c.self.inside.items.ok.0, c.len.ensures, c.if-at-len.true)) c.number_at.ensures)

pub returns-else-at-len : goal.returns-else-at-len
returns-else-at-len c =
    subst (λ xs. IsNextAbove xs c.args.low None) (ap (λ v. v.items) c.self.view_is)
    (next_none c.self.inside.items.items c.self.inside.bound c.gap-at.result c.args.low c.self.invariant.0 c.gap-at.ensures.gap
    (omega (arith, c.self.inside.items.ok.0, c.len.ensures, c.if-at-len.false)))
