use Rattle.std.proofs.Common.{◌≤◌, length, ap, ◌∙◌, subst, arith}
use Rattle.tb_wait.specs.Numbers.{below, has}
use Rattle.tb_wait.proofs.NumbersLemmas.{has_test, has_behind}
use Rattle.tb_wait.proofs.many.Many.find.Goals as goal

pub returns-then-at-len : goal.returns-then-at-len
returns-then-at-len c =
    let items = ap (λ v. v.items) c.self.view_is in record {
      place = c.gap-at.ensures.gap ∙ ap (below c.args.n) items;
      within = subst (λ xs. c.gap-at.result ≤ length xs) items c.gap-at.ensures.within;
      there =
          has_test c.self.inside.items.items c.self.inside.bound c.gap-at.result c.number_at.result c.args.n c.self.invariant.0 c.gap-at.ensures.gap (omega (arith, c.self.inside.items.ok.0, c.len.ensures, c.if-at-len.true)) c.number_at.ensures
          ∙ ap (λ xs. has xs c.args.n) items;
    }

pub returns-else-at-len : goal.returns-else-at-len
returns-else-at-len c =
    let items = ap (λ v. v.items) c.self.view_is in record {
      place = c.gap-at.ensures.gap ∙ ap (below c.args.n) items;
      within = subst (λ xs. c.gap-at.result ≤ length xs) items c.gap-at.ensures.within;
      there =
          has_behind c.self.inside.items.items c.self.inside.bound c.gap-at.result c.args.n c.len.result c.self.invariant.0 c.gap-at.ensures.gap (c.len.ensures ∙ c.self.inside.items.ok.0) c.if-at-len.false
          ∙ ap (λ xs. has xs c.args.n) items;
    }
