use Rattle.std.proofs.Common.{ap, sym, ◌∙◌, subst, Some}
use Rattle.tb_wait.specs.Numbers.{IsNextAbove, many_in}
use Rattle.tb_wait.proofs.FewLemmas.{next_few, next_many}
use Rattle.tb_wait.proofs.numbers.Numbers.next_above.Goals as goal

pub returns-in-Some : goal.returns-in-Some
returns-in-Some c =
    subst (λ v. IsNextAbove v.items c.args.low (Some c.in-Some.n)) c.self.view_is
    (next_few c.self.inside.few.bits (many_in c.self.inside.many).items c.self.invariant c.args.low c.in-Some.n (c.in-Some.ensures {u = tt}))

pub returns-in-Some-many : goal.returns-in-Some-many
returns-in-Some-many c =
    subst (λ v. IsNextAbove v.items c.args.low c.next_above-in-Some-many.result) c.self.view_is
    (next_many c.self.inside.few.bits (many_in c.self.inside.many).items c.self.invariant c.args.low c.next_above-in-Some-many.result (c.in_default.ensures {u = tt})
    (subst (λ v. IsNextAbove v.items c.args.low c.next_above-in-Some-many.result) (c.deref.ensures ∙ sym (ap many_in c.in-Some-many.is)) c.next_above-in-Some-many.ensures))
