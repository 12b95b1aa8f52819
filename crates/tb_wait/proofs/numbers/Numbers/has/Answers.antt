use Rattle.std.proofs.Common.{ap, sym, ◌∙◌}
use Rattle.tb_wait.specs.Numbers.{has, many_in}
use Rattle.tb_wait.proofs.FewLemmas.{has_few, has_many}
use Rattle.tb_wait.proofs.numbers.Numbers.has.Goals as goal

pub returns-then-n-lt64 : goal.returns-then-n-lt64
returns-then-n-lt64 c =
    c.has.ensures ∙ has_few c.self.inside.few.bits (many_in c.self.inside.many).items c.self.invariant c.args.n c.if-n-lt64.true
    ∙ ap (λ v. has v.items c.args.n) c.self.view_is

pub returns-in-Some : goal.returns-in-Some
returns-in-Some c =
    c.has-in-Some.ensures ∙ ap (λ v. has v.items c.args.n) (c.deref.ensures ∙ sym (ap many_in c.in-Some.is))
    ∙ has_many c.self.inside.few.bits (many_in c.self.inside.many).items c.self.invariant c.args.n c.if-n-lt64.false
    ∙ ap (λ v. has v.items c.args.n) c.self.view_is

pub returns-in-None : goal.returns-in-None
returns-in-None c =
    ap (λ v. has v.items c.args.n) (sym (ap many_in c.in-None.is))
    ∙ has_many c.self.inside.few.bits (many_in c.self.inside.many).items c.self.invariant c.args.n c.if-n-lt64.false
    ∙ ap (λ v. has v.items c.args.n) c.self.view_is
