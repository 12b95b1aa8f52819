use Rattle.std.proofs.Common.{ap, sym, ◌∙◌, subst, ◌++◌}
use Rattle.tb_wait.specs.Few.{held}
use Rattle.tb_wait.specs.Numbers.{IsPut, many_in}
use Rattle.tb_wait.proofs.FewLemmas.{put_few, put_many, put_from}
use Rattle.tb_wait.proofs.numbers.Numbers.set.Goals as goal

pub returns-then-n-lt64-clause-set : goal.returns-then-n-lt64-clause-set
returns-then-n-lt64-clause-set c =
    subst (λ v. IsPut v.items c.args.n c.args.there (held c.set.new.self.bits ++ (many_in c.self.inside.many).items)) c.self.view_is
    (put_few c.self.inside.few.bits (many_in c.self.inside.many).items c.self.invariant c.set.new.self.bits c.args.n c.args.there c.if-n-lt64.true c.set.ensures)

pub returns-in-Some-clause-set : goal.returns-in-Some-clause-set
returns-in-Some-clause-set c =
    subst (λ v. IsPut v.items c.args.n c.args.there (held c.self.inside.few.bits ++ c.set-in-Some.new.self.items)) c.self.view_is
    (put_many c.self.inside.few.bits (many_in c.self.inside.many).items c.self.invariant c.set-in-Some.new.self.items c.args.n c.args.there c.if-n-lt64.false
    (subst (λ v. IsPut v.items c.args.n c.args.there c.set-in-Some.new.self.items) (c.deref_mut.ensures.value ∙ sym (ap many_in c.in-Some.is)) c.set-in-Some.ensures.set))

pub invariant_of-self-in-Some : goal.invariant_of-self-in-Some
invariant_of-self-in-Some c =
    put_from c.self.inside.few.bits (many_in c.self.inside.many).items c.self.invariant c.set-in-Some.new.self.items c.args.n c.args.there c.if-n-lt64.false
    (subst (λ v. IsPut v.items c.args.n c.args.there c.set-in-Some.new.self.items) (c.deref_mut.ensures.value ∙ sym (ap many_in c.in-Some.is)) c.set-in-Some.ensures.set)
