use Rattle.std.proofs.Common.{◌∙◌, ap, arith, drop}
use Rattle.tb_model.proofs.FewLemmas.{shorter, all_but_first}
use Rattle.tb_model.proofs.few.Few.rest.Goals as goal

pub invariant_of-result : goal.invariant_of-result
invariant_of-result c =
    (shorter c.self.inside.count c.self.inside.bytes c.copy_from_slice.new.self c.self.told (omega (arith, c.if-self-le4.false)) c.self.invariant (c.copy_from_slice.ensures.after ∙ all_but_first c.self.inside.bytes c.self.told)).0

pub returns-clause-rest : goal.returns-clause-rest
returns-clause-rest c =
    (shorter c.self.inside.count c.self.inside.bytes c.copy_from_slice.new.self c.self.told (omega (arith, c.if-self-le4.false)) c.self.invariant (c.copy_from_slice.ensures.after ∙ all_but_first c.self.inside.bytes c.self.told)).1
    ∙ ap (drop 1) c.self.view_is
