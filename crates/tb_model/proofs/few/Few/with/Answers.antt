use Rattle.std.proofs.Common.{◌∙◌, ◌∷◌, ap, arith}
use Rattle.tb_model.proofs.FewLemmas.{longer}
use Rattle.tb_model.proofs.few.Few.with.Goals as goal

pub invariant_of-result : goal.invariant_of-result
invariant_of-result c =
    (longer c.args.first c.self.inside.count c.self.inside.bytes c.copy_from_slice.new.self c.self.told (omega (arith, c.if-from-ge-FEW.false, c.from.ensures)) c.self.invariant c.copy_from_slice.ensures.after).0

pub returns : goal.returns
returns c =
    (longer c.args.first c.self.inside.count c.self.inside.bytes c.copy_from_slice.new.self c.self.told (omega (arith, c.if-from-ge-FEW.false, c.from.ensures)) c.self.invariant c.copy_from_slice.ensures.after).1
    ∙ ap (λ ys. c.args.first ∷ ys) c.self.view_is
