use Rattle.std.proofs.Common.{add-one, arith, leb-true, sym, ◌∙◌}
use Rattle.tb_depend.proofs.PlacesLemmas.{found_between}
use Rattle.tb_depend.proofs.near.are_in_front.Goals as goal

pub returns-else-count-eq0-clause-child : goal.returns-else-count-eq0-clause-child
returns-else-count-eq0-clause-child c = λ low.
    add-one c.args.count ∙ sym (found_between 0 c.args.ends.now c.requires.0 c.args.at c.args.count c.requires.1 (omega (arith, c.if-count-ends.false)) (omega (arith, c.if-count-eq0.false)) (leb-true _ _ low) (omega (arith, c.if-ends-count.false)))
