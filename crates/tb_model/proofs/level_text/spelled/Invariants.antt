use Rattle.std.proofs.Common.{[], length}
use Rattle.tb_model.proofs.NumberTextLemmas.{IsNamed}
use Rattle.tb_model.proofs.level_text.spelled.Given as goal

abbrev pub invariant-levels : goal.invariant-levels
invariant-levels l = IsNamed [] l.numbers l.rest l.text.items

abbrev pub decreases-levels : goal.decreases-levels
decreases-levels l = length l.rest
