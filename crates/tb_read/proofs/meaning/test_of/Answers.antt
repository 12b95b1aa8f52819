use Rattle.std.proofs.Common.{◌∙◌, sym}
use Rattle.tb_read.proofs.ClauseLemmas.{test_short}
use Rattle.tb_read.proofs.meaning.test_of.Goals as goal

pub returns-clause-test : goal.returns-clause-test
returns-clause-test c = sym (test_short c.loop-left.left.now c.in_default.len_below) ∙ c.loop-left.invariant
