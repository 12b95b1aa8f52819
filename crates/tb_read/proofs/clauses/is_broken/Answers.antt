use Rattle.std.proofs.Common.{◌∙◌, ap, sym, not}
use Rattle.tb_read.proofs.ClauseLemmas.{broken_short}
use Rattle.tb_read.proofs.clauses.is_broken.Goals as goal

pub returns : goal.returns
returns c = ap not c.is_empty.ensures ∙ sym (broken_short c.args.on_wait c.loop-left.left.now c.in_default.len_below) ∙ c.loop-left.invariant
