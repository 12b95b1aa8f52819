use Rattle.std.proofs.Common.{arith}
use Rattle.tb_read.proofs.ClauseLemmas.{count_short}
use Rattle.tb_read.proofs.clauses.item_count.Goals as goal

pub returns : goal.returns
returns c = omega (arith, count_short c.args.on_wait c.loop-left.left.now c.in_default.len_below, c.loop-left.invariant.counted)
