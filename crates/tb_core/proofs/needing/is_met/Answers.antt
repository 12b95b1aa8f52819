use Rattle.tb_core.proofs.NeedingLemmas.{no_start}
use Rattle.tb_core.proofs.needing.is_met.Goals as goal

pub returns : goal.returns
returns c none = no_start c.args.entries.now c.args.at c.task.result.now c.is_legal.ensures c.task.ensures (c.is_met.ensures none)
