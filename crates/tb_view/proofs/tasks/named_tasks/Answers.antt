use Rattle.std.proofs.Common.{arith}
use Rattle.tb_view.proofs.TaskLemmas.{named_more}
use Rattle.tb_view.proofs.tasks.named_tasks.Goals as goal

pub entries-preserved : goal.entries-preserved
entries-preserved c =
    named_more c.args.entries.now c.entries.at c.action.result.now (omega arith) c.action.ensures c.args.root_line c.entries.tasks _ c.entries.invariant c.in_ok-insert_spawned.ensures
