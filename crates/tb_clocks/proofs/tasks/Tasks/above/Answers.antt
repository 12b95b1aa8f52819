use Rattle.tb_clocks.proofs.StepLemmas.{no_row_there, row_there}
use Rattle.tb_clocks.proofs.TreeLemmas.{root_by}
use Rattle.tb_clocks.proofs.tasks.Tasks.above.Goals as goal

pub returns-then-row-task-clause-up : goal.returns-then-row-task-clause-up
returns-then-row-task-clause-up c cells H t a id =
    let item = c.in-Some.ensures.lookup in
    let row = row_there cells H c.args.self.now t c.args.task a id c.deref.result.now c.deref.ensures.value c.in-Some.row.now item.3.0 item.1 in
    record { parent = row.parent; ordinal = row.ordinal }

pub returns-else-row-task-clause-up : goal.returns-else-row-task-clause-up
returns-else-row-task-clause-up c cells H t a id =
    let item = c.in-Some.ensures.lookup in
    let row = row_there cells H c.args.self.now t c.args.task a id c.deref.result.now c.deref.ensures.value c.in-Some.row.now item.3.0 item.1 in
    root_by cells H c.args.task c.in-Some.row.now.parent t a.legal id row.parent c.if-row-task.false

pub returns-in-None-clause-up : goal.returns-in-None-clause-up
returns-in-None-clause-up c cells H t a id = absurd (no_row_there cells H c.args.self.now t c.args.task a id c.deref.result.now c.deref.ensures.value c.in-None.ensures.lookup.3)
