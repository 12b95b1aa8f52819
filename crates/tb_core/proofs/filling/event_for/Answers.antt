use Rattle.tb_core.proofs.FillingLemmas.{whole_named}
use Rattle.tb_core.proofs.filling.event_for.Goals as goal

pub returns-then-is_whole : goal.returns-then-is_whole
returns-then-is_whole c = whole_named c.args.tables.now c.args.task.now c.in_ok-task.task c.args.action c.in_ok-task.ensures.cases (c.is_whole.ensures c.if-is_whole.true)
