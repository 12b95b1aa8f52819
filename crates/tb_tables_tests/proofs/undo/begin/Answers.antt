use Rattle.tb_undo.proofs.RunLemmas.{ahead_of_tasks}
use Rattle.tb_tables_tests.proofs.undo.begin.Goals as goal

pub apply_tasks-requires : goal.apply_tasks-requires
apply_tasks-requires c = ahead_of_tasks c.args.tables.now c.args.start.now c.requires.start c.requires.state
