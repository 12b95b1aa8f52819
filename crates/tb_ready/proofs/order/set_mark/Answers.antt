use Rattle.std.proofs.Common.{◌∙◌, sym}
use Rattle.tb_ready.proofs.TasksLemmas.{same_mark, set_same}
use Rattle.tb_ready.proofs.order.set_mark.Goals as goal

pub returns-then-is_marked-mark-clause-tasks : goal.returns-then-is_marked-mark-clause-tasks
returns-then-is_marked-mark-clause-tasks c =
    sym (set_same c.args.names.now.tasks c.args.at c.args.mark
    (sym c.is_marked.ensures.mark ∙ same_mark c.is_marked.result c.args.mark c.if-is_marked-mark.true) c.requires.there)
