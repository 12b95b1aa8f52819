use Rattle.std.proofs.Common.{◌≡◌, ◌++◌, drop, codes}
use Rattle.tb_core.specs.Seen.{history}
use Rattle.tb_view.specs.Listing.{joined, listed, lines_of}
use Rattle.tb_view.specs.Tasks.{task_line}
use Rattle.tb_view.proofs.tasks.tasks_text.Given as goal

-- the text so far, and the lines of the tasks that are left, are the whole
abbrev pub invariant-tasks : goal.invariant-tasks
invariant-tasks l =
    l.text ++ joined (lines_of (task_line l.program (history l.core.run)) (drop l.task-index l.task-items)) ≡ listed (codes "tasks") (lines_of (task_line l.program (history l.core.run)) l.task-items)
