use Rattle.std.proofs.Common.{◌≡◌, take}
use Rattle.tb_steps.specs.Scans.{history_of}
use Rattle.tb_view.specs.Tasks.{named_tasks}
use Rattle.tb_view.proofs.tasks.named_tasks.Given as goal

-- the tasks of the steps so far
abbrev pub invariant-entries : goal.invariant-entries
invariant-entries l = l.tasks ≡ named_tasks l.root_line (history_of (take l.at l.entries))
