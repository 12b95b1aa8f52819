use Rattle.std.proofs.Common.{◌≡◌, ◌++◌, drop}
use Rattle.tb_view.proofs.named_tasks.put_all.Given as goal

-- those in the map so far, and those that are left, are all
abbrev pub invariant-tasks : goal.invariant-tasks
invariant-tasks l = l.map.entries ++ drop l.name-index l.row ≡ l.fn.map.entries ++ l.row
