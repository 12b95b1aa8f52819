-- Which tasks a history marks, those that haven't ended, and what the calls for an action change, action by action.
use Rattle.std.specs.Prelude.{◌≡◌, List, Bool, true, false, not, Option, Some, None, if◌then◌else◌}
use Rattle.std.specs.List.{list_any}
use Rattle.tb_model.specs.declared.action.Action.{Action}
use Rattle.tb_model.specs.declared.action.Action.TheVariants.{Spawn, End, Fault}
use Rattle.tb_model.specs.Names.{Name}
use Rattle.tb_model.specs.Facts.{History, ends, is_spawned}
use Rattle.tb_ready.specs.Tasks.{mark_of, with_name, without_name, with_mark}

-- the mark of t after H, that it hasn't ended, and None where it wasn't generated
abbrev pub mark_behind : History → Name → Option Bool
mark_behind H t = if is_spawned H t then Some (not (list_any (ends t) H)) else None

-- the names and marks are those of the history
abbrev pub AreMarks : History → List (Name × Bool) → Type 0
AreMarks H tasks = (t : Name) → mark_of tasks t ≡ mark_behind H t

-- what the calls for this action of the task change: a generated task is added and marked, and one that ended unmarked
abbrev pub MarkedBy : Name → Action → List (Name × Bool) → List (Name × Bool) → Type 0
MarkedBy t (Spawn s) old new = new ≡ with_mark (with_name old s.child) s.child true
MarkedBy t End old new = new ≡ with_mark old t false
MarkedBy t Fault old new = new ≡ with_mark old t false
MarkedBy t _ old new = new ≡ old

-- what the calls that take this action of the task back change: a generated task is removed, and
-- one that had ended marked
abbrev pub MarkedBackBy : Name → Action → List (Name × Bool) → List (Name × Bool) → Type 0
MarkedBackBy t (Spawn s) old new = new ≡ without_name old s.child
MarkedBackBy t End old new = new ≡ with_mark old t true
MarkedBackBy t Fault old new = new ≡ with_mark old t true
MarkedBackBy t _ old new = new ≡ old
