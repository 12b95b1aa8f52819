-- What the table holds of a history, and what its calls for an action change, action by action.
use Rattle.std.specs.Prelude.{◌≡◌, List, [], ◌∷◌, true, false, Option, Some, None, if◌then◌else◌}
use Rattle.tb_model.specs.declared.action.Action.{Action}
use Rattle.tb_model.specs.declared.action.Action.TheVariants.{Spawn, Open, Close, End, Fault}
use Rattle.tb_model.specs.Names.{Name}
use Rattle.tb_model.specs.Facts.{History, own, is_spawned}
use Rattle.tb_wait.specs.Kin.{Kin, Tasks, kin, fresh, with_over, one_more, opened_kin, unopened_kin, closed_kin, unclosed_kin, Changes, IsSame, Adds, Drops}

-- what an action changes of what is stored of its own task
abbrev pub kin_by : Action → Kin → Kin
kin_by (Spawn s) k = one_more k
kin_by Open k = opened_kin k
kin_by Close k = closed_kin k
kin_by End k = with_over true k
kin_by Fault k = with_over true k
kin_by _ k = k

-- what is stored of a task with these actions, the newest first
abbrev pub kin_from : List Action → Kin
kin_from [] = fresh
kin_from (a ∷ acts) = kin_by a (kin_from acts)

-- what is stored of t after H, and None where t wasn't generated
abbrev pub kin_of : History → Name → Option Kin
kin_of H t = if is_spawned H t then Some (kin_from (own t H)) else None

-- the table is that of the history
abbrev pub AreKin : History → Tasks → Type 0
AreKin H tasks = (t : Name) → kin tasks t ≡ kin_of H t

-- what the calls for this action of the task change
abbrev pub ChangesBy : Name → Action → Tasks → Tasks → Type 0
ChangesBy t (Spawn s) old new = Adds old t s.child new
ChangesBy t Open old new = Changes old t opened_kin new
ChangesBy t Close old new = Changes old t closed_kin new
ChangesBy t End old new = Changes old t (with_over true) new
ChangesBy t Fault old new = Changes old t (with_over true) new
ChangesBy t _ old new = IsSame old new

-- what the calls that take this action of the task back change
abbrev pub ChangesBackBy : Name → Action → Tasks → Tasks → Type 0
ChangesBackBy t (Spawn s) old new = Drops old t s.child new
ChangesBackBy t Open old new = Changes old t unopened_kin new
ChangesBackBy t Close old new = Changes old t unclosed_kin new
ChangesBackBy t End old new = Changes old t (with_over false) new
ChangesBackBy t Fault old new = Changes old t (with_over false) new
ChangesBackBy t _ old new = IsSame old new
