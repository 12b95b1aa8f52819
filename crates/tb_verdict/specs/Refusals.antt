-- Why an event may not follow a history, where there is no program.
use Rattle.std.specs.Prelude.{ℕ, zero, suc, ℤ, Bool, true, false, not, ◌==◌, length, Option, Some, None, option_map, if◌then◌else◌}
use Rattle.std.specs.List.{list_any}
use Rattle.std.specs.Option.{option_or}
use Rattle.std.specs.Ordering.{int_eq}
use Rattle.tb_model.specs.declared.action.Action.{Action}
use Rattle.tb_model.specs.declared.action.Action.TheVariants.{Load, Spawn, Close}
use Rattle.tb_model.specs.declared.event.Event.{Event}
use Rattle.tb_model.specs.Names.{Name, child, same_name}
use Rattle.tb_model.specs.Facts.{History, own, ends, last, is_spawned, is_start}
use Rattle.tb_model.specs.State.{open_groups}
use Rattle.tb_model.specs.Legal.{Cells, first_number, spawn_count}
use Rattle.tb_model.specs.Hindrances.{Hindrance, in_the_way}
use Rattle.tb_model.specs.Hindrances as hindrance
use Rattle.tb_verdict.specs.declared.refusal.Refusal.{Refusal}
use Rattle.tb_verdict.specs.declared.refusal.Refusal.TheVariants.{NoSuchTask, Ended, Waiting, Excluded, Children, Group, Undeferred, NotStarted, Started, Reads, Child, NoGroup, Step}

abbrev pub number_of : Refusal → ℕ
number_of NoSuchTask = 1
number_of Ended = 2
number_of (Waiting pred) = 3
number_of (Excluded by) = 4
number_of (Children first) = 5
number_of (Group first) = 6
number_of (Undeferred child) = 13
number_of NotStarted = 14
number_of Started = 15
number_of (Reads number) = 16
number_of (Child due) = 17
number_of NoGroup = 18
number_of (Step due) = 19

-- what blocks the task's action
abbrev pub kept_by : Hindrance → Refusal
kept_by (hindrance.Undeferred u) = Undeferred u
kept_by (hindrance.Waiting u) = Waiting u
kept_by (hindrance.Excluded u) = Excluded u
kept_by (hindrance.Children u) = Children u
kept_by (hindrance.Group u) = Group u

-- ---- whether it is the task's turn, after so many steps of its own

-- a step without an ordinal is the next one
abbrev pub is_due : Option ℕ → ℕ → Bool
is_due None due = true
is_due (Some k) due = k == due

-- a start comes first, and once
abbrev pub started_by : ℕ → Bool → Option Refusal
started_by zero true = None
started_by zero false = Some NotStarted
started_by (suc n) true = Some Started
started_by (suc n) false = None

abbrev pub out_of_turn : Option ℕ → ℕ → Action → Option Refusal
out_of_turn k steps a = if is_due k (suc steps) then started_by steps (is_start a) else Some (Step (suc steps))

-- ---- what the action says that isn't so

-- a load has its cell's last value
abbrev pub misread : ℤ → ℤ → Option Refusal
misread x number = if int_eq x number then None else Some (Reads number)

-- a child has the task's next name
abbrev pub misnamed : Name → Name → Option Refusal
misnamed u due = if same_name u due then None else Some (Child due)

-- a group that is closed was opened
abbrev pub unopened : ℕ → Option Refusal
unopened zero = Some NoGroup
unopened (suc n) = None

abbrev pub unfit : Cells → History → Name → Action → Option Refusal
unfit first H t (Load r c x) = misread x (last (first_number first c) c H)
unfit first H t (Spawn s) = misnamed s.child (child t (suc (spawn_count (own t H))))
unfit first H t Close = unopened (length (open_groups (own t H)))
unfit first H t _ = None

-- ---- the first reason that holds

abbrev pub kept_from : Cells → History → Name → Action → Option Refusal
kept_from first H t a = option_or (option_map kept_by (in_the_way H t a)) (unfit first H t a)

abbrev pub refusal_of : Cells → History → Option ℕ → Event → Option Refusal
refusal_of first H k v =
    if not (is_spawned H v.task) then Some NoSuchTask
    else (if list_any (ends v.task) H then Some Ended
    else option_or (out_of_turn k (length (own v.task H)) v.action) (kept_from first H v.task v.action))
