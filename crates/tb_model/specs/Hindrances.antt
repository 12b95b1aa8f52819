-- What blocks a task's next step, and which step that is. All are functions of the history.
use Rattle.std.specs.Prelude.{◌≡◌, IsTrue, List, [], ◌∷◌, Bool, ◌&&◌, not, ℤ, Option, Some, None, option_map, is_none, if◌then◌else◌}
use Rattle.std.specs.List.{list_any}
use Rattle.std.specs.Option.{option_or}
use Rattle.std.specs.declared.cmp.Ordering.{Ordering}
use Rattle.std.specs.declared.cmp.Ordering.TheVariants.{Greater}
use Rattle.tb_model.specs.declared.item.Item.{Item}
use Rattle.tb_model.specs.declared.action.Action.{Action}
use Rattle.tb_model.specs.declared.action.Action.TheVariants.{Start, Load, Wait, Close}
use Rattle.tb_model.specs.declared.event.Event.{Event}
use Rattle.tb_model.specs.Names.{Name, name_cmp}
use Rattle.tb_model.specs.LeastNames.{IsLeastName}
use Rattle.tb_model.specs.Facts.{History, starts, ends, is_spawned, last, before, apart}
use Rattle.tb_model.specs.State.{with_child, is_unended_covered, is_unended_member, is_unended_undeferred}
use Rattle.tb_model.specs.Legal.{Cells, first_number}
use Rattle.tb_model.specs.Program.{Program, planned, zero_ℤ}

-- ---- the least task that passes a test

-- the root and all that were generated, the newest first
abbrev pub spawned_names : History → List Name
spawned_names [] = [] ∷ []
spawned_names (v ∷ H) = with_child v.action (spawned_names H)

-- the first name, unless it comes after the second
abbrev pub lesser_by : Ordering → Name → Name → Name
lesser_by Greater t u = u
lesser_by _ t u = t

-- the lesser of a name and another, where there is another
abbrev pub lesser_name : Name → Option Name → Name
lesser_name t None = t
lesser_name t (Some u) = lesser_by (name_cmp t u) t u

-- the least of the names that pass
abbrev pub least_where : (Name → Bool) → List Name → Option Name
least_where p [] = None
least_where p (t ∷ ts) = if p t then Some (lesser_name t (least_where p ts)) else least_where p ts

-- ---- what blocks a task's action

-- the undeferred child for which it waits, a task that is before it, one that excludes it and is
-- under way, a child that its `taskwait` waits for, or a member of the group that it closes
pub data Hindrance : Type 0 where
  Undeferred : Name → Hindrance
  Waiting : Name → Hindrance
  Excluded : Name → Hindrance
  Children : Name → Hindrance
  Group : Name → Hindrance

-- u is before t, and hasn't ended
abbrev pub is_waited_for : History → Name → Name → Bool
is_waited_for H t u = before H u t && not (list_any (ends u) H)

-- u excludes t, has started and hasn't ended
abbrev pub is_excluding : History → Name → Name → Bool
is_excluding H t u = apart H u t && (list_any (starts u) H && not (list_any (ends u) H))

-- the least task that passes, as a hindrance of this kind
abbrev pub least_as : (Name → Hindrance) → (Name → Bool) → History → Option Hindrance
least_as kind p H = option_map kind (least_where p (spawned_names H))

-- what blocks t, but for the undeferred child
abbrev pub untimely : History → Name → Action → Option Hindrance
untimely H t Start = option_or (least_as Waiting (is_waited_for H t) H) (least_as Excluded (is_excluding H t) H)
untimely H t (Wait items) = least_as Children (is_unended_covered H t items) H
untimely H t Close = least_as Group (is_unended_member H t) H
untimely H t _ = None

-- what blocks this action of t, which was generated and hasn't ended: the undeferred child comes
-- first
abbrev pub in_the_way : History → Name → Action → Option Hindrance
in_the_way H t a = option_or (least_as Undeferred (is_unended_undeferred H t) H) (untimely H t a)

-- ---- the same as a relation, which the function finds

abbrev pub IsLeast : (Name → Bool) → Option Name → Type 0
IsLeast p o = IsLeastName (λ u. IsTrue (p u)) o

-- the task is at no undeferred child that hasn't ended
abbrev pub IsFree : History → Name → Type 0
IsFree H t = IsLeast (is_unended_undeferred H t) None

-- this is what blocks t's action, and nothing that comes first does
abbrev pub Hinders : History → Name → Action → Hindrance → Type 0
Hinders H t a (Undeferred u) = IsLeast (is_unended_undeferred H t) (Some u)
Hinders H t a (Waiting u) = IsFree H t × (a ≡ Start) × IsLeast (is_waited_for H t) (Some u)
Hinders H t a (Excluded u) = IsFree H t × (a ≡ Start) × IsLeast (is_waited_for H t) None × IsLeast (is_excluding H t) (Some u)
Hinders H t a (Children u) = IsFree H t × (items : List Item) × (a ≡ Wait items) × IsLeast (is_unended_covered H t items) (Some u)
Hinders H t a (Group u) = IsFree H t × (a ≡ Close) × IsLeast (is_unended_member H t) (Some u)

-- ---- the next step of a task

-- the value that the action reads, where it is a load
abbrev pub number_read : Cells → History → Action → ℤ
number_read cells H (Load r c x) = last (first_number cells c) c H
number_read cells H _ = zero_ℤ

-- what t would do next; a load reads its cell's last value
abbrev pub next_action : Program → History → Name → Action
next_action P H t = planned P H t (number_read P.cells H (planned P H t zero_ℤ))

abbrev pub next_event : Program → History → Name → Event
next_event P H t = record { task = t; action = next_action P H t }

-- why a step of a task is refused
pub data Refusal : Type 0 where
  NoSuchTask : Refusal
  Ended : Refusal
  By : Hindrance → Refusal

-- the first reason that holds; the value that a load reads is none
abbrev pub refusal_of : Program → History → Name → Option Refusal
refusal_of P H t =
    if not (is_spawned H t) then Some NoSuchTask
    else (if list_any (ends t) H then Some Ended
    else option_map By (in_the_way H t (planned P H t zero_ℤ)))

abbrev pub can_step : Program → History → Name → Bool
can_step P H t = is_none (refusal_of P H t)

-- the least task that can step
abbrev pub least_ready : Program → History → Option Name
least_ready P H = least_where (can_step P H) (spawned_names H)
