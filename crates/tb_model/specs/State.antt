-- The state that a history leaves, part by part, besides what Facts says. Each part is a function
-- of the history.
use Rattle.std.specs.Prelude.{ℕ, suc, List, [], ◌∷◌, Bool, true, false, ◌&&◌, not, nat_le, ℤ, length, map, drop, Option, Some, None, if◌then◌else◌}
use Rattle.std.specs.List.{list_any}
use Rattle.tb_model.specs.declared.action.Action.{Action}
use Rattle.tb_model.specs.declared.action.Action.TheVariants.{Print, Spawn, Open, Close, End, Fault}
use Rattle.tb_model.specs.declared.item.Item.{Item}
use Rattle.tb_model.specs.declared.step_id.StepId.{StepId}
use Rattle.tb_model.specs.Names.{Name, is_child, is_within}
use Rattle.tb_model.specs.Facts.{History, own, ends, is_spawned, is_spawn_of, is_member, covers, holds}

-- ---- how far a task is

pub data Status : Type 0 where
  Pending : Status
  Running : Status
  Ended : Status
  Faulted : Status

-- by the newest of a task's own actions
abbrev pub status_of : List Action → Status
status_of [] = Pending
status_of (End ∷ acts) = Ended
status_of (Fault ∷ acts) = Faulted
status_of (_ ∷ acts) = Running

abbrev pub has_begun : Status → Bool
has_begun Pending = false
has_begun Running = true
has_begun Ended = true
has_begun Faulted = true

abbrev pub is_over : Status → Bool
is_over Pending = false
is_over Running = false
is_over Ended = true
is_over Faulted = true

-- ---- what was printed

-- the values printed so far, with what the action prints
abbrev pub with_print : Action → List ℤ → List ℤ
with_print (Print x) xs = x ∷ xs
with_print _ xs = xs

-- the values that were printed, the newest first
abbrev pub printed : History → List ℤ
printed [] = []
printed (v ∷ H) = with_print v.action (printed H)

-- ---- what a task was generated with

-- the action, where it generates t
abbrev pub spawn_or : Name → Action → Option Action → Option Action
spawn_or t a o = if is_spawn_of t a then Some a else o

-- the action that generated t
abbrev pub spawn_of : Name → History → Option Action
spawn_of t [] = None
spawn_of t (v ∷ H) = spawn_or t v.action (spawn_of t H)

-- a task's body, by the line that names it, and its arguments
pub record Called : Type 0 where
  pub line : ℕ
  pub args : List ℤ

-- as the spawn says; the root has the body at root_line, and no arguments
abbrev pub called_by : ℕ → Option Action → Called
called_by root_line (Some (Spawn s)) = record { line = s.body; args = s.args }
called_by root_line _ = record { line = root_line; args = [] }

-- the items that a spawn names
abbrev pub items_in : Option Action → List Item
items_in (Some (Spawn s)) = s.items
items_in _ = []

-- ---- open groups

-- the open groups, the innermost first, each by the ordinal of the step that opened it
abbrev pub open_groups : List Action → List ℕ
open_groups [] = []
open_groups (Open ∷ acts) = suc (length acts) ∷ open_groups acts
open_groups (Close ∷ acts) = drop 1 (open_groups acts)
open_groups (_ ∷ acts) = open_groups acts

-- the open groups of t, each by its step
abbrev pub open_groups_of : Name → History → List StepId
open_groups_of t H = map (λ k. record { task = t; k = k }) (open_groups (own t H))

-- these children, with the one that the action generates
abbrev pub with_child : Action → List Name → List Name
with_child (Spawn s) us = s.child ∷ us
with_child _ us = us

-- the children that the actions after the kth generated, the newest first
abbrev pub children_since : ℕ → List Action → List Name
children_since k [] = []
children_since k (a ∷ acts) = if nat_le k (length acts) then with_child a (children_since k acts) else []

-- m is a member of the open group of the kth step: a child generated since, or a descendant of one
abbrev pub is_member_of : ℕ → List Action → Name → Bool
is_member_of k acts m = list_any (λ c. is_within c m) (children_since k acts)

-- ---- who isn't done

-- t was generated and hasn't ended
abbrev pub is_unended : History → Name → Bool
is_unended H t = is_spawned H t && not (list_any (ends t) H)

-- u is an unended child of t
abbrev pub is_unended_child : History → Name → Name → Bool
is_unended_child H t u = is_child t u && is_unended H u

-- u is an unended child of t that a `taskwait` with these items waits for
abbrev pub is_unended_covered : History → Name → List Item → Name → Bool
is_unended_covered H t items u = covers H t items u && is_unended H u

-- m is an unended member of t's innermost open group
abbrev pub is_unended_member : History → Name → Name → Bool
is_unended_member H t m = is_member (own t H) m && is_unended H m

-- m is an unended member of the open group of t's kth step
abbrev pub is_unended_member_of : History → Name → ℕ → Name → Bool
is_unended_member_of H t k m = is_member_of k (own t H) m && is_unended H m

-- u is the undeferred child for which t waits, and hasn't ended
abbrev pub is_unended_undeferred : History → Name → Name → Bool
is_unended_undeferred H t u = holds (own t H) u && not (list_any (ends u) H)
