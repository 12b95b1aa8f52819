-- What synchronisation puts in front of what, with exclusion and without.
use Rattle.std.specs.Prelude.{[], ◌∷◌, ◌++◌, Bool, true, false, ◌||◌, Option, Some, None, IsTrue}
use Rattle.std.specs.List.{list_any}
use Rattle.tb_model.specs.declared.event.Event.{Event}
use Rattle.tb_model.specs.declared.step_id.StepId.{StepId}
use Rattle.tb_model.specs.Facts.{History, prepend_if}
use Rattle.tb_model.specs.Needs.{is_step}
use Rattle.tb_races.specs.declared.need_kind.NeedKind.{NeedKind}
use Rattle.tb_races.specs.declared.need_kind.NeedKind.TheVariants.{Task, Spawn, Conflict as Conflicts, Before, Apart, Wait as Waits, Group, Undeferred}
use Rattle.tb_races.specs.Kinds.{need_kind}

-- what every schedule retains, that with what exclusion made of this one, or all needs
pub data Order : Type 0 where
  Synchronised : Order
  WithExclusion : Order
  AllNeeds : Order

abbrev pub counts_exclusion : Order → Bool
counts_exclusion Synchronised = false
counts_exclusion WithExclusion = true
counts_exclusion AllNeeds = true

abbrev pub counts_conflicts : Order → Bool
counts_conflicts Synchronised = false
counts_conflicts WithExclusion = false
counts_conflicts AllNeeds = true

-- needs of the kind are links of the order: those of a conflict only where all needs are, and those of exclusion only where it counts
abbrev pub counts : Order → NeedKind → Bool
counts o Task = true
counts o Spawn = true
counts o (Conflicts c) = counts_conflicts o
counts o Before = true
counts o Apart = counts_exclusion o
counts o Waits = true
counts o Group = true
counts o Undeferred = true

abbrev pub counts_some : Order → Option NeedKind → Bool
counts_some o None = false
counts_some o (Some kind) = counts o kind

-- v, after H, directly needs the event u of H by a kind that counts
abbrev pub links : Order → History → Event → Event → Bool
links o H v u = counts_some o (need_kind H v u)

-- the newest event of the first history comes after that of the second: the least relation that contains the links and is
-- closed under chaining; an event is named by itself with all in front of it
pub data ComesAfter : Order → History → History → Type 0 where
  directly : (o : Order) (v u : Event) (between front : History) → IsTrue (links o (between ++ u ∷ front) v u) → ComesAfter o (v ∷ (between ++ u ∷ front)) (u ∷ front)
  by_way : {o : Order} {F G H : History} → ComesAfter o F G → ComesAfter o G H → ComesAfter o F H

-- the step e and all that come after it, in the order of the history
abbrev pub followers : Order → StepId → History → History
followers o e [] = []
followers o e (v ∷ H) = prepend_if (is_step e H v || list_any (links o H v) (followers o e H)) v (followers o e H)

-- v, after H, comes after the step e of H
abbrev pub comes_after : Order → StepId → History → Event → Bool
comes_after o e H v = list_any (links o H v) (followers o e H)
