-- Which steps race: they conflict, and synchronisation leaves them unordered.
use Rattle.std.specs.Prelude.{◌≡◌, List, [], ◌∷◌, ◌++◌, Bool, true, false, Option, Some, None, option_map, if◌then◌else◌}
use Rattle.std.specs.Option.{option_or, option_to_list}
use Rattle.tb_model.specs.declared.event.Event.{Event}
use Rattle.tb_model.specs.declared.step_id.StepId.{StepId}
use Rattle.tb_model.specs.Facts.{History, is_of}
use Rattle.tb_model.specs.Needs.{step_of}
use Rattle.tb_races.specs.declared.conflict.Conflict.{Conflict}
use Rattle.tb_races.specs.declared.race.Race.{Race}
use Rattle.tb_races.specs.Kinds.{shared}
use Rattle.tb_races.specs.Orders.{Order, Synchronised, WithExclusion, AllNeeds, ComesAfter, comes_after}

-- what a later and an earlier event of different tasks share, so that their order can be seen
abbrev pub conflict : Event → Event → Option Conflict
conflict v u = if is_of v.task u then None else shared v.action u.action

-- the newest event of F conflicts with that of G, which is before it, and doesn't come after it; an
-- event is named with all in front of it
pub data IsRace : Order → History → History → Type 0 where
  unordered : (o : Order) (v u : Event) (between front : History) (shares : Conflict) → conflict v u ≡ Some shares
      → (ComesAfter o (v ∷ (between ++ u ∷ front)) (u ∷ front) → ⊥) → IsRace o (v ∷ (between ++ u ∷ front)) (u ∷ front)

-- what v, after H, and u, the newest event of the front part u ∷ K of H, race over: none where they
-- don't
abbrev pub contested : Order → History → Event → History → Event → Option Conflict
contested o H v K u = if comes_after o (step_of K u) H v then None else conflict v u

-- a race that the order leaves: where exclusion counts, the two can be under way at once
abbrev pub is_apart : Order → Bool
is_apart Synchronised = true
is_apart WithExclusion = false
is_apart AllNeeds = false

abbrev pub as_race : Order → StepId → StepId → Conflict → Race
as_race o e f shares = record { earlier = e; later = f; conflict = shares; apart = is_apart o }

-- the race of v, after H, with the newest event of K, the front part of H, with which it has one
abbrev pub newest_race : Order → History → Event → History → Option Race
newest_race o H v [] = None
newest_race o H v (u ∷ K) = option_or (option_map (as_race o (step_of K u) (step_of H v)) (contested o H v K u)) (newest_race o H v K)

-- the race that is named for v, after H: with the newest event from which exclusion doesn't
-- separate it, else with the newest
abbrev pub race_of : History → Event → Option Race
race_of H v = option_or (newest_race WithExclusion H v H) (newest_race Synchronised H v H)

-- the race of each event that has one, the newest first
abbrev pub races : History → List Race
races [] = []
races (v ∷ H) = option_to_list (race_of H v) ++ races H
