-- How the steps of a history are distinguished by their tasks.
use Rattle.std.specs.Prelude.{ℕ, zero, suc, ◌≡◌, ◌<◌, ◌≤◌, List, [], ◌∷◌, ◌++◌, Bool, false, ◌||◌, ◌==◌, if◌then◌else◌, Option, Some, None, length, slice_get, unwrap_or}
use Rattle.std.specs.Map.{lookup}
use Rattle.tb_model.specs.declared.event.Event.{Event}
use Rattle.tb_model.specs.Names.{Name, same_name}
use Rattle.tb_model.specs.Facts.{is_of, spawns}
use Rattle.tb_steps.specs.Entries.{Entry}
use Rattle.tb_lanes.specs.declared.tasks.Tasks.{Tasks}
use Rattle.tb_lanes.specs.Clocks.{Behind, IsOrigin, both_at, of_one, number, origin, previous}

-- the event is one of the task, or generates it
abbrev pub touch : Name → Event → Bool
touch t u = is_of t u || spawns t u

abbrev pub touched_or : Name → ℕ → Option Entry → ℕ → ℕ
touched_or t n None old = old
touched_or t n (Some u) old = if touch t u.event then suc n else old

-- one more than the index of the newest of the first n steps that touches the task, 0 for none
abbrev pub touched : List Entry → Name → ℕ → ℕ
touched entries t zero = 0
touched entries t (suc n) = touched_or t n (slice_get entries n) (touched entries t n)

-- what is noted of each name
abbrev pub Places : Type 0
Places = List (Name × ℕ)

abbrev pub place_of : Places → Name → ℕ
place_of places t = unwrap_or (lookup (same_name t) places) 0

-- the name gets this index
abbrev pub IsPut : Places → Name → ℕ → Places → Type 0
IsPut old t to new = (u : Name) → place_of new u ≡ (if same_name t u then to else place_of old u)

abbrev pub of_so : Name → Option Entry → Bool
of_so t None = false
of_so t (Some u) = is_of t u.event

-- the step at the index is one of the task
abbrev pub of_at : List Entry → Name → ℕ → Bool
of_at entries t n = of_so t (slice_get entries n)

-- the newest of the first n steps is one of the task
abbrev pub is_last : List Entry → Name → ℕ → Bool
is_last entries t zero = false
is_last entries t (suc n) = of_at entries t n

-- of each task but that of the newest step the newest index is noted
abbrev pub AreNewest : List Entry → ℕ → Places → Type 0
AreNewest entries n places = (t : Name) → is_last entries t n ≡ false → place_of places t ≡ touched entries t n

-- the first n steps are numbered, with ids below this
pub record AreNumbered (entries : List Entry) (n count : ℕ) (tasks : Tasks) : Type 0 where
  pub previous_listed : length tasks.previous.items ≡ n
  pub numbers_listed : length tasks.numbers.items ≡ n
  pub origins_listed : length tasks.origins.items ≡ n
  pub few : count ≤ n
  pub low : (p : ℕ) → p < n → number tasks p < count
  pub near : (p : ℕ) → p < n → previous tasks p ≤ p
  pub behind_it : (p : ℕ) → p < n → origin tasks p ≤ p
  pub same : (p q : ℕ) → p < n → q < n → (number tasks p == number tasks q) ≡ both_at of_one entries p q
  pub behind : (p : ℕ) → p < n → Behind entries tasks p
  pub origins : (p : ℕ) → p < n → IsOrigin entries tasks p

-- one step more
pub record IsAdded (old : Tasks) (place its_number from : ℕ) (new : Tasks) : Type 0 where
  pub previous : new.previous.items ≡ old.previous.items ++ place ∷ []
  pub numbers : new.numbers.items ≡ old.numbers.items ++ its_number ∷ []
  pub origins : new.origins.items ≡ old.origins.items ++ from ∷ []
