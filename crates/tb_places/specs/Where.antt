-- Where events are in a history. Its indexes are counted from 0, the oldest event's.
use Rattle.std.specs.Prelude.{◌≡◌, ◌≤◌, ◌<◌, ℕ, List, Bool, Some, IsTrue, IsFalse, ◌+◌, map, filter, slice_get}
use Rattle.std.specs.List.{enumerate_from}
use Rattle.tb_model.specs.declared.event.Event.{Event}

-- the indexes, where the first is n, of the events at which the test passes
abbrev pub places_from : ℕ → (Event → Bool) → List Event → List ℕ
places_from n p events = map (λ s. s.0) (filter (λ s. p s.1) (enumerate_from n events))

-- the indexes of the events at which the test passes, the oldest event first
abbrev pub places_where : (Event → Bool) → List Event → List ℕ
places_where p events = places_from 0 p events

-- no event from the one index on, in front of the other, passes the test
abbrev pub IsNoneFrom : (Event → Bool) → List Event → ℕ → ℕ → Type 0
IsNoneFrom p events from to = (k : ℕ) (e : Event) → from ≤ k → k < to → slice_get events k ≡ Some e → IsFalse (p e)

-- the last event in front of the one index that passes the test is at the other
pub record IsLastBefore (p : Event → Bool) (events : List Event) (before at : ℕ) : Type 0 where
  pub front : at < before
  pub passes : (e : Event) → slice_get events at ≡ Some e → IsTrue (p e)
  pub none : IsNoneFrom p events (at + 1) before
