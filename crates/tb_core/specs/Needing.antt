-- Where a step may be needed directly. No public clause cites this module.
use Rattle.std.specs.Prelude.{◌≡◌, ◌≤◌, ◌<◌, ℕ, List, Bool, true, false, ◌||◌, IsFalse, IsTrue, Option, Some, None, get_or, length, take}
use Rattle.tb_model.specs.declared.action.Action.{Action}
use Rattle.tb_model.specs.declared.action.Action.TheVariants.{Start, Load, Store, Print, Spawn, Wait, Close}
use Rattle.tb_model.specs.declared.event.Event.{Event}
use Rattle.tb_model.specs.Names.{Name, same_name, is_child, is_within}
use Rattle.tb_model.specs.Facts.{is_of, is_print, touches}
use Rattle.tb_model.specs.Needs.{needs, waits_for}
use Rattle.tb_steps.specs.Entries.{Entry}
use Rattle.tb_steps.specs.Scans.{history_of}

-- the event touches the cell that the action touches, prints as it does, or is one of the task that it generates
abbrev pub meets : Action → Event → Bool
meets (Load r c x) v = touches c v.action
meets (Store c x) v = touches c v.action
meets (Print x) v = is_print v.action
meets (Spawn s) v = is_of s.child v
meets _ v = false

-- the action can wait for a task other than its own, for which a start may wait or none does
abbrev pub may_wait : Bool → Action → Bool
may_wait is_met Start = is_met
may_wait is_met (Wait items) = true
may_wait is_met Close = true
may_wait is_met _ = false

-- the action of t may need the end of u, by what is read off the action and the names, and by whether a start may
abbrev pub may_wait_for : Bool → Action → Name → Name → Bool
may_wait_for is_met a t u = may_wait is_met a || (is_child t u || same_name t u)

-- no task of a stored step after the one at index `at` would wait, if it started there, for the end of that one's task
abbrev pub NoStartWaits : List Entry → ℕ → Type 0
NoStartWaits entries at =
    (k : ℕ) (v u : Entry) → at < k → k < length entries → v ≡ get_or entries k v → u ≡ get_or entries at u → IsFalse (waits_for (history_of (take k entries)) v.event.task Start u.event.task)

-- no stored step from the one index on, in front of the other, directly needs the one at the index
-- `at`
abbrev pub NoneNeeds : List Entry → ℕ → ℕ → ℕ → Type 0
NoneNeeds entries at from to =
    (k : ℕ) (v u : Entry) → from ≤ k → k < to → v ≡ get_or entries k v → u ≡ get_or entries at u → IsFalse (needs (history_of (take k entries)) v.event u.event)

-- no stored step of the task from the one index on, before the other, directly needs the one at index `at`
abbrev pub NoneOf : Name → List Entry → ℕ → ℕ → ℕ → Type 0
NoneOf t entries at from to =
    (k : ℕ) (v u : Entry) → from ≤ k → k < to → v ≡ get_or entries k v → u ≡ get_or entries at u → IsTrue (is_of t v.event) → IsFalse (needs (history_of (take k entries)) v.event u.event)

-- the second is the first, where there is one, or is above it
abbrev pub is_above : Option Name → Name → Bool
is_above None s = false
is_above (Some t) s = is_within s t

-- a stored step from the one index on, before the other, that directly needs the one at index `at` is of this task, where there is one, or of one above it
abbrev pub OnlyAbove : Option Name → List Entry → ℕ → ℕ → ℕ → Type 0
OnlyAbove t entries at from to =
    (k : ℕ) (v u : Entry) → from ≤ k → k < to → v ≡ get_or entries k v → u ≡ get_or entries at u → IsTrue (needs (history_of (take k entries)) v.event u.event) → IsTrue (is_above t v.event.task)
