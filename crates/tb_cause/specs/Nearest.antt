-- The steps that a step needs immediately, by their indexes: those that no other step which it
-- needs needs too.
use Rattle.std.specs.Prelude.{◌≡◌, ◌⊎◌, ◌<◌, ◌≤◌, ℕ, List, [], ◌∷◌, ◌++◌, Bool, true, false, ◌&&◌, ◌||◌, length, take, reverse, get_or, is_some, Option, Some, None}
use Rattle.std.specs.List.{AllByRecursion}
use Rattle.tb_model.specs.declared.action.Action.{Action}
use Rattle.tb_model.specs.declared.event.Event.{Event}
use Rattle.tb_model.specs.declared.action.Action.TheVariants.{Start, Load, Store, Print, Wait, Close}
use Rattle.tb_model.specs.Items.{has_no_items}
use Rattle.tb_model.specs.Names.{Name}
use Rattle.tb_model.specs.Facts.{History, prepend_if}
use Rattle.tb_model.specs.Causes.{Placed, some_needs}
use Rattle.tb_model.specs.Closure.{Needs}
use Rattle.tb_model.specs.Needs.{needs}
use Rattle.tb_steps.specs.Entries.{Entry}
use Rattle.tb_steps.specs.Scans.{history_of}
use Rattle.tb_races.specs.Immediate.{cause}
use Rattle.tb_cause.specs.Chains.{placed_at}
use Rattle.tb_cause.specs.Keys.{Key, Task, Parent, Stored, Touched, Printed}

-- of the events of K, the front part of H, the indexes of those that v needs immediately after H,
-- the newest first
abbrev pub nearest : History → Event → History → List ℕ
nearest H v [] = []
nearest H v (u ∷ K) = prepend_if (is_some (cause H v K u)) (length K) (nearest H v K)

-- these are those of the step at this index, in the order of the history
abbrev pub AreNearest : List Entry → ℕ → List ℕ → Type 0
AreNearest entries at places =
    (v : Entry) → v ≡ get_or entries at v → places ≡ reverse (nearest (history_of (take at entries)) v.event (history_of (take at entries)))

-- ---- on the way

-- the step at this index directly needs none in front of bottom, and none from top on
abbrev pub IsReach : List Entry → ℕ → ℕ → ℕ → Type 0
IsReach entries at bottom top =
    (v : Entry) → v ≡ get_or entries at v → (q : ℕ) (x : Entry) → q < at → (q < bottom) ⊎ (top ≤ q) → x ≡ get_or entries q x → needs (history_of (take at entries)) v.event x.event ≡ false

-- r is from left on, in front of the step at this index, which is v and needs it
pub record IsFound (entries : List Entry) (at : ℕ) (v : Event) (left : ℕ) (r : Placed) : Type 0 where
  pub place : ℕ
  pub after : left ≤ place
  pub before : place < at
  pub its_front : r.front ≡ history_of (take place entries)
  pub needed : Needs (v ∷ history_of (take at entries)) (r.event ∷ r.front)

-- these are the steps from left on that the step at this index needs, as far as others may be
-- needed by them
pub record AreFound (entries : List Entry) (at : ℕ) (v : Event) (left : ℕ) (found : List Placed) : Type 0 where
  pub sound : AllByRecursion (IsFound entries at v left) found
  pub complete : (q : ℕ) (x : Entry) → left ≤ q → q < at → x ≡ get_or entries q x → Needs (v ∷ history_of (take at entries)) (x.event ∷ history_of (take q entries))
      → (u : Event) → needs (history_of (take q entries)) x.event u ≡ true → some_needs found u ≡ true

-- what is found, with what is left, is all
abbrev pub AreSoFar : List Entry → ℕ → ℕ → List ℕ → Type 0
AreSoFar entries at left places =
    (v : Entry) → v ≡ get_or entries at v → places ++ nearest (history_of (take at entries)) v.event (history_of (take left entries)) ≡ nearest (history_of (take at entries)) v.event (history_of (take at entries))

-- of the stored steps in front of left, those at these indexes need all that the step at this index
-- directly needs
abbrev pub AreAnswered : List Entry → ℕ → ℕ → List ℕ → Type 0
AreAnswered entries at left places =
    (v : Entry) → v ≡ get_or entries at v → (q : ℕ) (x : Entry) → q < left → x ≡ get_or entries q x → needs (history_of (take at entries)) v.event x.event ≡ true → some_needs (placed_at entries places) x.event ≡ true

-- whatever gives a key that the action of t asks for by itself, or as a wait for all children,
-- gives one that passes: as far as it can be said without a look at what is in front
abbrev pub action_answered : (Key → Bool) → Name → Action → Bool
action_answered f t Start = false
action_answered f t Close = false
action_answered f t (Load r c x) = f (Stored c) || f (Touched c)
action_answered f t (Store c x) = f (Touched c)
action_answered f t (Print x) = f Printed
action_answered f t (Wait items) = has_no_items items && f (Parent t)
action_answered f t _ = true

-- whatever gives the key that the end of the undeferred child takes gives one that passes: the end
-- is a step of the child
abbrev pub held_answered : (Key → Bool) → Option Name → Bool
held_answered f None = true
held_answered f (Some c) = f (Task c)

-- whatever gives a key that v asks for gives one that passes; v's task is at an undeferred child if
-- one is named
abbrev pub answered : (Key → Bool) → Option Name → Event → Bool
answered f held v = held_answered f held && (f (Task v.task) && action_answered f v.task v.action)
