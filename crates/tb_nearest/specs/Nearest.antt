-- Which events need an event nearest: of each kind of need the next one alone, so that an index of the history answers it. Each
-- other event that needs it needs one of these.
use Rattle.std.specs.Prelude.{◌≡◌, ℕ, List, [], ◌∷◌, ◌++◌, Bool, true, false, ◌&&◌, ◌||◌, IsTrue, IsFalse}
use Rattle.std.specs.List.{list_any}
use Rattle.tb_model.specs.declared.item.Item.{Item}
use Rattle.tb_model.specs.declared.action.Action.{Action}
use Rattle.tb_model.specs.declared.action.Action.TheVariants.{Start, Wait, Close}
use Rattle.tb_model.specs.declared.event.Event.{Event}
use Rattle.tb_model.specs.Names.{Name}
use Rattle.tb_model.specs.Facts.{History, is_of, own, before, apart, is_member, covers, holds, is_end, is_start, is_print, is_store_to, touches, spawns}
use Rattle.tb_model.specs.Needs.{conflicts}

-- ---- who blocks a start: OpenMP 5.2, 15.9.5 depend Clause

-- t can't start before u has ended, once that is under way: t depends on u, or the two exclude each other
abbrev pub blocks : History → Name → Name → Bool
blocks H u t = before H u t || apart H u t

-- the event starts a task that u blocks, and that blocks t
abbrev pub starts_between : History → Name → Name → Event → Bool
starts_between H u t w = is_start w.action && (blocks H u w.task && blocks H w.task t)

-- ---- which waits and closes ask for the end of a task

-- the action, of t, is a `taskwait` that covers u
abbrev pub covers_by : History → Name → Action → Name → Bool
covers_by H t (Wait items) u = covers H t items u
covers_by H t _ u = false

abbrev pub is_close : Action → Bool
is_close Close = true
is_close _ = false

-- some of these events, with front in front of them, closes a group of which m is a member
abbrev pub some_close : Name → History → History → Bool
some_close m [] front = false
some_close m (w ∷ between) front = (is_close w.action && is_member (own w.task (between ++ front)) m) || some_close m between front

-- ---- the nearest

-- v, which is after these events between, needs u, in front of them, nearest
pub data Nearest (v u : Event) (between front : History) : Type 0 where
  -- the task's next event
  next : IsTrue (is_of v.task u) → own v.task between ≡ [] → Nearest v u between front
  -- the first event of the child that u generates
  first : IsTrue (spawns v.task u) → own v.task (between ++ u ∷ front) ≡ [] → Nearest v u between front
  -- of what touches the cell all up to the next store
  touch : (c : ℕ) → IsTrue (conflicts v.action u.action) → IsTrue (touches c v.action) → IsTrue (touches c u.action)
      → IsFalse (list_any (λ (w : Event). is_store_to c w.action) between) → Nearest v u between front
  -- the next print
  print : IsTrue (is_print v.action) → IsTrue (is_print u.action) → IsFalse (list_any (λ (w : Event). is_print w.action) between) → Nearest v u between front
  -- the start of a sibling that the ended one blocks, where none that it blocks too, and that blocks this one, starts in between
  start : IsTrue (is_end u.action) → v.action ≡ Start → IsTrue (blocks (between ++ u ∷ front) u.task v.task)
      → IsFalse (list_any (starts_between (between ++ u ∷ front) u.task v.task) between) → Nearest v u between front
  -- the parent's next `taskwait` that covers the ended child
  wait : (items : List Item) → IsTrue (is_end u.action) → v.action ≡ Wait items → IsTrue (covers (between ++ u ∷ front) v.task items u.task)
      → IsFalse (list_any (λ (w : Event). is_of v.task w && covers_by (between ++ u ∷ front) v.task w.action u.task) between) → Nearest v u between front
  -- the next close of a group of which the ended task is a member
  close : IsTrue (is_end u.action) → v.action ≡ Close → IsTrue (is_member (own v.task (between ++ u ∷ front)) u.task)
      → IsFalse (some_close u.task between (u ∷ front)) → Nearest v u between front
  -- the event of the parent that was at the undeferred child
  resume : IsTrue (is_end u.action) → IsTrue (holds (own v.task (between ++ u ∷ front)) u.task) → Nearest v u between front

-- nearest needs, one after another
pub data Chain : History → History → Type 0 where
  link : (v u : Event) (between front : History) → Nearest v u between front → Chain (v ∷ (between ++ u ∷ front)) (u ∷ front)
  further : {F G H : History} → Chain F G → Chain G H → Chain F H
