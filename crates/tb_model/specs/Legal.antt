-- Which histories are legal, event by event. Rules says the same over the whole list.
use Rattle.std.specs.Prelude.{ℕ, suc, ◌<◌, ◌≤◌, ◌≡◌, ◌≢◌, List, [], ◌∷◌, not, length, ℤ, IsTrue, ⊤, slice_get, unwrap_or}
use Rattle.std.specs.List.{AllByRecursion}
use Rattle.tb_model.specs.declared.place.Place.{Place}
use Rattle.tb_model.specs.declared.place.Place.TheVariants.{Cell, All}
use Rattle.tb_model.specs.declared.item.Item.{Item}
use Rattle.tb_model.specs.declared.action.Action.{Action}
use Rattle.tb_model.specs.declared.action.Action.TheVariants.{Start, Let, Load, Store, Print, Spawn, Wait, Open, Close, Test, End, Fault}
use Rattle.tb_model.specs.declared.event.Event.{Event}
use Rattle.tb_model.specs.Names.{Name, child}
use Rattle.tb_model.specs.Facts.{History, HasEnded, HasStarted, IsSpawned, is_end, own, last, before, apart, groups, is_member, covers, holds}

-- the cells with their first values
abbrev pub Cells : Type 0
Cells = List ℤ

-- a cell without a first value of its own begins at 0
abbrev pub first_number : Cells → ℕ → ℤ
first_number cells c = unwrap_or (slice_get cells c) (ℤ.pos 0)

-- the task of these actions has started, and hasn't ended
abbrev pub IsRunning : List Action → Type 0
IsRunning [] = ⊥
IsRunning (a ∷ acts) = IsTrue (not (is_end a))

-- how many children these actions generated
abbrev pub spawn_count : List Action → ℕ
spawn_count [] = 0
spawn_count (Spawn s ∷ acts) = suc (spawn_count acts)
spawn_count (_ ∷ acts) = spawn_count acts

-- a storage location that an item may name: a cell of the program, or all memory
abbrev pub IsPlace : Cells → Place → Type 0
IsPlace cells (Cell c) = c < length cells
IsPlace cells All = ⊤

-- t may do this after its own actions: its start comes first and nothing follows its end, registers
-- are r0 to r15, cells are the program's, children are numbered from 1, at most 16 arguments are
-- passed, and each close has its open
abbrev pub Continues : Cells → Name → List Action → Action → Type 0
Continues cells t acts Start = acts ≡ []
Continues cells t acts (Let r x) = IsRunning acts × (r < 16)
Continues cells t acts (Load r c x) = IsRunning acts × (r < 16) × (c < length cells)
Continues cells t acts (Store c x) = IsRunning acts × (c < length cells)
Continues cells t acts (Print x) = IsRunning acts
Continues cells t acts (Spawn s) =
    IsRunning acts × (s.child ≡ child t (suc (spawn_count acts))) × (length s.args ≤ 16) × AllByRecursion (λ (i : Item). IsPlace cells i.place) s.items
Continues cells t acts (Wait items) = IsRunning acts × AllByRecursion (λ (i : Item). IsPlace cells i.place) items
Continues cells t acts Open = IsRunning acts
Continues cells t acts Close = IsRunning acts × (groups acts ≢ [])
Continues cells t acts (Test answer) = IsRunning acts
Continues cells t acts End = IsRunning acts
Continues cells t acts Fault = IsRunning acts

-- t may start: it was generated, all that are before it have ended, and nothing that excludes it is
-- under way
pub record MayStart (H : History) (t : Name) : Type 0 where
  pub spawned : IsSpawned H t
  pub behind : (u : Name) → IsTrue (before H u t) → HasEnded H u
  pub alone : (u : Name) → IsTrue (apart H u t) → HasStarted H u → HasEnded H u

-- what other tasks and the cells allow: a load reads its cell's last value; a `taskwait` comes
-- after the ends of the children that it covers, and the end of a `taskgroup` after those of the
-- group's members
abbrev pub IsTimely : Cells → History → Name → Action → Type 0
IsTimely cells H t Start = MayStart H t
IsTimely cells H t (Load r c x) = x ≡ last (first_number cells c) c H
IsTimely cells H t (Wait items) = (u : Name) → IsTrue (covers H t items u) → IsSpawned H u → HasEnded H u
IsTimely cells H t Close = (m : Name) → IsTrue (is_member (own t H) m) → IsSpawned H m → HasEnded H m
IsTimely cells H t _ = ⊤

-- the undeferred child for which t waits, if there is one, has ended
abbrev pub IsResumed : History → Name → Type 0
IsResumed H t = (u : Name) → IsTrue (holds (own t H) u) → HasEnded H u

-- the event may follow H
pub record MayFollow (cells : Cells) (H : History) (v : Event) : Type 0 where
  pub own : Continues cells v.task (own v.task H) v.action
  pub resumed : IsResumed H v.task
  pub timely : IsTimely cells H v.task v.action

-- each event may follow those that are before it
abbrev pub Legal : Cells → History → Type 0
Legal cells [] = ⊤
Legal cells (v ∷ H) = Legal cells H × MayFollow cells H v
