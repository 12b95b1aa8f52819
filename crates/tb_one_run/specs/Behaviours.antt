-- What tasks do next, by nothing but how they were spawned, what they did, and what a load would read. A program of the notation
-- is one such behaviour; a program whose tasks go by nothing but what they were given and what they load is another.
use Rattle.std.specs.Prelude.{◌≡◌, ◌⊎◌, ℕ, ℤ, List, [], ◌∷◌, Option, Some, ⊤}
use Rattle.tb_model.specs.declared.action.Action.{Action}
use Rattle.tb_model.specs.declared.action.Action.TheVariants.{Load}
use Rattle.tb_model.specs.declared.event.Event.{Event}
use Rattle.tb_model.specs.Names.{Name}
use Rattle.tb_model.specs.Facts.{History, own, HasEnded, IsSpawned}
use Rattle.tb_model.specs.State.{Called, called_by, spawn_of}
use Rattle.tb_model.specs.Legal.{Cells, MayFollow, Legal}
use Rattle.tb_model.specs.Program.{loaded}
use Rattle.tb_one_run.specs.Outcomes.{as_read_at}

abbrev pub IsNoLoad : Option Action → Type 0
IsNoLoad (Some (Load r c x)) = ⊥
IsNoLoad _ = ⊤

-- whatever value a load would read: one and the same action, which is no load, or none; or a load
-- of one cell into one register
abbrev pub OnlyReads : (ℤ → Option Action) → Type 0
OnlyReads f = ((a : Option Action) × IsNoLoad a × ((x : ℤ) → f x ≡ a)) ⊎ ((r : ℕ) × (c : ℕ) × ((x : ℤ) → f x ≡ Some (Load r c x)))

-- the cells with their first values, what represents the root's body, and what a task with this
-- body and these arguments, of this name and after these actions, does next where a load would read
-- this value
pub record Behaviour : Type 0 where
  pub cells : Cells
  pub root_line : ℕ
  pub gives : Called → Name → List Action → ℤ → Option Action
  pub reads : (k : Called) (t : Name) (acts : List Action) → OnlyReads (gives k t acts)

-- what t does next after H
abbrev pub given : Behaviour → History → Name → ℤ → Option Action
given B H t x = B.gives (called_by B.root_line (spawn_of t H)) t (own t H) x

abbrev pub Behaves : Behaviour → History → Event → Type 0
Behaves B H v = given B H v.task (loaded v.action) ≡ Some v.action

abbrev pub AllBehave : Behaviour → History → Type 0
AllBehave B [] = ⊤
AllBehave B (v ∷ H) = AllBehave B H × Behaves B H v

-- legal, and each event what the behaviour gives
abbrev pub IsRunOf : Behaviour → History → Type 0
IsRunOf B H = Legal B.cells H × AllBehave B H

pub record IsNextOf (B : Behaviour) (H : History) (v : Event) : Type 0 where
  pub may : MayFollow B.cells H v
  pub behaves : Behaves B H v

-- each task has ended or faulted
abbrev pub IsOver : History → Type 0
IsOver H = (t : Name) → IsSpawned H t → HasEnded H t

-- H is a run of the behaviour, after which both tasks can step next: the one to e, the other to f,
-- but for the value that f reads
pub record IsRealOf (B : Behaviour) (H : History) (e f : Event) : Type 0 where
  pub run : IsRunOf B H
  pub earlier : IsNextOf B H e
  pub later : IsNextOf B H (as_read_at B.cells H f)
