-- A race that rests on an earlier one, by computation: what the order puts in front of the two is no run.
use Rattle.std.proofs.Common.{◌≡◌, [], ◌∷◌, true, false, refl, None, ℕ, zero, suc, ℤ, arith, IsTrue}
use Rattle.std.proofs.lemmas.Bool.{both_ways}
use Rattle.tb_model.specs.declared.operand.Operand.TheVariants.{Number, Register}
use Rattle.tb_model.specs.declared.action.Action.{Action}
use Rattle.tb_model.specs.declared.action.Action.TheVariants.{Start, Load, Store, Spawn}
use Rattle.tb_model.specs.declared.event.Event.{Event}
use Rattle.tb_model.specs.declared.statement.Statement.TheVariants.{Start as DoStart, Load as DoLoad, Store as DoStore, Task as DoSpawn}
use Rattle.tb_model.specs.Names.{Name}
use Rattle.tb_model.specs.Facts.{History}
use Rattle.tb_model.specs.WellFormed.{WellFormed, WellAt}
use Rattle.tb_model.specs.Hindrances.{can_step, next_event}
use Rattle.tb_model.specs.Program.{Program, LegalFor, instr_at}
use Rattle.tb_races.specs.declared.conflict.Conflict.TheVariants.{Cell}
use Rattle.tb_races.specs.Orders.{WithExclusion}
use Rattle.tb_races.specs.Racing.{IsRace, unordered}
use Rattle.tb_one_run.specs.Outcomes.{HasRace, leading, as_read, IsReal}
use Rattle.tb_races.proofs.PassLemmas.{found_by_pass}
use Rattle.tb_one_run.proofs.ListedLemmas.{unraced}
use Rattle.tb_one_run.proofs.RunExampleLemmas.{step}
use Rattle.tb_one_run.proofs.FirstRaceLemmas.{first_real}

abbrev by : Name → Action → Event
by t a = record { task = t; action = a }

-- cells 2 / body main 0 / task a / task b / task c / end / body a 0 / store 0 1 / end / body b 0 / load r0 0 / store 1 r0 / end
-- / body c 0 / store 1 5 / end
abbrev program : Program
program = record {
  cells = ℤ.pos 0 ∷ ℤ.pos 0 ∷ [];
  bodies = [];
  lines =
      record { statement = DoStart; next = 1; otherwise = 1 }
      ∷ record { statement = DoSpawn 4 [] [] None; next = 2; otherwise = 2 }
      ∷ record { statement = DoSpawn 6 [] [] None; next = 3; otherwise = 3 }
      ∷ record { statement = DoSpawn 9 [] [] None; next = 11; otherwise = 11 }
      ∷ record { statement = DoStart; next = 5; otherwise = 5 }
      ∷ record { statement = DoStore (Number (ℤ.pos 0)) (Number (ℤ.pos 1)); next = 11; otherwise = 11 }
      ∷ record { statement = DoStart; next = 7; otherwise = 7 }
      ∷ record { statement = DoLoad 0 (Number (ℤ.pos 0)); next = 8; otherwise = 8 }
      ∷ record { statement = DoStore (Number (ℤ.pos 1)) (Register 0); next = 11; otherwise = 11 }
      ∷ record { statement = DoStart; next = 10; otherwise = 10 }
      ∷ record { statement = DoStore (Number (ℤ.pos 1)) (Number (ℤ.pos 5)); next = 11; otherwise = 11 } ∷ [];
  root_line = 0;
}

well : WellFormed program
well = record { depth = λ line. 0; root = refl; lines = at }
  where
    at : (line : ℕ) → WellAt program (λ l. 0) 0 (instr_at program line).next (instr_at program line).otherwise (instr_at program line).statement
    at zero = record { groups_open = refl; within = refl }
    at (suc zero) = (refl, omega arith, record { groups_open = refl; within = refl })
    at (suc (suc zero)) = (refl, omega arith, record { groups_open = refl; within = refl })
    at (suc (suc (suc zero))) = (refl, omega arith, record { groups_open = refl; within = refl })
    at (suc (suc (suc (suc zero)))) = record { groups_open = refl; within = refl }
    at (suc (suc (suc (suc (suc zero))))) = record { groups_open = refl; within = refl }
    at (suc (suc (suc (suc (suc (suc zero)))))) = record { groups_open = refl; within = refl }
    at (suc (suc (suc (suc (suc (suc (suc zero))))))) = (omega arith, record { groups_open = refl; within = refl })
    at (suc (suc (suc (suc (suc (suc (suc (suc zero)))))))) = record { groups_open = refl; within = refl }
    at (suc (suc (suc (suc (suc (suc (suc (suc (suc zero))))))))) = record { groups_open = refl; within = refl }
    at (suc (suc (suc (suc (suc (suc (suc (suc (suc (suc zero)))))))))) = record { groups_open = refl; within = refl }
    at (suc (suc (suc (suc (suc (suc (suc (suc (suc (suc (suc n))))))))))) = tt

go : {H : History} → LegalFor program H → (v : Event) → IsTrue (can_step program H v.task) → next_event program H v.task ≡ v → LegalFor program (v ∷ H)
go l v c e = step program well l v c e

abbrev generated : History
generated =
    by [] (Spawn (record { child = 3 ∷ []; body = 9; args = []; items = []; deferred = true })) ∷ by [] (Spawn (record { child = 2 ∷ []; body = 6; args = []; items = []; deferred = true })) ∷ by [] (Spawn (record { child = 1 ∷ []; body = 4; args = []; items = []; deferred = true })) ∷ by [] Start ∷ []

abbrev stores : Event
stores = by (1 ∷ []) (Store 0 (ℤ.pos 1))

abbrev read : Event
read = by (2 ∷ []) (Load 0 0 (ℤ.pos 1))

-- a stores
abbrev stored : History
stored = stores ∷ by (1 ∷ []) Start ∷ generated

-- b loads, which is a race with a's store
abbrev loaded : History
loaded = read ∷ by (2 ∷ []) Start ∷ stored

-- b stores what it read; c stores to the same cell, which is a race too
abbrev earlier : Event
earlier = by (2 ∷ []) (Store 1 (ℤ.pos 1))

abbrev later : Event
later = by (3 ∷ []) (Store 1 (ℤ.pos 5))

abbrev front : History
front = by (3 ∷ []) Start ∷ earlier ∷ loaded

loaded_run : LegalFor program loaded
loaded_run =
    go (go (go (go (go (go (go (go (tt, tt) (by [] Start) refl refl) (by [] (Spawn (record { child = 1 ∷ []; body = 4; args = []; items = []; deferred = true }))) refl refl) (by [] (Spawn (record { child = 2 ∷ []; body = 6; args = []; items = []; deferred = true }))) refl refl) (by [] (Spawn (record { child = 3 ∷ []; body = 9; args = []; items = []; deferred = true }))) refl refl)
    (by (1 ∷ []) Start) refl refl) (by (1 ∷ []) (Store 0 (ℤ.pos 1))) refl refl) (by (2 ∷ []) Start) refl refl) (by (2 ∷ []) (Load 0 0 (ℤ.pos 1))) refl refl

whole_run : LegalFor program (later ∷ front)
whole_run = go (go (go loaded_run earlier refl refl) (by (3 ∷ []) Start) refl refl) later refl refl

-- the two race
second_race : IsRace WithExclusion (later ∷ front) (earlier ∷ loaded)
second_race =
    unordered WithExclusion later earlier (by (3 ∷ []) Start ∷ []) loaded (Cell 1) refl (λ a.
    both_ways false refl ((found_by_pass WithExclusion (by (3 ∷ []) Start ∷ []) later earlier loaded).1 a))

-- the load and the store in front of these two race too
load_race : IsRace WithExclusion loaded stored
load_race =
    unordered WithExclusion read stores (by (2 ∷ []) Start ∷ []) (by (1 ∷ []) Start ∷ generated) (Cell 0) refl (λ a.
    both_ways false refl ((found_by_pass WithExclusion (by (2 ∷ []) Start ∷ []) read stores (by (1 ∷ []) Start ∷ generated)).1 a))

earlier_race : HasRace WithExclusion front
earlier_race = record { newer = by (3 ∷ []) Start ∷ earlier ∷ []; later = loaded; earlier = stored; split = refl; race = load_race }

-- in front of the two b reads 1, and nothing stored it
no_run : IsReal program (leading WithExclusion (later ∷ front) (earlier ∷ loaded) front) earlier later → ⊥
no_run r = let e : ℤ.pos 1 ≡ ℤ.pos 0 = r.run.0.0.1.timely in cc

-- the load's race is the first, and it is real
none_before : HasRace WithExclusion (by (2 ∷ []) Start ∷ stored) → ⊥
none_before r = unraced WithExclusion (by (2 ∷ []) Start ∷ stored) (((((((tt, refl), refl), refl), refl), refl), refl), refl) r

first_is_real : IsReal program (leading WithExclusion loaded stored (by (2 ∷ []) Start ∷ stored)) stores read
first_is_real = first_real program read stores (by (2 ∷ []) Start ∷ stored) (by (1 ∷ []) Start ∷ generated) loaded_run load_race none_before

-- there it reads 0
reads_other : (as_read program (leading WithExclusion loaded stored (by (2 ∷ []) Start ∷ stored)) read).action ≡ Load 0 0 (ℤ.pos 0)
reads_other = refl
