-- Runs of small programs, by computation, in which a law would fail without one of its hypotheses.
use Rattle.std.proofs.Common.{◌≡◌, ◌≤◌, List, [], ◌∷◌, length, true, refl, None, ℕ, zero, suc, ℤ, arith, IsTrue}
use Rattle.tb_model.specs.declared.kind.Kind.TheVariants.{Out, Mutexinoutset}
use Rattle.tb_model.specs.declared.place.Place.TheVariants.{Cell}
use Rattle.tb_model.specs.declared.item.Item.{Item}
use Rattle.tb_model.specs.declared.clause.Clause.{Clause}
use Rattle.tb_model.specs.declared.address.Address.TheVariants.{Cell as At}
use Rattle.tb_model.specs.declared.operand.Operand.TheVariants.{Number}
use Rattle.tb_model.specs.declared.action.Action.{Action}
use Rattle.tb_model.specs.declared.action.Action.TheVariants.{Start, Store, Spawn, End}
use Rattle.tb_model.specs.declared.event.Event.{Event}
use Rattle.tb_model.specs.declared.statement.Statement.TheVariants.{Start as DoStart, Store as DoStore, Task as DoSpawn}
use Rattle.tb_model.specs.Names.{Name}
use Rattle.tb_model.specs.Facts.{History}
use Rattle.tb_model.specs.SameState.{SameState}
use Rattle.tb_model.specs.WellFormed.{WellFormed, WellAt}
use Rattle.tb_model.specs.Hindrances.{can_step, next_event}
use Rattle.tb_model.specs.Program.{Program, LegalFor, instr_at}
use Rattle.tb_races.specs.Orders.{Synchronised, WithExclusion}
use Rattle.tb_one_run.specs.Outcomes.{IsFinished, HasRace}
use Rattle.tb_one_run.proofs.ListedLemmas.{listed, unraced, raced}
use Rattle.tb_one_run.proofs.RunExampleLemmas.{step, finished}

abbrev by : Name → Action → Event
by t a = record { task = t; action = a }

abbrev one : Name
one = 1 ∷ []

abbrev two : Name
two = 2 ∷ []

-- cells 1 / body main 0 / task a with these clauses / task b with these clauses / end / body a 0 / store 0 1 / end / body b 0 / store 0 2 / end
abbrev program : List Clause → Program
program cs = record {
  cells = ℤ.pos 0 ∷ [];
  bodies = [];
  lines =
      record { statement = DoStart; next = 1; otherwise = 1 }
      ∷ record { statement = DoSpawn 3 [] cs None; next = 2; otherwise = 2 }
      ∷ record { statement = DoSpawn 5 [] cs None; next = 7; otherwise = 7 }
      ∷ record { statement = DoStart; next = 4; otherwise = 4 }
      ∷ record { statement = DoStore (Number (ℤ.pos 0)) (Number (ℤ.pos 1)); next = 7; otherwise = 7 }
      ∷ record { statement = DoStart; next = 6; otherwise = 6 }
      ∷ record { statement = DoStore (Number (ℤ.pos 0)) (Number (ℤ.pos 2)); next = 7; otherwise = 7 } ∷ [];
  root_line = 0;
}

well : (cs : List Clause) → WellFormed (program cs)
well cs = record { depth = λ line. 0; root = refl; lines = at }
  where
    at : (line : ℕ) → WellAt (program cs) (λ l. 0) 0 (instr_at (program cs) line).next (instr_at (program cs) line).otherwise (instr_at (program cs) line).statement
    at zero = record { groups_open = refl; within = refl }
    at (suc zero) = (refl, omega arith, record { groups_open = refl; within = refl })
    at (suc (suc zero)) = (refl, omega arith, record { groups_open = refl; within = refl })
    at (suc (suc (suc zero))) = record { groups_open = refl; within = refl }
    at (suc (suc (suc (suc zero)))) = record { groups_open = refl; within = refl }
    at (suc (suc (suc (suc (suc zero))))) = record { groups_open = refl; within = refl }
    at (suc (suc (suc (suc (suc (suc zero)))))) = record { groups_open = refl; within = refl }
    at (suc (suc (suc (suc (suc (suc (suc n))))))) = tt

go : (cs : List Clause) {H : History} → LegalFor (program cs) H → (v : Event) → IsTrue (can_step (program cs) H v.task) → next_event (program cs) H v.task ≡ v → LegalFor (program cs) (v ∷ H)
go cs l v c e = step (program cs) (well cs) l v c e

-- both tasks were generated, and the root has ended
abbrev ready : List Item → History
ready is =
    by [] End ∷ by [] (Spawn (record { child = two; body = 5; args = []; items = is; deferred = true })) ∷ by [] (Spawn (record { child = one; body = 3; args = []; items = is; deferred = true })) ∷ by [] Start ∷ []

abbrev all_of : Name → ℤ → History → History
all_of t x H = by t End ∷ by t (Store 0 x) ∷ by t Start ∷ H

-- the one task before the other, either way
abbrev one_first : List Item → History
one_first is = all_of two (ℤ.pos 2) (all_of one (ℤ.pos 1) (ready is))

abbrev two_first : List Item → History
two_first is = all_of one (ℤ.pos 1) (all_of two (ℤ.pos 2) (ready is))

-- the cell says who came last
outcomes_differ : (is : List Item) → SameState (one_first is) (two_first is) → ⊥
outcomes_differ is s =
    let e : ℤ.pos 2 ≡ ℤ.pos 1 = s.cells (ℤ.pos 0) 0 in cc

-- two finished runs of the program
record BothFinished (cs : List Clause) (is : List Item) : Type 0 where
  one_run : LegalFor (program cs) (one_first is)
  one_finished : IsFinished (program cs) (one_first is)
  two_run : LegalFor (program cs) (two_first is)
  two_finished : IsFinished (program cs) (two_first is)

-- ---- two tasks without clauses

free_ready : LegalFor (program []) (ready [])
free_ready =
    go [] (go [] (go [] (go [] (tt, tt) (by [] Start) refl refl) (by [] (Spawn (record { child = one; body = 3; args = []; items = []; deferred = true }))) refl refl) (by [] (Spawn (record { child = two; body = 5; args = []; items = []; deferred = true }))) refl refl) (by [] End) refl refl

-- a race, and two outcomes
free_half : LegalFor (program []) (all_of one (ℤ.pos 1) (ready []))
free_half =
    go [] (go [] (go [] free_ready (by one Start) refl refl) (by one (Store 0 (ℤ.pos 1))) refl refl) (by one End) refl refl

free_runs : BothFinished [] []
free_runs =
    let l : LegalFor (program []) (one_first []) =
    go [] (go [] (go [] free_half (by two Start) refl refl) (by two (Store 0 (ℤ.pos 2))) refl refl) (by two End) refl refl
    in
    let m : LegalFor (program []) (two_first []) =
    go [] (go [] (go [] (go [] (go [] (go [] free_ready (by two Start) refl refl) (by two (Store 0 (ℤ.pos 2))) refl refl) (by two End) refl refl) (by one Start) refl refl) (by one (Store 0 (ℤ.pos 1))) refl refl) (by one End) refl refl
    in
    record {
      one_run = l;
      one_finished = finished (program []) (well []) (one_first []) l refl;
      two_run = m;
      two_finished = finished (program []) (well []) (two_first []) m refl;
    }

free_raced : HasRace Synchronised (one_first [])
free_raced = raced (one_first []) (λ e. cc)

two_outcomes : SameState (one_first []) (two_first []) → ⊥
two_outcomes s = outcomes_differ [] s

-- what isn't finished has no race yet, and is the shorter
half_unraced : HasRace Synchronised (all_of one (ℤ.pos 1) (ready [])) → ⊥
half_unraced r = (listed (all_of one (ℤ.pos 1) (ready []))).0 refl r

half_shorter : length (one_first []) ≤ length (all_of one (ℤ.pos 1) (ready [])) → ⊥
half_shorter h = omega (arith, h)

-- ---- two that exclude each other

abbrev clauses : List Clause
clauses = record { kind = Mutexinoutset; address = At (Number (ℤ.pos 0)) } ∷ []

abbrev items : List Item
items = record { kind = Mutexinoutset; place = Cell 0 } ∷ []

exclusive_runs : BothFinished clauses items
exclusive_runs =
    let r : LegalFor (program clauses) (ready items) =
    go clauses (go clauses (go clauses (go clauses (tt, tt) (by [] Start) refl refl) (by [] (Spawn (record { child = one; body = 3; args = []; items = items; deferred = true }))) refl refl) (by [] (Spawn (record { child = two; body = 5; args = []; items = items; deferred = true }))) refl refl) (by [] End) refl refl
    in
    let l : LegalFor (program clauses) (one_first items) =
    go clauses (go clauses (go clauses (go clauses (go clauses (go clauses r (by one Start) refl refl) (by one (Store 0 (ℤ.pos 1))) refl refl) (by one End) refl refl) (by two Start) refl refl) (by two (Store 0 (ℤ.pos 2))) refl refl) (by two End) refl refl
    in
    let m : LegalFor (program clauses) (two_first items) =
    go clauses (go clauses (go clauses (go clauses (go clauses (go clauses r (by two Start) refl refl) (by two (Store 0 (ℤ.pos 2))) refl refl) (by two End) refl refl) (by one Start) refl refl) (by one (Store 0 (ℤ.pos 1))) refl refl) (by one End) refl refl
    in
    record {
      one_run = l;
      one_finished = finished (program clauses) (well clauses) (one_first items) l refl;
      two_run = m;
      two_finished = finished (program clauses) (well clauses) (two_first items) m refl;
    }

-- the order with exclusion leaves no race, and still there are two outcomes
apart_only : HasRace WithExclusion (one_first items) → ⊥
apart_only r = unraced WithExclusion (one_first items) ((((((((((tt, refl), refl), refl), refl), refl), refl), refl), refl), refl), refl) r

apart_outcomes : SameState (one_first items) (two_first items) → ⊥
apart_outcomes s = outcomes_differ items s

apart_raced : HasRace Synchronised (one_first items)
apart_raced = raced (one_first items) (λ e. cc)

-- ---- the second depends on the first

abbrev ordering : List Clause
ordering = record { kind = Out; address = At (Number (ℤ.pos 0)) } ∷ []

abbrev ordered_items : List Item
ordered_items = record { kind = Out; place = Cell 0 } ∷ []

-- a finished run without a race, so that there is one outcome
ordered_run : LegalFor (program ordering) (one_first ordered_items)
ordered_run =
    let r : LegalFor (program ordering) (ready ordered_items) =
    go ordering (go ordering (go ordering (go ordering (tt, tt) (by [] Start) refl refl) (by [] (Spawn (record { child = one; body = 3; args = []; items = ordered_items; deferred = true }))) refl refl) (by [] (Spawn (record { child = two; body = 5; args = []; items = ordered_items; deferred = true }))) refl refl) (by [] End) refl refl
    in
    go ordering (go ordering (go ordering (go ordering (go ordering (go ordering r (by one Start) refl refl) (by one (Store 0 (ℤ.pos 1))) refl refl) (by one End) refl refl) (by two Start) refl refl) (by two (Store 0 (ℤ.pos 2))) refl refl) (by two End) refl refl

ordered_finished : IsFinished (program ordering) (one_first ordered_items)
ordered_finished = finished (program ordering) (well ordering) (one_first ordered_items) ordered_run refl

ordered_unraced : HasRace Synchronised (one_first ordered_items) → ⊥
ordered_unraced r = (listed (one_first ordered_items)).0 refl r
