-- A run of the root with one cell: its start and a store, which is taken back and executed again.
use Rattle.std.proofs.Common.{◌≡◌, ◌<◌, List, [], ◌∷◌, refl, sym, subst, ℤ, IsTrue, arith}
use Rattle.std.proofs.lemmas.Bool.{false≢true}
use Rattle.tb_model.specs.declared.action.Action.TheVariants.{Start, Store}
use Rattle.tb_model.specs.declared.event.Event.{Event}
use Rattle.tb_model.specs.Names.{Name}
use Rattle.tb_model.specs.Facts.{before, apart, HasStarted, HasEnded}
use Rattle.tb_model.specs.Legal.{Cells, Legal, MayStart}
use Rattle.tb_model.specs.Lines.{Departure}
use Rattle.tb_model.specs.Needs.{step_of}
use Rattle.tb_model.specs.Reordering.{IsUnneeded}
use Rattle.tb_store.specs.declared.replaced.Replaced.{Replaced}
use Rattle.tb_undo.specs.State.{Seen, IsState}
use Rattle.tb_undo.specs.Steps.{Follows, IsAhead, IsAheadOfTasks, IsBehind, IsRecord, Precedes, Stands, IsWithout}

abbrev start : Event
start = record { task = []; action = Start }

abbrev store : Event
store = record { task = []; action = Store 0 (ℤ.pos 7) }

abbrev cells : Cells
cells = ℤ.pos 5 ∷ []

abbrev begun : List Departure
begun = record { event = start; to = 3 } ∷ []

abbrev stored : List Departure
stored = record { event = store; to = 4 } ∷ begun

first_cell : 0 < 1
first_cell = omega arith

first_few : 0 < 4294967295
first_few = omega arith

second_few : 1 < 4294967295
second_few = omega arith

may_start : MayStart [] []
may_start = record { spawned = refl; behind = behind; alone = alone }
  where
    behind : (u : Name) → IsTrue (before [] u []) → HasEnded [] u
    behind [] h = absurd (false≢true h)
    behind (n ∷ u) h = absurd (false≢true h)

    alone : (u : Name) → IsTrue (apart [] u []) → HasStarted [] u → HasEnded [] u
    alone u h s = absurd (false≢true s)

legal_start : Legal cells (start ∷ [])
legal_start = (tt, record { own = refl; resumed = λ u h. absurd (false≢true h); timely = may_start })

legal_store : Legal cells (store ∷ start ∷ [])
legal_store = (legal_start, record { own = (refl, first_cell); resumed = λ u h. absurd (false≢true h); timely = tt })

-- ---- the event of the call is that of the run

follows_start : (s : Seen) (v : Event) → v ≡ start → IsState cells 2 [] s → Follows cells 2 [] v s
follows_start s v e state = record { legal = subst (λ x. Legal cells (x ∷ [])) (sym e) legal_start; state = state; few = first_few }

follows_store : (s : Seen) (v : Event) → v ≡ store → IsState cells 2 begun s → Follows cells 2 begun v s
follows_store s v e state = record { legal = subst (λ x. Legal cells (x ∷ start ∷ [])) (sym e) legal_store; state = state; few = second_few }

pub ahead_start : (s : Seen) (v : Event) → v ≡ start → IsState cells 2 [] s → IsAhead s v
ahead_start s v e state = (cells, 2, [], follows_start s v e state)

pub ahead_of_tasks : (s : Seen) (v : Event) → v ≡ start → IsState cells 2 [] s → IsAheadOfTasks s v
ahead_of_tasks s v e state =
    let follows = follows_start s v e state in
    (cells, 2, [], record { legal = follows.legal; state = state.of_tasks; few = first_few })

pub state_begun : (s n : Seen) (v : Event) → v ≡ start → IsState cells 2 [] s → IsBehind s v 3 n → IsState cells 2 begun n
state_begun s n v e state b = subst (λ x. IsState cells 2 (record { event = x; to = 3 } ∷ []) n) e (b cells 2 [] (follows_start s v e state))

pub ahead_store : (s : Seen) (v : Event) → v ≡ store → IsState cells 2 begun s → IsAhead s v
ahead_store s v e state = (cells, 2, begun, follows_store s v e state)

-- the store is the newest event, so that nothing needs it
precedes : (s n : Seen) (v : Event) (r : Replaced) → v ≡ store → IsState cells 2 begun s → IsBehind s v 4 n → IsRecord s v r
    → Precedes cells 2 [] begun (record { event = v; to = 4 }) r n
precedes s n v r e state b told = record {
  legal = subst (λ x. Legal cells (x ∷ start ∷ [])) (sym e) legal_store;
  unneeded = subst (λ x. IsUnneeded (step_of (start ∷ []) x) (x ∷ start ∷ [])) (sym e) refl;
  replaced = told cells 2 begun (follows_store s v e state);
  state = b cells 2 begun (follows_store s v e state);
}

pub stands : (s n : Seen) (v : Event) (r : Replaced) → v ≡ store → IsState cells 2 begun s → IsBehind s v 4 n → IsRecord s v r → Stands n v r
stands s n v r e state b told = (cells, 2, [], begun, 4, precedes s n v r e state b told)

pub state_back : (s n m : Seen) (v : Event) (r : Replaced) → v ≡ store → IsState cells 2 begun s → IsBehind s v 4 n → IsRecord s v r → IsWithout n v r m
    → IsState cells 2 begun m
state_back s n m v r e state b told w = w cells 2 [] begun 4 (precedes s n v r e state b told)
