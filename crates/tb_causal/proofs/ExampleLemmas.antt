-- A small program, by computation: the premises of each law are met, and what isn't independent doesn't commute.
use Rattle.std.proofs.Common.{◌≡◌, List, [], ◌∷◌, ◌++◌, Bool, true, false, refl, sym, ap, ◌∙◌, cond, ℤ, ℕ, None, arith}
use Rattle.std.proofs.lemmas.Bool.{false≢true, and_parts, both_ways}
use Rattle.tb_model.specs.declared.kind.Kind.TheVariants.{Mutexinoutset}
use Rattle.tb_model.specs.declared.place.Place.TheVariants.{Cell}
use Rattle.tb_model.specs.declared.item.Item.{Item}
use Rattle.tb_model.specs.declared.clause.Clause.{Clause}
use Rattle.tb_model.specs.declared.address.Address.TheVariants.{Cell as At}
use Rattle.tb_model.specs.declared.operand.Operand.TheVariants.{Number}
use Rattle.tb_model.specs.declared.action.Action.{Action}
use Rattle.tb_model.specs.declared.action.Action.TheVariants.{Start, Print, Spawn, End}
use Rattle.tb_model.specs.declared.event.Event.{Event}
use Rattle.tb_model.specs.declared.step_id.StepId.{StepId}
use Rattle.tb_model.specs.declared.statement.Statement.TheVariants.{Start as DoStart, Print as DoPrint, Task as DoSpawn}
use Rattle.tb_model.specs.Names.{Name, is_elder, same_name}
use Rattle.tb_model.specs.Items.{some_meet, is_before}
use Rattle.tb_model.specs.Facts.{History, own, items_of, before, apart, holds, IsSpawned, HasStarted}
use Rattle.tb_model.specs.Legal.{Cells, MayFollow}
use Rattle.tb_model.specs.Needs.{needs}
use Rattle.tb_model.specs.Equivalent.{Equivalent, needs_in, stands}
use Rattle.tb_model.specs.Program.{Program, LegalFor, Follows}
use Rattle.tb_causal.specs.Systems.{Square, IsPath, end_of, CausallyEquivalent, PathBack}
use Rattle.tb_model.specs.declared.entry.Entry.{Entry}
use Rattle.tb_model.specs.declared.entry.Entry.TheVariants.{Opened, Stepped, Rolled}
use Rattle.tb_model.specs.Journal.{Sound}
use Rattle.tb_causal.specs.Runs.{Label, Step, Undo, Enabled, target, inverse, Independent, runs, steps_of, undos, path_of}
use Rattle.tb_causal.proofs.TransitionLemmas.{kept, square}
use Rattle.tb_causal.proofs.AxiomsLemmas.{axioms}
use Rattle.tb_causal.proofs.SystemLemmas.{consistent}
use Rattle.tb_causal.proofs.RollbackLemmas.{rollback_least}
use Rattle.tb_causal.proofs.StandingLemmas.{none_unneeded, unneeded_none}

abbrev by : Name → Action → Event
by t a = record { task = t; action = a }

abbrev one : Name
one = 1 ∷ []

abbrev two : Name
two = 2 ∷ []

-- cells 1 / body main 0 / task a with these clauses / task a with these clauses / end / body a 0 / print 7 / end
abbrev program : List Clause → Program
program cs = record {
  cells = ℤ.pos 0 ∷ [];
  bodies = [];
  lines =
      record { statement = DoStart; next = 1; otherwise = 1 }
      ∷ record { statement = DoSpawn 3 [] cs None; next = 2; otherwise = 2 }
      ∷ record { statement = DoSpawn 3 [] cs None; next = 5; otherwise = 5 }
      ∷ record { statement = DoStart; next = 4; otherwise = 4 }
      ∷ record { statement = DoPrint (Number (ℤ.pos 7)); next = 5; otherwise = 5 } ∷ [];
  root_line = 0;
}

-- a history in which both tasks were generated
abbrev ready : List Item → History
ready is = by [] (Spawn (record { child = two; body = 3; args = []; items = is; deferred = true })) ∷ by [] (Spawn (record { child = one; body = 3; args = []; items = is; deferred = true })) ∷ by [] Start ∷ []

-- the first steps of the two
abbrev first : Label
first = Step (record { task = one; k = 1 }) Start

abbrev second : Label
second = Step (record { task = two; k = 1 }) Start

abbrev cells : Cells
cells = ℤ.pos 0 ∷ []

root_may : MayFollow cells [] (by [] Start)
root_may = record { own = refl; resumed = λ u h. absurd (false≢true h); timely = record { spawned = refl; behind = λ u h. absurd (nobody u h); alone = λ u h s. absurd (false≢true s) } }
  where
    nobody : (u : Name) → before [] u [] ≡ true → ⊥
    nobody [] h = false≢true h
    nobody (n ∷ u) h = false≢true h

-- a child may start, where its items put nobody before it
child_may : (k : ℕ) (is : List Item) → own (k ∷ []) (ready is) ≡ [] → IsSpawned (ready is) (k ∷ []) → items_of (k ∷ []) (ready is) ≡ is → ((p q : Bool) → some_meet is_before is (cond p is [] ++ (cond q is [] ++ [])) ≡ false) → MayFollow cells (ready is) (by (k ∷ []) Start)
child_may k is o s i n = record {
  own = o;
  resumed = λ u h. absurd (false≢true (sym (ap (λ acts. holds acts u) o) ∙ h));
  timely = record { spawned = s; behind = λ u b. absurd (nobody u b); alone = λ u b t. absurd (unstarted u b t) };
}
  where
    nobody : (u : Name) → before (ready is) u (k ∷ []) ≡ true → ⊥
    nobody u b =
        let c = and_parts (is_elder u (k ∷ [])) (some_meet is_before (items_of (k ∷ []) (ready is)) (items_of u (ready is))) b in
        both_ways _ (ap (λ js. some_meet is_before js (items_of u (ready is))) i ∙ n _ _) c.1

    unstarted : (u : Name) → apart (ready is) u (k ∷ []) ≡ true → HasStarted (ready is) u → ⊥
    unstarted [] b t = false≢true b
    unstarted (m ∷ u) b t = false≢true t

-- ---- two tasks without clauses

abbrev free : Program
free = program []

free_run : LegalFor free (ready [])
free_run = (
  (((tt, root_may), record { own = (refl, refl, omega arith, tt); resumed = λ u h. absurd (false≢true h); timely = tt }), record { own = (refl, refl, omega arith, tt); resumed = λ u h. absurd (false≢true h); timely = tt }),
  (((tt, refl), refl), refl),
)

first_enabled : Enabled free (ready []) first
first_enabled = (refl, record { may = child_may 1 [] refl refl refl (λ p q. refl); follows = refl })

second_enabled : Enabled free (ready []) second
second_enabled = (refl, record { may = child_may 2 [] refl refl refl (λ p q. refl); follows = refl })

-- independent, so either order will do
starts_independent : Independent (ready []) first second
starts_independent = (refl, refl, refl)

starts_square : Square (runs free) (ready []) first second
starts_square = square free (ready []) first second free_run first_enabled second_enabled starts_independent

one_order : IsPath (runs free) (ready []) (first ∷ second ∷ [])
one_order = (first_enabled, (starts_square.first, tt))

other_order : IsPath (runs free) (ready []) (second ∷ first ∷ [])
other_order = (second_enabled, (starts_square.second, tt))

orders_equivalent : CausallyEquivalent (runs free) (ready []) (first ∷ second ∷ []) (second ∷ first ∷ [])
orders_equivalent = consistent (runs free) (axioms free) (ready []) _ _ free_run one_order other_order starts_square.meet

-- in the middle of the history the first start is undone
abbrev both : History
both = by two Start ∷ by one Start ∷ ready []

middle_undone : Enabled free both (inverse first)
middle_undone = (refl, refl)

middle_left : target both (inverse first) ≡ by two Start ∷ ready []
middle_left = refl

-- the steps that lead to a run
steps_to_one : steps_of (by one Start ∷ ready []) ≡ steps_of (ready []) ++ first ∷ []
steps_to_one = refl

-- steps with an undo after them, and the one step that is left of them
with_undo : IsPath (runs free) (ready []) (first ∷ second ∷ inverse first ∷ [])
with_undo = (first_enabled, (starts_square.first, (middle_undone, tt)))

undone_equivalent : CausallyEquivalent (runs free) (ready []) (first ∷ second ∷ inverse first ∷ []) (second ∷ [])
undone_equivalent =
    consistent (runs free) (axioms free) (ready []) _ _ free_run with_undo (second_enabled, tt)
    (((axioms free).refl) (by two Start ∷ ready []) (kept free (ready []) second free_run second_enabled))

-- an undo isn't independent of itself: it can't be taken twice
undone_once : Enabled free (target both (inverse first)) (inverse first) → ⊥
undone_once h = omega (arith, h.0)

-- a step of another number than its task's next couldn't be undone
wrong_number_stays : Enabled free (by one Start ∷ ready []) (Undo (record { task = one; k = 9 }) Start) → ⊥
wrong_number_stays h = omega (arith, h.0)

-- an undo that names what the step didn't do couldn't be taken back
wrong_action_lost : Enabled free (target both (Undo (record { task = one; k = 1 }) End)) (Step (record { task = one; k = 1 }) End) → ⊥
wrong_action_lost h = h.1.may.own

-- a step doesn't take itself back, and can't be taken twice
no_second_start : Enabled free (by one Start ∷ ready []) first → ⊥
no_second_start h = omega (arith, h.0)

-- after both starts each may print, and the two orders differ
abbrev print_one : Label
print_one = Step (record { task = one; k = 2 }) (Print (ℤ.pos 7))

abbrev print_two : Label
print_two = Step (record { task = two; k = 2 }) (Print (ℤ.pos 7))

either_prints : Enabled free both print_one × Enabled free both print_two
either_prints = (
  (refl, record { may = record { own = refl; resumed = λ u h. absurd (false≢true h); timely = tt }; follows = refl }),
  (refl, record { may = record { own = refl; resumed = λ u h. absurd (false≢true h); timely = tt }; follows = refl }),
)

prints_dependent : Independent both print_one print_two → ⊥
prints_dependent h = false≢true (sym h.0)

orders_differ : Equivalent (target (target both print_one) print_two) (target (target both print_two) print_one) → ⊥
orders_differ q = false≢true (q.there (record { task = two; k = 2 }) (record { task = one; k = 2 }) refl)

-- the two runs aren't one state, though they have the same steps: the last print alone can be
-- undone
last_print_undone : Enabled free (target (target both print_two) print_one) (inverse print_one)
last_print_undone = (refl, refl)

first_print_stays : Enabled free (target (target both print_one) print_two) (inverse print_one) → ⊥
first_print_stays h = omega (arith, h.0)

-- two different undos from one run are independent
other_undone : Enabled free both (inverse second)
other_undone = (refl, refl)

undos_apart : Independent both (inverse first) (inverse second)
undos_apart = (λ e. false≢true (ap (λ (i : StepId). same_name two i.task) e), refl, refl)

-- the spawn of the first task stays while its start is there
abbrev spawn_one : StepId
spawn_one = record { task = []; k = 2 }

needed_spawn : needs_in (record { task = one; k = 1 }) spawn_one both ≡ true
needed_spawn = refl

spawn_stays : Enabled free both (Undo spawn_one (Spawn (record { child = one; body = 3; args = []; items = []; deferred = true }))) → ⊥
spawn_stays h = omega (arith, h.0)

-- the undo of the spawn alone would leave too little
with_all_that_need_it : target both (Undo spawn_one (Spawn (record { child = one; body = 3; args = []; items = []; deferred = true }))) ≡ by [] Start ∷ []
with_all_that_need_it = refl

-- the start of the second task and the undo of its spawn aren't independent, those of the first and of that spawn are
abbrev undo_spawn : Label
undo_spawn = Undo (record { task = []; k = 3 }) (Spawn (record { child = two; body = 3; args = []; items = []; deferred = true }))

spawn_undone : Enabled free (ready []) undo_spawn
spawn_undone = (refl, refl)

start_needs_spawn : Independent (ready []) second undo_spawn → ⊥
start_needs_spawn h = false≢true (sym h)

no_start_without_spawn : Enabled free (target (ready []) undo_spawn) second → ⊥
no_start_without_spawn h = false≢true h.1.may.timely.spawned

start_beside_undo : Square (runs free) (ready []) first undo_spawn
start_beside_undo = square free (ready []) first undo_spawn free_run first_enabled spawn_undone refl

-- ---- ways back, and a journal

both_run : LegalFor free both
both_run =
    kept free (by one Start ∷ ready []) second (kept free (ready []) first free_run first_enabled) starts_square.first

-- both starts are undone, the second one first
both_undone : IsPath (runs free) both (inverse second ∷ inverse first ∷ [])
both_undone = (other_undone, ((refl, refl), tt))

gone : stands (record { task = one; k = 1 }) (end_of (runs free) both (inverse second ∷ inverse first ∷ [])) ≡ false
gone = refl

-- the rollback of the first start leaves the second, so the same run is reached from what it leaves
least_way : PathBack (runs free) (by two Start ∷ ready []) (ready [])
least_way =
    rollback_least free both (record { task = one; k = 1 }) (inverse second ∷ inverse first ∷ []) both_run both_undone (refl, (refl, tt)) gone

-- no step needs the first start, which is there: so it can be undone
can_go : Enabled free both (inverse first)
can_go =
    (none_unneeded (record { task = one; k = 1 }) both refl (unneeded_none (record { task = one; k = 1 }) both middle_undone.0), refl)

-- a journal of three steps and the rollback of the last
abbrev journal : List Entry
journal =
    Rolled 0 (record { task = []; k = 3 }) ∷ Stepped 0 (by [] (Spawn (record { child = two; body = 3; args = []; items = []; deferred = true }))) ∷ Stepped 1 (by [] (Spawn (record { child = one; body = 3; args = []; items = []; deferred = true }))) ∷ Stepped 0 (by [] Start) ∷ Opened ∷ []

journal_sound : Sound free journal
journal_sound = (
  (((refl, record { may = root_may; follows = refl }), record { may = free_run.0.0.1; follows = refl }), record { may = free_run.0.1; follows = refl }),
  refl,
)

what_it_did : path_of journal ≡ steps_of (ready []) ++ undo_spawn ∷ []
what_it_did = refl

-- a rollback of the first spawn: the starts of both tasks, the second spawn and it
rollback_undoes : undos spawn_one both ≡ inverse second ∷ inverse first ∷ undo_spawn ∷ Undo spawn_one (Spawn (record { child = one; body = 3; args = []; items = []; deferred = true })) ∷ []
rollback_undoes = refl

-- ---- two tasks that exclude each other

abbrev exclusive : Program
exclusive = program (record { kind = Mutexinoutset; address = At (Number (ℤ.pos 0)) } ∷ [])

abbrev held : List Item
held = record { kind = Mutexinoutset; place = Cell 0 } ∷ []

exclusive_run : LegalFor exclusive (ready held)
exclusive_run = (
  (
    ((tt, root_may), record { own = (refl, refl, omega arith, (omega arith, tt)); resumed = λ u h. absurd (false≢true h); timely = tt }),
    record { own = (refl, refl, omega arith, (omega arith, tt)); resumed = λ u h. absurd (false≢true h); timely = tt },
  ),
  (((tt, refl), refl), refl),
)

nobody_before : (p q : Bool) → some_meet is_before held (cond p held [] ++ (cond q held [] ++ [])) ≡ false
nobody_before true true = refl
nobody_before true false = refl
nobody_before false true = refl
nobody_before false false = refl

either_starts : Enabled exclusive (ready held) first × Enabled exclusive (ready held) second
either_starts = (
  (refl, record { may = child_may 1 held refl refl refl nobody_before; follows = refl }),
  (refl, record { may = child_may 2 held refl refl refl nobody_before; follows = refl }),
)

-- of the two starts neither needs the other
no_needs : (needs (by one Start ∷ ready held) (by two Start) (by one Start) ≡ false) × (needs (by two Start ∷ ready held) (by one Start) (by two Start) ≡ false)
no_needs = (refl, refl)

-- the second can't start after the first, though neither needs the other: so the two must not count
-- as independent
excluded : Enabled exclusive (target (ready held) first) second → ⊥
excluded h = false≢true (h.1.may.timely.alone one refl refl)

-- though the program gives it, no run goes on so
gives_it : Follows exclusive (by one Start ∷ ready held) (by two Start)
gives_it = refl

no_run : LegalFor exclusive (by two Start ∷ by one Start ∷ ready held) → ⊥
no_run h = false≢true (h.0.1.timely.alone one refl refl)

not_independent : Independent (ready held) first second → ⊥
not_independent h = false≢true (sym h.2)
