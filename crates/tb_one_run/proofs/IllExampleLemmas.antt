-- A program that isn't well-formed, by computation: a task that can't go on blocks another's start
-- in one run alone.
use Rattle.std.proofs.Common.{◌≡◌, ◌≤◌, List, [], ◌∷◌, ◌++◌, length, Bool, true, false, cond, ◌||◌, ⊎_elim, refl, sym, ap, ◌∙◌, subst, None, ℕ, ℤ, arith}
use Rattle.std.proofs.lemmas.Bool.{and_parts, both_ways, false≢true, or_cases}
use Rattle.tb_model.specs.declared.kind.Kind.TheVariants.{Mutexinoutset}
use Rattle.tb_model.specs.declared.place.Place.TheVariants.{Cell}
use Rattle.tb_model.specs.declared.item.Item.{Item}
use Rattle.tb_model.specs.declared.clause.Clause.{Clause}
use Rattle.tb_model.specs.declared.address.Address.TheVariants.{Cell as At}
use Rattle.tb_model.specs.declared.operand.Operand.TheVariants.{Number}
use Rattle.tb_model.specs.declared.action.Action.{Action}
use Rattle.tb_model.specs.declared.action.Action.TheVariants.{Start, Let, Spawn, End}
use Rattle.tb_model.specs.declared.event.Event.{Event}
use Rattle.tb_model.specs.declared.statement.Statement.TheVariants.{Start as DoStart, Let as DoLet, Task as DoSpawn}
use Rattle.tb_model.specs.Names.{Name, is_elder, same_name}
use Rattle.tb_model.specs.Items.{some_meet, is_before}
use Rattle.tb_model.specs.Facts.{History, own, items_of, before, apart, holds, HasStarted, IsSpawned}
use Rattle.tb_model.specs.Legal.{Cells, Continues, IsTimely, MayFollow}
use Rattle.tb_model.specs.Program.{Program, LegalFor, IsNext}
use Rattle.tb_model.proofs.TestLemmas.{same_true}
use Rattle.tb_model.proofs.NeedsLemmas.{may_spawned}
use Rattle.tb_races.specs.Orders.{Synchronised}
use Rattle.tb_one_run.specs.Outcomes.{IsFinished, HasRace}
use Rattle.tb_one_run.proofs.OnceLemmas.{no_more}
use Rattle.tb_one_run.proofs.ListedLemmas.{listed}

abbrev by : Name → Action → Event
by t a = record { task = t; action = a }

abbrev one : Name
one = 1 ∷ []

abbrev two : Name
two = 2 ∷ []

abbrev items : List Item
items = record { kind = Mutexinoutset; place = Cell 0 } ∷ []

abbrev clauses : List Clause
clauses = record { kind = Mutexinoutset; address = At (Number (ℤ.pos 0)) } ∷ []

-- task a's first statement is a `let` of a register that there isn't
abbrev program : Program
program = record {
  cells = ℤ.pos 0 ∷ [];
  bodies = [];
  lines =
      record { statement = DoStart; next = 1; otherwise = 1 }
      ∷ record { statement = DoSpawn 3 [] clauses None; next = 2; otherwise = 2 }
      ∷ record { statement = DoSpawn 5 [] clauses None; next = 6; otherwise = 6 }
      ∷ record { statement = DoStart; next = 4; otherwise = 4 }
      ∷ record { statement = DoLet 20 (Number (ℤ.pos 0)); next = 6; otherwise = 6 }
      ∷ record { statement = DoStart; next = 6; otherwise = 6 } ∷ [];
  root_line = 0;
}

abbrev cells : Cells
cells = ℤ.pos 0 ∷ []

abbrev ready : History
ready =
    by [] End ∷ by [] (Spawn (record { child = two; body = 5; args = []; items = items; deferred = true })) ∷ by [] (Spawn (record { child = one; body = 3; args = []; items = items; deferred = true })) ∷ by [] Start ∷ []

root_may : MayFollow cells [] (by [] Start)
root_may = record { own = refl; resumed = λ u h. absurd (false≢true h); timely = record { spawned = refl; behind = λ u h. absurd (nobody u h); alone = λ u h s. absurd (false≢true s) } }
  where
    nobody : (u : Name) → before [] u [] ≡ true → ⊥
    nobody [] h = false≢true h
    nobody (n ∷ u) h = false≢true h

ready_run : LegalFor program ready
ready_run = (
  (
    (((tt, root_may), record { own = (refl, refl, omega arith, (omega arith, tt)); resumed = λ u h. absurd (false≢true h); timely = tt }), record { own = (refl, refl, omega arith, (omega arith, tt)); resumed = λ u h. absurd (false≢true h); timely = tt }),
    record { own = refl; resumed = λ u h. absurd (false≢true h); timely = tt },
  ),
  ((((tt, refl), refl), refl), refl),
)

-- either may be the first to start
child_may : (k : ℕ) → own (k ∷ []) ready ≡ [] → IsSpawned ready (k ∷ []) → items_of (k ∷ []) ready ≡ items → MayFollow cells ready (by (k ∷ []) Start)
child_may k o s i = record {
  own = o;
  resumed = λ u h. absurd (false≢true (sym (ap (λ acts. holds acts u) o) ∙ h));
  timely = record { spawned = s; behind = λ u b. absurd (nobody u b); alone = λ u b t. absurd (unstarted u b t) };
}
  where
    none : (p q : Bool) → some_meet is_before items (cond p items [] ++ (cond q items [] ++ [])) ≡ false
    none true true = refl
    none true false = refl
    none false true = refl
    none false false = refl

    nobody : (u : Name) → before ready u (k ∷ []) ≡ true → ⊥
    nobody u b =
        let c = and_parts (is_elder u (k ∷ [])) (some_meet is_before (items_of (k ∷ []) ready) (items_of u ready)) b in
        both_ways _ (ap (λ js. some_meet is_before js (items_of u ready)) i ∙ none _ _) c.1

    unstarted : (u : Name) → apart ready u (k ∷ []) ≡ true → HasStarted ready u → ⊥
    unstarted [] b t = false≢true b
    unstarted (m ∷ u) b t = false≢true t

-- the first can't go on, and so the second can't start
abbrev stuck : History
stuck = by one Start ∷ ready

stuck_run : LegalFor program stuck
stuck_run = ((ready_run.0, child_may 1 refl refl refl), (ready_run.1, refl))

stuck_finished : IsFinished program stuck
stuck_finished v n = at v.task v.action n
  where
    first : (a : Action) → IsNext program stuck (by one a) → ⊥
    first a n =
        let e : a ≡ Let 20 (ℤ.pos 0) = n.follows in
        let c : Continues cells one (own one stuck) (Let 20 (ℤ.pos 0)) = subst (Continues cells one (own one stuck)) e n.may.own in
        omega (arith, c.1)

    second : (a : Action) → IsNext program stuck (by two a) → ⊥
    second a n =
        let e : a ≡ Start = n.follows in
        let m : IsTimely cells stuck two Start = subst (IsTimely cells stuck two) e n.may.timely in
        false≢true (m.alone one refl refl)

    at : (t : Name) (a : Action) → IsNext program stuck (by t a) → ⊥
    at [] a n = no_more cells stuck (by [] a) [] stuck_run.0 n.may refl refl
    at (k ∷ p) a n =
        ⊎_elim (λ s. second a (subst (λ u. IsNext program stuck (by u a)) (sym (same_true two (k ∷ p) s)) n))
        (λ s.
        ⊎_elim (λ q. first a (subst (λ u. IsNext program stuck (by u a)) (sym (same_true one (k ∷ p) q)) n)) (λ q. false≢true q)
        (or_cases (same_name one (k ∷ p)) false s))
        (or_cases (same_name two (k ∷ p)) (same_name one (k ∷ p) || false) (may_spawned cells stuck (by (k ∷ p) a) stuck_run.0 n.may))

stuck_unraced : HasRace Synchronised stuck → ⊥
stuck_unraced r = (listed stuck).0 refl r

-- where the second starts first, the run is longer
abbrev longer : History
longer = by two End ∷ by two Start ∷ ready

longer_run : LegalFor program longer
longer_run = (
  ((ready_run.0, child_may 2 refl refl refl), record { own = refl; resumed = λ u h. absurd (false≢true h); timely = tt }),
  ((ready_run.1, refl), refl),
)

is_longer : length longer ≤ length stuck → ⊥
is_longer h = omega (arith, h)
