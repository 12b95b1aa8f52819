-- The walk over the unended tasks, in the order of their names, to the least that can step.
use Rattle.std.proofs.Common.{◌≡◌, ℕ, Bool, true, false, not, refl, sym, ap, ◌∙◌, subst, IsTrue, Option, Some, None}
use Rattle.std.specs.Prelude.{◌↔◌, is_some, IfSome, IfNone, Result, Ok, Err, IfOk}
use Rattle.std.specs.List.{list_any}
use Rattle.std.specs.Ordering.{is_eq}
use Rattle.std.specs.declared.cmp.Ordering.{Ordering}
use Rattle.std.specs.declared.cmp.Ordering.TheVariants.{Less, Equal, Greater}
use Rattle.std.proofs.lemmas.Bool.{false≢true, both_ways, and_from}
use Rattle.tb_model.specs.Names.{Name, name_cmp}
use Rattle.tb_model.specs.NameLaws.{name_cmp_ties}
use Rattle.tb_model.specs.Facts.{History, is_spawned, ends}
use Rattle.tb_model.specs.State.{is_unended}
use Rattle.tb_model.specs.LeastNames.{IsAtMost, IsLeastName}
use Rattle.tb_model.specs.Program.{Program, planned, zero_ℤ}
use Rattle.tb_model.specs.Hindrances.{can_step, least_ready, in_the_way}
use Rattle.tb_model.proofs.TestLemmas.{same_true}
use Rattle.tb_model.proofs.LeastNameLemmas.{one_least, least_found}
use Rattle.tb_control.specs.Claims.{Claims, IsFreeBeside, IsHeldBeside}
use Rattle.tb_next.specs.Floor.{IsFloor, IsPassed}
use Rattle.tb_next.specs.Plans.{CanTake, IsSituatedOf, IsOfferOn, IsFound}
use Rattle.tb_next.proofs.FloorLemmas.{goes_on}
use Rattle.tb_plan.specs.declared.config.Config.{Config}
use Rattle.tb_core.specs.Seen.{Seen}
use Rattle.tb_core.specs.Seen as core
use Rattle.tb_next.specs.declared.offer.Offer.{Offer}
use Rattle.tb_next.specs.declared.offer.Offer.TheVariants.{Task, Later, Done, Stopped}
use Rattle.tb_ready.specs.Tasks.{IsBehind}
use Rattle.tb_undo.specs.Readings.{IsUnendedBehind}

-- ---- what the walk knows

pub can_spawned : (P : Program) (H : History) (t : Name) → can_step P H t ≡ true → is_spawned H t ≡ true
can_spawned P H t h = (goes_on (is_spawned H t) (list_any (ends t) H) (in_the_way H t (planned P H t zero_ℤ)) h).0

can_unended : (P : Program) (H : History) (t : Name) → can_step P H t ≡ true → is_unended H t ≡ true
can_unended P H t h =
    let g = goes_on (is_spawned H t) (list_any (ends t) H) (in_the_way H t (planned P H t zero_ℤ)) h in
    and_from (is_spawned H t) (not (list_any (ends t) H)) g.0 (ap not g.1)

module _ (P : Program) (H : History) (after : Option Name) (passed : IsPassed P H after) where
  asked : (u : Name) → can_step P H u ≡ true → IsUnendedBehind H after u
  asked u h = record { unended = can_unended P H u h; behind = passed u h }

  at_most : (t u : Name) → IsLeastName (IsUnendedBehind H after) (Some t) → can_step P H u ≡ true → IsAtMost t u
  at_most t u l h =
      let m = l.least u (asked u h) in
      let s : t ≡ m.0 = cc in
      subst (λ w. IsAtMost w u) (sym s) m.2

  -- the next task can't step
  pub passed_on : (t : Name) → IsLeastName (IsUnendedBehind H after) (Some t) → can_step P H t ≡ false → IsPassed P H (Some t)
  passed_on t l never u h = by_cmp (name_cmp t u) refl
    where
      by_cmp : (o : Ordering) → name_cmp t u ≡ o → name_cmp t u ≡ Less
      by_cmp Less e = e
      by_cmp Equal e = absurd (both_ways (can_step P H u) (subst (λ w. can_step P H w ≡ false) (same_true t u (name_cmp_ties t u ∙ ap is_eq e)) never) h)
      by_cmp Greater e = absurd (at_most t u l h e)

  -- no task is left
  pub none_ready : IsLeastName (IsUnendedBehind H after) None → least_ready P H ≡ None
  none_ready l =
      one_least (λ u. IsTrue (can_step P H u)) (least_ready P H) None (least_found H (can_step P H) (can_spawned P H)) (record {
        found = λ t e. cc;
        least = λ t h. let m = l.least t (asked t h) in cc;
      })

  -- the next task can
  pub next_ready : (t : Name) → IsLeastName (IsUnendedBehind H after) (Some t) → can_step P H t ≡ true → least_ready P H ≡ Some t
  next_ready t l can =
      one_least (λ u. IsTrue (can_step P H u)) (least_ready P H) (Some t) (least_found H (can_step P H) (can_spawned P H)) (record {
        found = λ u e. subst (λ w. can_step P H w ≡ true) (let s : t ≡ u = cc in s) can;
        least = λ u h. (t, refl, at_most t u l h);
      })

-- ---- the walk for a property that only unended tasks have

module _ (H : History) (after : Option Name) (Q : Name → Type 0) (unended : (u : Name) → Q u → is_unended H u ≡ true) (passed : (u : Name) → Q u → IsBehind after u) where
  asked_for : (u : Name) → Q u → IsUnendedBehind H after u
  asked_for u q = record { unended = unended u q; behind = passed u q }

  first_for : (t u : Name) → IsLeastName (IsUnendedBehind H after) (Some t) → Q u → IsAtMost t u
  first_for t u l q =
      let m = l.least u (asked_for u q) in
      let s : t ≡ m.0 = cc in
      subst (λ w. IsAtMost w u) (sym s) m.2

  -- the next task hasn't the property
  pub passed_by : (t : Name) → IsLeastName (IsUnendedBehind H after) (Some t) → (Q t → ⊥) → (u : Name) → Q u → IsBehind (Some t) u
  passed_by t l never u q = by_cmp (name_cmp t u) refl
    where
      by_cmp : (o : Ordering) → name_cmp t u ≡ o → name_cmp t u ≡ Less
      by_cmp Less e = e
      by_cmp Equal e = absurd (never (subst Q (sym (same_true t u (name_cmp_ties t u ∙ ap is_eq e))) q))
      by_cmp Greater e = absurd (first_for t u l q e)

  -- no task is left
  pub none_has : IsLeastName (IsUnendedBehind H after) None → IsLeastName Q None
  none_has l = record {
    found = λ t e. cc;
    least = λ t q. let m = l.least t (asked_for t q) in cc;
  }

  -- the next task has it
  pub next_has : (t : Name) → IsLeastName (IsUnendedBehind H after) (Some t) → Q t → IsLeastName Q (Some t)
  next_has t l q = record {
    found = λ u e. subst Q (let s : t ≡ u = cc in s) q;
    least = λ u r. (t, refl, first_for t u l r);
  }

-- ---- the walk for a seat

module _ (P : Program) (H : History) (claims : Claims) (seat : ℕ) where
  -- none that the seat can take is before the first that can step, which another seat claims
  pub behind_first : (t : Name) → IsFloor P H (Some t) → (IsFreeBeside claims seat t → ⊥) → (u : Name) → CanTake P H claims seat u → IsBehind (Some t) u
  behind_first t floor held u q = by_cmp (name_cmp t u) refl
    where
      by_cmp : (o : Ordering) → name_cmp t u ≡ o → name_cmp t u ≡ Less
      by_cmp Less e = e
      by_cmp Equal e = absurd (held (subst (IsFreeBeside claims seat) (sym (same_true t u (name_cmp_ties t u ∙ ap is_eq e))) q.1))
      by_cmp Greater e = absurd (floor u q.0 e)

  module _ (after : Name) (untaken : (u : Name) → CanTake P H claims seat u → IsBehind (Some after) u) where
    takers : (u : Name) → CanTake P H claims seat u → is_unended H u ≡ true
    takers u q = can_unended P H u q.0

    -- the next task isn't free
    pub untaken_on : (t : Name) → IsLeastName (IsUnendedBehind H (Some after)) (Some t) → (CanTake P H claims seat t → ⊥) → (u : Name) → CanTake P H claims seat u → IsBehind (Some t) u
    untaken_on t l never = passed_by H (Some after) (CanTake P H claims seat) takers untaken t l never

    pub found_free : (t : Name) → IsLeastName (IsUnendedBehind H (Some after)) (Some t) → CanTake P H claims seat t → IsLeastName (CanTake P H claims seat) (Some t)
    found_free t l q = next_has H (Some after) (CanTake P H claims seat) takers untaken t l q

    pub found_none : IsLeastName (IsUnendedBehind H (Some after)) None → IsLeastName (CanTake P H claims seat) None
    found_none l = none_has H (Some after) (CanTake P H claims seat) takers untaken l

-- a task that can step, by the seat that claims it next to this one
pub taken_by : (P : Program) (H : History) (claims : Claims) (seat : ℕ) (t : Name) (b : Bool) (o : Option ℕ) → can_step P H t ≡ true → is_some o ≡ not b → IfSome o (IsHeldBeside claims seat t) → IfNone o (IsFreeBeside claims seat t) → (b ≡ true) ↔ CanTake P H claims seat t
taken_by P H claims seat t true None can e held free = (λ h. (can, free), λ q. refl)
taken_by P H claims seat t false None can e held free = absurd (false≢true e)
taken_by P H claims seat t true (Some other) can e held free = absurd (false≢true (sym e))
taken_by P H claims seat t false (Some other) can e held free = (λ h. absurd (false≢true h), λ q. absurd (held.other_than (q.1 other held.claims_it)))

-- ---- what the walk answers

pub found_task : {A : Type 0} (P : Program) (run : Seen) (claims : Claims) (seat : ℕ) (t : Name) (r : Result Offer A) → IfOk r (IsOfferOn P run t) → IsLeastName (CanTake P (core.history run) claims seat) (Some t) → IfOk r (IsFound P run claims seat)
found_task P run claims seat t (Ok (Task n)) k l =
    let same : t ≡ n.config.task = sym (ap (λ (c : Config). c.task) k.config) in
    (subst (λ u. IsLeastName (CanTake P (core.history run) claims seat) (Some u)) same l, subst (λ u. IsSituatedOf P run u n) same k)
found_task P run claims seat t (Ok Later) k l = absurd k
found_task P run claims seat t (Ok Done) k l = absurd k
found_task P run claims seat t (Ok Stopped) k l = absurd k
found_task P run claims seat t (Err e) k l = k
