-- The step and all that need it, and those without the step.
use Rattle.std.proofs.Common.{◌≡◌, ◌<◌, List, [], ◌∷◌, ◌++◌, Bool, true, false, ◌&&◌, ◌||◌, not, IsTrue, length, reverse, drop, refl, sym, ap, ◌∙◌, subst, arith, ⊎_elim, ◌⊎◌}
use Rattle.std.specs.List.{list_any}
use Rattle.std.proofs.lemmas.Bool.{or_cases, false≢true}
use Rattle.std.proofs.lemmas.List.{reverse-append}
use Rattle.tb_model.specs.declared.step_id.StepId.{StepId}
use Rattle.tb_model.specs.Equivalent.{stands}
use Rattle.tb_model.specs.Facts.{History, own, prepend_if}
use Rattle.tb_model.specs.Needs.{needs, is_step, removed, step_of}
use Rattle.tb_laws.proofs.OrderedLemmas.{the_step}
use Rattle.tb_model.proofs.RemovalLemmas.{removed_none}
use Rattle.tb_core.specs.Rolled.{removed_steps}
use Rattle.tb_cause.specs.Chains.{needers}
use Rattle.tb_cause.proofs.ConeLemmas.{none_in_front}

-- where nothing goes with a step, nothing needs it
none_needs : (e : StepId) (H : History) → removed e H ≡ [] → needers e H ≡ []
none_needs e [] h = refl
none_needs e (v ∷ H) h = at (is_step e H v) (list_any (needs H v) (removed e H)) h (none_needs e H)
  where
    no_cons : (R : History) → v ∷ R ≡ [] → ⊥
    no_cons R z = cc

    at : (s a : Bool) → prepend_if (s || a) v (removed e H) ≡ [] → (removed e H ≡ [] → needers e H ≡ []) → prepend_if (not s && a) (step_of H v) (needers e H) ≡ []
    at true a z more = absurd (no_cons (removed e H) z)
    at false true z more = absurd (no_cons (removed e H) z)
    at false false z more = more z

-- the step itself comes first
pub chosen_first : (e : StepId) (H : History) → stands e H ≡ true → reverse (removed_steps e H) ≡ e ∷ reverse (needers e H)
chosen_first e [] s = cc
chosen_first e (v ∷ H) s = at (is_step e H v) refl (or_cases (is_step e H v) (stands e H) s) (chosen_first e H)
  where
    a : Bool
    a = list_any (needs H v) (removed e H)

    none : is_step e H v ≡ true → removed e H ≡ []
    none q = removed_none e H (subst (λ (i : StepId). length (own i.task H) < i.k) (the_step e H v q) (omega arith))

    longer : (b : Bool) → reverse (removed_steps e H) ≡ e ∷ reverse (needers e H) → reverse (prepend_if b (step_of H v) (removed_steps e H)) ≡ e ∷ reverse (prepend_if b (step_of H v) (needers e H))
    longer true h =
        reverse-append (step_of H v ∷ []) (removed_steps e H) ∙ ap (λ l. l ++ step_of H v ∷ []) h
        ∙ ap (λ l. e ∷ l) (sym (reverse-append (step_of H v ∷ []) (needers e H)))
    longer false h = h

    at : (b : Bool) → is_step e H v ≡ b → (is_step e H v ≡ true) ⊎ (stands e H ≡ true) → (stands e H ≡ true → reverse (removed_steps e H) ≡ e ∷ reverse (needers e H))
        → reverse (prepend_if (b || a) (step_of H v) (removed_steps e H)) ≡ e ∷ reverse (prepend_if (not b && a) (step_of H v) (needers e H))
    at true q o more =
        ap (λ l. reverse (step_of H v ∷ l)) (none_in_front e H (none q)).1 ∙ ap (λ i. i ∷ []) (the_step e H v q)
        ∙ ap (λ l. e ∷ reverse l) (sym (none_needs e H (none q)))
    at false q o more = ⊎_elim (λ h. absurd (false≢true (sym q ∙ h))) (λ h. longer a (more h)) o

-- what is answered of the dependents
module _ (e : StepId) (G H : History) (steps : List StepId) (same : G ≡ H) (cone : steps ≡ reverse (removed_steps e G)) (there : IsTrue (stands e G)) where
  pub with_first : steps ≡ e ∷ reverse (needers e H)
  with_first = cone ∙ chosen_first e G there ∙ ap (λ X. e ∷ reverse (needers e X)) same

  pub some_first : 0 < length steps
  some_first = omega (arith, ap length with_first)

  pub without_first : drop 1 steps ≡ reverse (needers e H)
  without_first = ap (drop 1) with_first
