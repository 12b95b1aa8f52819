-- The pass that finds what a step needs, stored step by stored step.
use Rattle.std.proofs.Common.{◌≡◌, ◌<◌, ◌≤◌, ◌+◌, ◌-◌, ℕ, List, [], ◌∷◌, ◌++◌, Bool, true, false, ◌||◌, length, take, get_or, refl, sym, ap, ◌∙◌, subst, arith}
use Rattle.std.specs.List.{All, AllByRecursion}
use Rattle.tb_model.specs.Causes.{some_needs}
use Rattle.tb_steps.specs.Entries.{Entry}
use Rattle.tb_steps.specs.Scans.{AreLegal, history_of}
use Rattle.tb_cause.specs.Asked.{AreAskedAt, asks, gives_any}
use Rattle.tb_cause.specs.Chains.{placed_at}
use Rattle.tb_cause.specs.Indexes.{items_told}
use Rattle.tb_cause.specs.Keys.{Key}
use Rattle.tb_cause.proofs.AskedNeedLemmas.{IsToldByKeys, told_first, told_more, told_on, asked_is_needed, asked_more}
use Rattle.tb_cause.proofs.CauseLemmas.{IsFound, one_more, passed_by}
use Rattle.tb_cause.proofs.ConeLemmas.{all_pushed}
use Rattle.tb_steps.proofs.FirstLemmas.{there}

-- what the pass knows when it has come down to left: these are found, and f are their keys and the step's own
pub record IsPassed (entries : List Entry) (at left : ℕ) (places : List ℕ) (f : Key → Bool) : Type 0 where
  pub found : IsFound entries at left places
  pub asked : AreAskedAt entries (at ∷ places) f
  pub told : AllByRecursion (IsToldByKeys entries left) (placed_at entries (at ∷ places))
  pub inside : All (λ p. p < length entries) places
  pub within : left ≤ at

module _ (entries : List Entry) (legal : AreLegal entries) (at : ℕ) (behind : at < length entries) where
  pub passed_first : (places : List ℕ) → places ≡ [] → (f : Key → Bool) → AreAskedAt entries (at ∷ []) f → IsPassed entries at at places f
  passed_first places none f asked =
      subst (λ ps. IsPassed entries at at ps f) (sym none)
      (record {
        found = refl;
        asked = asked;
        told = told_first entries legal at behind;
        inside = λ k d h. absurd (omega (arith, h));
        within = omega arith;
      })

  -- one stored step more
  module _ (left : ℕ) (places : List ℕ) (f : Key → Bool) (passed : IsPassed entries at left places f) (above : 0 < left)
      (b : Bool) (met : (w : Entry) → w ≡ get_or entries (left - 1) w → b ≡ gives_any f (items_told entries) w.event) where
    abbrev p : ℕ
    p = left - 1

    next : left ≡ p + 1
    next = omega (arith, above)

    lower : p < left
    lower = omega (arith, above)

    there_is : p < length entries
    there_is = omega (arith, above, passed.within, behind)

    abbrev w : (e : Entry) × (e ≡ get_or entries p e)
    w = there entries p there_is

    needed : some_needs (placed_at entries (at ∷ places)) w.0.event ≡ b
    needed = asked_is_needed entries legal left p (at ∷ places) w.0 f lower w.1 passed.asked passed.told ∙ sym (met w.0 w.1)

    pub passed_met : b ≡ true → (places' : List ℕ) → places' ≡ places ++ p ∷ [] → (f' : Key → Bool)
        → ((k : Key) (e : Entry) → e ≡ get_or entries p e → f' k ≡ (asks (items_told entries) (history_of (take p entries)) e.event k || f k)) → IsPassed entries at p places' f'
    passed_met h places' more f' keys = record {
      found = one_more entries at p left next places w.0 there_is w.1 passed.found (needed ∙ h) places' more;
      asked = asked_more entries (at ∷ places) (at ∷ places') p w.0 there_is w.1 f f' passed.asked (λ k. keys k w.0 w.1) (ap (λ ps. at ∷ ps) more);
      told = told_more entries legal left p (at ∷ places) (at ∷ places') w.0 lower there_is w.1 (ap (λ ps. at ∷ ps) more) passed.told;
      inside = all_pushed (λ q. q < length entries) places places' p more passed.inside there_is;
      within = omega (arith, passed.within);
    }

    pub passed_unmet : b ≡ false → IsPassed entries at p places f
    passed_unmet h = record {
      found = passed_by entries at p left next places w.0 there_is w.1 passed.found (needed ∙ h);
      asked = passed.asked;
      told = told_on entries legal left p (at ∷ places) lower passed.told;
      inside = passed.inside;
      within = omega (arith, passed.within);
    }
