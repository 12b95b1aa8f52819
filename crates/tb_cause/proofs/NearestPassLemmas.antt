-- The pass that finds what a step needs immediately, stored step by stored step.
use Rattle.std.proofs.Common.{◌≡◌, inl, inr, ⊎_elim, ◌<◌, ◌≤◌, ◌+◌, ◌-◌, ℕ, List, [], ◌∷◌, ◌++◌, Bool, true, false, ◌&&◌, ◌||◌, not, cond, length, take, reverse, get_or, is_some, refl, sym, ap, ◌∙◌, subst, arith, append-nil}
use Rattle.std.specs.List.{AllByRecursion}
use Rattle.std.proofs.lemmas.Bool.{or_cases, both_ways}
use Rattle.std.proofs.lemmas.List.{get_or-take, take-take}
use Rattle.tb_model.specs.declared.item.Item.{Item}
use Rattle.tb_model.specs.Names.{Name}
use Rattle.tb_model.specs.Facts.{History, own}
use Rattle.tb_model.specs.Causes.{Placed, some_needs}
use Rattle.tb_model.specs.Needs.{needs}
use Rattle.tb_steps.specs.Entries.{Entry}
use Rattle.tb_steps.specs.Scans.{AreLegal, history_of}
use Rattle.tb_races.specs.Immediate.{cause}
use Rattle.tb_cause.specs.Asked.{AreAskedAt, asks, gives_any}
use Rattle.tb_cause.specs.Chains.{placed_at}
use Rattle.tb_cause.specs.Indexes.{items_told}
use Rattle.tb_cause.specs.Keys.{Key, held_by}
use Rattle.tb_cause.specs.Nearest.{nearest, AreNearest, IsReach, AreFound, AreSoFar, answered}
use Rattle.tb_cause.proofs.AnsweredLemmas.{answered_given}
use Rattle.tb_cause.proofs.AskedNeedLemmas.{IsToldByKeys, asked_is_needed, asked_more, told_first, told_at, told_more, told_on}
use Rattle.tb_cause.proofs.CauseLemmas.{placed_pushed}
use Rattle.tb_cause.proofs.NearestLemmas.{found_none, found_more, found_on, is_near, no_need, by_others, near_none, near_past, near_put}
use Rattle.tb_steps.proofs.FirstLemmas.{there}

or_none : (b : Bool) → (b || false) ≡ b
or_none true = refl
or_none false = refl

-- what the pass knows when it has come down to left: it retains these, and f are their keys
pub record IsPassed (entries : List Entry) (at left : ℕ) (kept places : List ℕ) (f : Key → Bool) : Type 0 where
  pub found : (v : Entry) → v ≡ get_or entries at v → AreFound entries at v.event left (placed_at entries kept)
  pub asked : AreAskedAt entries kept f
  pub told : AllByRecursion (IsToldByKeys entries left) (placed_at entries kept)
  pub so_far : AreSoFar entries at left places
  pub within : left ≤ at

nothing_told : (entries : List Entry) (left : ℕ) (places : List ℕ) → places ≡ [] → AllByRecursion (IsToldByKeys entries left) (placed_at entries places)
nothing_told entries left places none = subst (λ ps. AllByRecursion (IsToldByKeys entries left) (placed_at entries ps)) (sym none) tt

module _ (entries : List Entry) (legal : AreLegal entries) (at : ℕ) (within : at < length entries) where
  abbrev I : Name → List Item
  I = items_told entries

  abbrev F : History
  F = history_of (take at entries)

  -- ---- what is asked for is needed

  own_needs : (v : Entry) → v ≡ get_or entries at v → (g : Key → Bool) → AreAskedAt entries (at ∷ []) g → (p : ℕ) (w : Entry) → p < at → w ≡ get_or entries p w → needs F v.event w.event ≡ gives_any g I w.event
  own_needs v isv g own p w low here =
      sym (ap (λ S. some_needs S w.event) (placed_pushed entries [] at v within isv) ∙ or_none (needs F v.event w.event))
      ∙ asked_is_needed entries legal at p (at ∷ []) w g low here own (told_first entries legal at within)

  module _ (left p : ℕ) (next : left ≡ p + 1) (low : p < at) (found : List ℕ) (f g : Key → Bool) (asked : AreAskedAt entries found f) (told : AllByRecursion (IsToldByKeys entries left) (placed_at entries found))
      (own : AreAskedAt entries (at ∷ []) g) (v : Entry) (isv : v ≡ get_or entries at v) (w : Entry) (here : w ≡ get_or entries p w) (so_far : AreFound entries at v.event left (placed_at entries found)) where
    abbrev S : List Placed
    S = placed_at entries found

    abbrev by_found : Bool
    by_found = gives_any f I w.event

    abbrev by_own : Bool
    by_own = gives_any g I w.event

    found_needs : some_needs S w.event ≡ by_found
    found_needs = asked_is_needed entries legal left p found w f (omega (arith, next)) here asked told

    needs_own : needs F v.event w.event ≡ by_own
    needs_own = own_needs v isv g own p w low here

    -- the stored step is needed immediately where it is needed directly alone
    near_is : is_some (cause F v.event (history_of (take p entries)) w.event) ≡ (not by_found && by_own)
    near_is = cases by_found by_own found_needs needs_own
      where
        cases : (a b : Bool) → some_needs S w.event ≡ a → needs F v.event w.event ≡ b → is_some (cause F v.event (history_of (take p entries)) w.event) ≡ (not a && b)
        cases true b s d = by_others entries at within v.event p low w here left S (omega (arith, next)) so_far.sound s
        cases false true s d = is_near entries at within v.event left p next low w here S so_far d s
        cases false false s d = no_need entries at within v.event p low w here d

    met_more : (by_found || by_own) ≡ true → (found' : List ℕ) → found' ≡ found ++ p ∷ [] → AreFound entries at v.event p (placed_at entries found')
    met_more h found' more =
        found_more entries at within v.event left p next low w here S so_far
        (⊎_elim (λ a. inr (found_needs ∙ a)) (λ a. inl (needs_own ∙ a)) (or_cases by_found by_own h))
        (placed_at entries found') (ap (placed_at entries) more ∙ placed_pushed entries found p w (omega (arith, low, within)) here)

    unmet_on : (by_found || by_own) ≡ false → AreFound entries at v.event p S
    unmet_on h = cases by_found by_own found_needs needs_own h
      where
        cases : (a b : Bool) → some_needs S w.event ≡ a → needs F v.event w.event ≡ b → (a || b) ≡ false → AreFound entries at v.event p S
        cases true b s d z = absurd (both_ways true z refl)
        cases false true s d z = absurd (both_ways true z refl)
        cases false false s d z = found_on entries at within v.event left p next low w here S so_far d s

  -- ---- the first stored step and the last

  so_far_first : (bottom top : ℕ) → top ≤ at → IsReach entries at bottom top → (places : List ℕ) → places ≡ [] → AreSoFar entries at top places
  so_far_first bottom top l reach places none v isv =
      ap (λ ps. ps ++ nearest F v.event (history_of (take top entries))) none
      ∙ near_past entries at within v.event top (at - top) (omega (arith, l)) (λ p w a i here. no_need entries at within v.event p (omega (arith, i, l)) w here (reach v isv p w (omega (arith, i, l)) (inr a) here))
      ∙ ap (λ n. nearest F v.event (history_of (take n entries))) (omega (arith, l))

  found_first : (bottom top : ℕ) → IsReach entries at bottom top → (found : List ℕ) → found ≡ [] → (v : Entry) → v ≡ get_or entries at v → AreFound entries at v.event top (placed_at entries found)
  found_first bottom top reach found none v isv =
      subst (λ ps. AreFound entries at v.event top (placed_at entries ps)) (sym none)
      (found_none entries at within v.event top (λ q x l a here. reach v isv q x l (inr a) here))

  -- nothing is left
  all_told : (left : ℕ) (places places' : List ℕ) → left ≤ at → AreSoFar entries at left places → places' ≡ reverse places
      → ((v : Entry) → v ≡ get_or entries at v → (p : ℕ) (w : Entry) → p < left → w ≡ get_or entries p w → is_some (cause F v.event (history_of (take p entries)) w.event) ≡ false) → AreNearest entries at places'
  all_told left places places' l so_far turned none v isv =
      turned
      ∙ ap reverse (sym (append-nil places) ∙ ap (λ ps. places ++ ps) (sym (near_none entries at within v.event left l (none v isv))) ∙ so_far v isv)

  pub told_below : (bottom top left : ℕ) (kept places places' : List ℕ) (f : Key → Bool) → IsPassed entries at left kept places f → left ≤ bottom → IsReach entries at bottom top → places' ≡ reverse places → AreNearest entries at places'
  told_below bottom top left kept places places' f passed end reach turned =
      all_told left places places' passed.within passed.so_far turned
      (λ v isv p w i here. no_need entries at within v.event p (omega (arith, i, passed.within)) w here (reach v isv p w (omega (arith, i, passed.within)) (inl (omega (arith, i, end))) here))

  -- all that is left is needed by way of those found
  pub told_answered : (left : ℕ) (kept places places' : List ℕ) (f : Key → Bool) → IsPassed entries at left kept places f → ((v : Entry) → v ≡ get_or entries at v → answered f (held_by (own v.event.task F)) v.event ≡ true) → places' ≡ reverse places → AreNearest entries at places'
  told_answered left kept places places' f passed are turned =
      all_told left places places' passed.within passed.so_far turned none
    where
      none : (v : Entry) → v ≡ get_or entries at v → (p : ℕ) (w : Entry) → p < left → w ≡ get_or entries p w → is_some (cause F v.event (history_of (take p entries)) w.event) ≡ false
      none v isv p w i here = by (needs F v.event w.event) refl
        where
          low : p < at
          low = omega (arith, i, passed.within)

          by : (b : Bool) → needs F v.event w.event ≡ b → is_some (cause F v.event (history_of (take p entries)) w.event) ≡ false
          by false d = no_need entries at within v.event p low w here d
          by true d =
              by_others entries at within v.event p low w here left (placed_at entries kept) i (passed.found v isv).sound
              (asked_is_needed entries legal left p kept w f i here passed.asked passed.told
              ∙ answered_given f I w.event F v.event (are v isv) (sym (told_at entries legal at v within isv p w low here) ∙ d))

  -- ---- one stored step more

  pub passed_first : (bottom top : ℕ) → top ≤ at → IsReach entries at bottom top → (kept places : List ℕ) → kept ≡ [] → places ≡ [] → (f : Key → Bool) → ((k : Key) → f k ≡ false) → IsPassed entries at top kept places f
  passed_first bottom top l reach kept places no_kept no_places f none = record {
    found = found_first bottom top reach kept no_kept;
    asked = subst (λ ps. AreAskedAt entries ps f) (sym no_kept) none;
    told = nothing_told entries top kept no_kept;
    so_far = so_far_first bottom top l reach places no_places;
    within = l;
  }

  module _ (g : Key → Bool) (own : AreAskedAt entries (at ∷ []) g) (left : ℕ) (kept places : List ℕ) (f : Key → Bool) (passed : IsPassed entries at left kept places f) (above : 0 < left) (places' : List ℕ)
      (noted : (w : Entry) → w ≡ get_or entries (left - 1) w → places' ≡ places ++ cond (not (gives_any f I w.event) && gives_any g I w.event) ((left - 1) ∷ []) [])
      (b : Bool) (met : (w : Entry) → w ≡ get_or entries (left - 1) w → b ≡ (gives_any f I w.event || gives_any g I w.event)) where
    abbrev p : ℕ
    p = left - 1

    next : left ≡ p + 1
    next = omega (arith, above)

    low : p < at
    low = omega (arith, above, passed.within)

    behind : p < length entries
    behind = omega (arith, low, within)

    abbrev w : (e : Entry) × (e ≡ get_or entries p e)
    w = there entries p behind

    so_far_on : AreSoFar entries at p places'
    so_far_on v isv =
        near_put entries at within v.event left p next low w.0 w.1 (not (gives_any f I w.0.event) && gives_any g I w.0.event)
        (near_is left p next low kept f g passed.asked passed.told own v isv w.0 w.1 (passed.found v isv)) places places' (passed.so_far v isv) (noted w.0 w.1)

    pub passed_met : b ≡ true → (kept' : List ℕ) → kept' ≡ kept ++ p ∷ [] → (f' : Key → Bool) → ((k : Key) (e : Entry) → e ≡ get_or entries p e → f' k ≡ (asks I (history_of (take p entries)) e.event k || f k)) → IsPassed entries at p kept' places' f'
    passed_met h kept' more f' keys = record {
      found = λ v isv. met_more left p next low kept f g passed.asked passed.told own v isv w.0 w.1 (passed.found v isv) (sym (met w.0 w.1) ∙ h) kept' more;
      asked = asked_more entries kept kept' p w.0 behind w.1 f f' passed.asked (λ k. keys k w.0 w.1) more;
      told = told_more entries legal left p kept kept' w.0 (omega (arith, next)) behind w.1 more passed.told;
      so_far = so_far_on;
      within = omega (arith, low);
    }

    pub passed_unmet : b ≡ false → IsPassed entries at p kept places' f
    passed_unmet h = record {
      found = λ v isv. unmet_on left p next low kept f g passed.asked passed.told own v isv w.0 w.1 (passed.found v isv) (sym (met w.0 w.1) ∙ h);
      asked = passed.asked;
      told = told_on entries legal left p kept (omega (arith, next)) passed.told;
      so_far = so_far_on;
      within = omega (arith, low);
    }

-- what is after the step makes no difference
pub nearest_in_front : (entries : List Entry) (at : ℕ) (places : List ℕ) → at < length entries → AreNearest (take (at + 1) entries) at places → AreNearest entries at places
nearest_in_front entries at places within told v isv =
    told v (isv ∙ sym (get_or-take (at + 1) entries at v (omega arith)))
    ∙ ap (λ (es : List Entry). reverse (nearest (history_of es) v.event (history_of es))) (take-take at (at + 1) entries (omega arith))
