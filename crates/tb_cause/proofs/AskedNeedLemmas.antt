-- The pass that finds what a step needs, by keys.
use Rattle.std.proofs.Common.{◌≡◌, ◌<◌, ℕ, suc, List, [], ◌∷◌, ◌++◌, Bool, true, false, ◌||◌, refl, sym, ap, ◌∙◌, subst, arith, length, take, drop, get_or}
use Rattle.std.specs.List.{list_any, AllByRecursion}
use Rattle.std.proofs.lemmas.Bool.{and_from, or_left, or_right}
use Rattle.std.proofs.lemmas.List.{get_or-take, length-take-le}
use Rattle.std.proofs.lemmas.List.Folds.{list_any-append}
use Rattle.tb_model.specs.declared.event.Event.{Event}
use Rattle.tb_model.specs.declared.item.Item.{Item}
use Rattle.tb_model.specs.Names.{Name}
use Rattle.tb_model.specs.Causes.{Placed, some_needs}
use Rattle.tb_model.specs.Facts.{is_end, is_of, ends}
use Rattle.tb_model.specs.Needs.{needs}
use Rattle.tb_model.proofs.AlikeLemmas.{any_same}
use Rattle.tb_model.proofs.TestLemmas.{same_refl}
use Rattle.tb_steps.specs.Entries.{Entry}
use Rattle.tb_steps.specs.Scans.{AreLegal, history_of}
use Rattle.tb_steps.proofs.ScanLemmas.{history_cut}
use Rattle.tb_cause.specs.Asked.{AreAskedAt, asks, gives_any}
use Rattle.tb_cause.specs.Chains.{placed_at}
use Rattle.tb_cause.specs.Indexes.{items_told}
use Rattle.tb_cause.specs.Keys.{Key, gives, takes_any}
use Rattle.tb_cause.proofs.AskedLemmas.{given_one_by_one}
use Rattle.tb_cause.proofs.CauseLemmas.{placed_pushed}
use Rattle.tb_cause.proofs.KeyLemmas.{any_or, any_none, takes_same, takes_more, takes_none}
use Rattle.tb_cause.proofs.KeyNeedLemmas.{any_same_in}
use Rattle.tb_cause.proofs.KeyedLemmas.{all_weaker, told_by_keys, EndsIn}
use Rattle.tb_steps.proofs.FirstLemmas.{there}

-- ---- what is taken by some of several

module _ (I : Name → List Item) (S : List Placed) where
  abbrev taken : (Key → Bool) → Bool
  taken f = list_any (λ (r : Placed). takes_any f I r.front r.event) S

  taken_same : (f g : Key → Bool) → ((k : Key) → f k ≡ g k) → taken f ≡ taken g
  taken_same f g h = any_same (λ (r : Placed). takes_any f I r.front r.event) (λ r. takes_any g I r.front r.event) (λ r. takes_same f g h I r.front r.event) S

  taken_none : taken (λ k. false) ≡ false
  taken_none = any_same (λ (r : Placed). takes_any (λ k. false) I r.front r.event) (λ r. false) (λ r. takes_none I r.front r.event) S ∙ any_none S

  taken_more : (f g : Key → Bool) → taken (λ k. f k || g k) ≡ (taken f || taken g)
  taken_more f g =
      any_same (λ (r : Placed). takes_any (λ k. f k || g k) I r.front r.event) (λ r. takes_any f I r.front r.event || takes_any g I r.front r.event) (λ r. takes_more f g I r.front r.event) S
      ∙ any_or (λ (r : Placed). takes_any f I r.front r.event) (λ r. takes_any g I r.front r.event) S

  -- an event is needed where it gives a key that they ask for
  pub given_is_needed : (u : Event) (w : Key → Bool) → ((k : Key) → w k ≡ list_any (λ (r : Placed). asks I r.front r.event k) S)
      → AllByRecursion (λ (r : Placed). needs r.front r.event u ≡ takes_any (gives I u) I r.front r.event) S → some_needs S u ≡ gives_any w I u
  given_is_needed u w asked each =
      any_same_in (λ (r : Placed). needs r.front r.event u) (λ r. takes_any (gives I u) I r.front r.event) S each
      ∙ given_one_by_one taken taken_same taken_none taken_more w asked I u

-- ---- over stored steps

-- what r needs of the stored steps in front of this index is known by keys
abbrev pub IsToldByKeys : List Entry → ℕ → Placed → Type 0
IsToldByKeys entries left r = (q : ℕ) (x : Entry) → q < left → x ≡ get_or entries q x → needs r.front r.event x.event ≡ takes_any (gives (items_told entries) x.event) (items_told entries) r.front r.event

all_more : {A : Type 0} (P : A → Type 0) (xs : List A) (x : A) → AllByRecursion P xs → P x → AllByRecursion P (xs ++ x ∷ [])
all_more P [] x h p = (p, tt)
all_more P (y ∷ ys) x h p = (h.0, all_more P ys x h.1 p)

-- an end is one of the history after it
pub ends_in_front : (entries : List Entry) (p q : ℕ) (x : Entry) → p < length entries → q < p → x ≡ get_or entries q x → EndsIn (history_of (take p entries)) x.event
ends_in_front entries p q x within lower here z =
    ap (list_any (ends x.event.task)) (history_cut (take p entries) q x (omega (arith, lower, length-take-le p entries (omega (arith, within)))) (here ∙ sym (get_or-take p entries q x lower)))
    ∙ list_any-append (ends x.event.task) (history_of (drop (suc q) (take p entries))) (x.event ∷ history_of (take q (take p entries)))
    ∙ or_right (list_any (ends x.event.task) (history_of (drop (suc q) (take p entries)))) _
    (or_left (ends x.event.task x.event) _ (and_from (is_of x.event.task x.event) (is_end x.event.action) (same_refl x.event.task) z))

module _ (entries : List Entry) (legal : AreLegal entries) where
  pub told_at : (p : ℕ) (w : Entry) → p < length entries → w ≡ get_or entries p w → IsToldByKeys entries p (record { event = w.event; front = history_of (take p entries) })
  told_at p w within here q x lower there = told_by_keys entries p w within here legal x.event (ends_in_front entries p q x within lower there)

  pub told_first : (at : ℕ) → at < length entries → AllByRecursion (IsToldByKeys entries at) (placed_at entries (at ∷ []))
  told_first at within =
      let w = there entries at within in
      subst (AllByRecursion (IsToldByKeys entries at)) (sym (placed_pushed entries [] at w.0 within w.1)) (told_at at w.0 within w.1, tt)

  -- those found so far, and one more
  pub told_more : (left p : ℕ) (places places' : List ℕ) (w : Entry) → p < left → p < length entries → w ≡ get_or entries p w → places' ≡ places ++ p ∷ []
      → AllByRecursion (IsToldByKeys entries left) (placed_at entries places) → AllByRecursion (IsToldByKeys entries p) (placed_at entries places')
  told_more left p places places' w lower within here more so_far =
      subst (AllByRecursion (IsToldByKeys entries p)) (sym (ap (placed_at entries) more ∙ placed_pushed entries places p w within here))
      (all_more (IsToldByKeys entries p) (placed_at entries places) (record { event = w.event; front = history_of (take p entries) })
      (all_weaker (IsToldByKeys entries left) (IsToldByKeys entries p) (λ r h q x l. h q x (omega (arith, l, lower))) (placed_at entries places) so_far)
      (told_at p w within here))

  pub told_on : (left p : ℕ) (places : List ℕ) → p < left → AllByRecursion (IsToldByKeys entries left) (placed_at entries places) → AllByRecursion (IsToldByKeys entries p) (placed_at entries places)
  told_on left p places lower so_far = all_weaker (IsToldByKeys entries left) (IsToldByKeys entries p) (λ r h q x l. h q x (omega (arith, l, lower))) (placed_at entries places) so_far

  -- the stored step at an index in front of all those found
  pub asked_is_needed : (left p : ℕ) (places : List ℕ) (x : Entry) (w : Key → Bool) → p < left → x ≡ get_or entries p x → AreAskedAt entries places w → AllByRecursion (IsToldByKeys entries left) (placed_at entries places)
      → some_needs (placed_at entries places) x.event ≡ gives_any w (items_told entries) x.event
  asked_is_needed left p places x w lower here asked so_far =
      given_is_needed (items_told entries) (placed_at entries places) x.event w asked
      (all_weaker (IsToldByKeys entries left) (λ (r : Placed). needs r.front r.event x.event ≡ takes_any (gives (items_told entries) x.event) (items_told entries) r.front r.event) (λ r h. h p x lower here) (placed_at entries places) so_far)

-- with the keys of one more
pub asked_more : (entries : List Entry) (places places' : List ℕ) (p : ℕ) (w : Entry) → p < length entries → w ≡ get_or entries p w → (f f' : Key → Bool) → AreAskedAt entries places f
    → ((k : Key) → f' k ≡ (asks (items_told entries) (history_of (take p entries)) w.event k || f k)) → places' ≡ places ++ p ∷ [] → AreAskedAt entries places' f'
asked_more entries places places' p w within here f f' asked changed more k =
    let r : Placed = record { event = w.event; front = history_of (take p entries) } in
    let t = λ (x : Placed). asks (items_told entries) x.front x.event k in
    changed k ∙ ap (λ b. t r || b) (asked k) ∙ turned (t r) (list_any t (placed_at entries places))
    ∙ sym (ap (λ ps. list_any t (placed_at entries ps)) more ∙ ap (list_any t) (placed_pushed entries places p w within here) ∙ list_any-append t (placed_at entries places) (r ∷ []))
  where
    turned : (a b : Bool) → (a || b) ≡ (b || (a || false))
    turned true true = refl
    turned true false = refl
    turned false true = refl
    turned false false = refl
