-- The pass that finds what needs a step, by keys.
use Rattle.std.proofs.Common.{◌≡◌, ◌≢◌, ◌<◌, ◌+◌, ℕ, suc, List, [], ◌∷◌, ◌++◌, Bool, true, false, ◌&&◌, ◌||◌, ⊎_elim, refl, sym, ap, ◌∙◌, subst, length, take, drop, reverse, get_or, append_assoc}
use Rattle.std.specs.List.{list_any, AllByRecursion}
use Rattle.std.proofs.lemmas.Bool.{and_from, false≢true, or_cases, or_left, or_right}
use Rattle.std.proofs.lemmas.List.Folds.{list_any-append}
use Rattle.std.proofs.lemmas.List.Sorted.{list_any-IsPermutation, IsPermutation-reverse}
use Rattle.tb_model.specs.declared.event.Event.{Event}
use Rattle.tb_model.specs.declared.item.Item.{Item}
use Rattle.tb_model.specs.declared.step_id.StepId.{StepId}
use Rattle.tb_model.specs.Names.{Name, same_name, is_within}
use Rattle.tb_model.specs.declared.action.Action.TheVariants.{Close}
use Rattle.tb_model.specs.Facts.{History, HasEnded, IsSpawned, groups, own, is_end, is_of, ends, items_of, prepend_if}
use Rattle.tb_model.specs.Legal.{Continues, Legal}
use Rattle.tb_model.specs.Needs.{needs, is_removed, removed}
use Rattle.tb_model.proofs.NeighboursLemmas.{legal_below}
use Rattle.tb_model.proofs.SettledLemmas.{items_settled}
use Rattle.tb_model.proofs.TestLemmas.{any_weaker, same_refl, same_true}
use Rattle.tb_steps.specs.Entries.{Entry}
use Rattle.tb_steps.specs.Scans.{AreLegal, history_of}
use Rattle.tb_model.proofs.StateLemmas.{items_of_spawn}
use Rattle.tb_steps.proofs.ScanLemmas.{history_cut, history_more}
use Rattle.tb_cause.specs.Chains.{AreGivenAt, events_at}
use Rattle.tb_cause.specs.Indexes.{items_told}
use Rattle.tb_cause.specs.Keys.{Key, Within, IsUpward, gives, takes_any}
use Rattle.tb_cause.proofs.ConeLemmas.{Found, events_pushed}
use Rattle.tb_cause.proofs.ItemLemmas.{by_items}
use Rattle.tb_cause.proofs.KeyNeedLemmas.{needed_by_keys, needs_of_given}

pub all_weaker : {A : Type 0} (P Q : A → Type 0) → ((x : A) → P x → Q x) → (xs : List A) → AllByRecursion P xs → AllByRecursion Q xs
all_weaker P Q f [] h = tt
all_weaker P Q f (x ∷ xs) h = (f x h.0, all_weaker P Q f xs h.1)

-- an end that goes is one of the history
abbrev pub EndsIn : History → Event → Type 0
EndsIn H u = is_end u.action ≡ true → HasEnded H u.task

ended_in : (e : StepId) (H : History) → AllByRecursion (EndsIn H) (removed e H)
ended_in e [] = tt
ended_in e (v ∷ H) = by (is_removed e H v) (all_weaker (EndsIn H) (EndsIn (v ∷ H)) (λ u h z. or_right (ends u.task v) _ (h z)) (removed e H) (ended_in e H))
  where
    by : (b : Bool) → AllByRecursion (EndsIn (v ∷ H)) (removed e H) → AllByRecursion (EndsIn (v ∷ H)) (prepend_if b v (removed e H))
    by true rest = (λ z. or_left (ends v.task v) _ (and_from (is_of v.task v) (is_end v.action) (same_refl v.task) z), rest)
    by false rest = rest

-- what is above a name is above all that are below it
within_on : (q m t : Name) → is_within q m ≡ true → is_within m t ≡ true → is_within q t ≡ true
within_on q m [] above h = subst (λ u. is_within q u ≡ true) (same_true m [] h) above
within_on q m (n ∷ t) above h =
    ⊎_elim (λ s. subst (λ u. is_within q u ≡ true) (same_true m (n ∷ t) s) above) (λ r. or_right (same_name q (n ∷ t)) (is_within q t) (within_on q m t above r)) (or_cases (same_name m (n ∷ t)) (is_within m t) h)

-- an end is given with all above it
pub given_upward : (entries : List Entry) (places : List ℕ) (f : Key → Bool) → AreGivenAt entries places f → IsUpward (λ t. f (Within t))
given_upward entries places f given q m above h =
    given (Within q) ∙ any_weaker (λ u. gives (items_told entries) u (Within m)) (λ u. gives (items_told entries) u (Within q)) (λ u. upward u.task (is_end u.action)) (events_at entries places) (sym (given (Within m)) ∙ h)
  where
    upward : (t : Name) (end : Bool) → (end && (is_within m t || false)) ≡ true → (end && (is_within q t || false)) ≡ true
    upward t false z = z
    upward t true z = or_left (is_within q t) false (within_on q m t above (⊎_elim (λ a. a) (λ b. absurd (false≢true b)) (or_cases (is_within m t) false z)))

-- with those of one more
pub given_more : (entries : List Entry) (places places' : List ℕ) (p : ℕ) (w : Entry) → p < length entries → w ≡ get_or entries p w → (f f' : Key → Bool) → AreGivenAt entries places f
    → ((k : Key) → f' k ≡ (gives (items_told entries) w.event k || f k)) → places' ≡ places ++ p ∷ [] → AreGivenAt entries places' f'
given_more entries places places' p w within here f f' given changed more k =
    let q = λ (u : Event). gives (items_told entries) u k in
    changed k ∙ ap (λ b. q w.event || b) (given k) ∙ turned (q w.event) (list_any q (events_at entries places))
    ∙ sym (ap (λ ps. list_any q (events_at entries ps)) more ∙ ap (list_any q) (events_pushed entries places p w within here) ∙ list_any-append q (events_at entries places) (w.event ∷ []))
  where
    turned : (a b : Bool) → (a || b) ≡ (b || (a || false))
    turned true true = refl
    turned true false = refl
    turned false true = refl
    turned false false = refl

module _ (entries : List Entry) (later : ℕ) (w : Entry) (within : later < length entries) (here : w ≡ get_or entries later w) (legal : AreLegal entries) where
  abbrev H : History
  H = history_of (take later entries)

  abbrev behind : History
  behind = history_of (drop (suc later) entries)

  abbrev I : Name → List Item
  I = items_told entries

  cut : history_of entries ≡ behind ++ w.event ∷ H
  cut = history_cut entries later w within here

  pub legal_here : Legal legal.cells (w.event ∷ H)
  legal_here = legal_below legal.cells behind (w.event ∷ H) (subst (Legal legal.cells) cut legal.legal)

  whole : history_of entries ≡ (behind ++ w.event ∷ []) ++ H
  whole = cut ∙ sym (append_assoc behind (w.event ∷ []) H)

  settled : (t : Name) → IsSpawned H t → I t ≡ items_of t H
  settled t s =
      sym (items_of_spawn legal.cells (history_of entries) t legal.legal) ∙ ap (items_of t) whole
      ∙ items_settled legal.cells (behind ++ w.event ∷ []) H t (subst (Legal legal.cells) whole legal.legal) s

  -- what of the history the stored step needs is known by keys
  pub told_by_keys : (u : Event) → EndsIn H u → needs H w.event u ≡ takes_any (gives I u) I H w.event
  told_by_keys u ended = needed_by_keys I H w.event u (λ z. by_items legal.cells H legal_here.0 I settled u.task (ended z) w.event.task w.event.action legal_here.1)

  pub legal_so_far : AreLegal (take (later + 1) entries)
  legal_so_far = record { cells = legal.cells; legal = subst (Legal legal.cells) (sym (history_more entries later w within here)) legal_here }

  -- a group is open where one is closed
  pub closes_an_open : w.event.action ≡ Close → groups (own w.event.task H) ≢ []
  closes_an_open is = (subst (λ a. Continues legal.cells w.event.task (own w.event.task H) a) is legal_here.1.own).1

  module _ (e : StepId) (places : List ℕ) (so_far : Found e entries later places) where
    each : AllByRecursion (λ u. needs H w.event u ≡ takes_any (gives I u) I H w.event) (removed e H)
    each = all_weaker (EndsIn H) (λ u. needs H w.event u ≡ takes_any (gives I u) I H w.event) told_by_keys (removed e H) (ended_in e H)

    among : (p : Event → Bool) → list_any p (events_at entries places) ≡ list_any p (removed e H)
    among p = ap (list_any p) so_far.their_events ∙ sym (list_any-IsPermutation p (removed e H) (reverse (removed e H)) (IsPermutation-reverse (removed e H)))

    -- the next event needs one of those found where it asks for a key that they give
    pub taken_is_needed : (f : Key → Bool) → AreGivenAt entries places f → (b : Bool) → b ≡ takes_any f I H w.event → list_any (needs H w.event) (events_at entries places) ≡ b
    taken_is_needed f given b is = among (needs H w.event) ∙ needs_of_given I H w.event (removed e H) f (λ k. given k ∙ among (λ u. gives I u k)) each ∙ sym is
