-- What a step needs immediately, one step more.
use Rattle.std.proofs.Common.{◌≡◌, ◌≢◌, ◌<◌, ◌≤◌, ◌==◌, ◌&&◌, nat_lt, ℕ, suc, List, [], ◌∷◌, ◌++◌, Bool, true, false, length, sym, ap, ◌∙◌, subst, arith, ◌⊎◌, inl, inr, ⊎_elim}
use Rattle.std.proofs.lemmas.Bool.{both_ways, cases_eq, false_from_ne_true, or_cases, or_left, or_right}
use Rattle.tb_steps.specs.Entries.{Entry}
use Rattle.tb_races.specs.Orders.{AllNeeds}
use Rattle.tb_lanes.specs.declared.tasks.Tasks.{Tasks}
use Rattle.tb_lanes.specs.declared.clocks.Clocks.{Clocks}
use Rattle.tb_lanes.specs.declared.step.Step.{Step}
use Rattle.tb_order.specs.declared.needing.Needed.{Needed}
use Rattle.tb_lanes.specs.Bounds.{AreRising, bound_among}
use Rattle.tb_lanes.specs.Clocks.{Lanes, both_at, is_after, is_told, lane, lanes_of, links_at, origin, origin_reaches, previous, reaches, says, touches}
use Rattle.tb_lanes.specs.Fewer.{AddsFor, IsClosedFor, lanes_with}
use Rattle.tb_lanes.specs.Needing.{IsBelow, place_at}
use Rattle.tb_order.specs.Needed.{AreApart, AreNeeded, IsAmong, IsBegun, IsCandidate, IsMet, is_pending}
use Rattle.tb_order.specs.Walked.{IsSoFar, has_row}
use Rattle.tb_lanes.proofs.AfterLemmas.{linked_on, links_after, reach_on, reached, reaches_so}
use Rattle.tb_lanes.proofs.LinkLemmas.{touch_links_at}
use Rattle.tb_lanes.proofs.NeedingLemmas.{below_last, below_more, each_more, kept_is, last_is, length_more}
use Rattle.tb_lanes.proofs.SoundLemmas.{first_touches}
use Rattle.tb_order.proofs.PendingLemmas.{next_pending}

-- one index more, in front of all, which none of them reaches
pub apart_more : (entries : List Entry) (old new : List ℕ) (c : ℕ) (e : new ≡ old ++ c ∷ []) → AreApart entries old
    → ((i : ℕ) → i < length old → c < place_at old i) → ((i : ℕ) → i < length old → reaches AllNeeds entries (place_at old i) c ≡ false) → AreApart entries new
apart_more entries old new c e is low none = record {
  falling = λ i j l m.
      ⊎_elim (λ s. omega (arith, low i (omega (arith, l, s)), kept_is old new c e i (omega (arith, l, s)), ap (place_at new) s, last_is old new c e))
      (λ d. let n : j < length old = omega (arith, m, d, length_more old new c e) in omega (arith, is.falling i j l n, kept_is old new c e i (omega (arith, l, n)), kept_is old new c e j n))
      (cases_eq j (length old));
  apart = λ i j l m.
      ⊎_elim (λ s.
      let n : i < length old = omega (arith, l, s) in
      subst (λ y. reaches AllNeeds entries (place_at new i) y ≡ false) (sym (ap (place_at new) s ∙ last_is old new c e))
      (subst (λ y. reaches AllNeeds entries y c ≡ false) (sym (kept_is old new c e i n)) (none i n)))
      (λ d.
      let n : j < length old = omega (arith, m, d, length_more old new c e) in
      subst (λ y. reaches AllNeeds entries (place_at new i) y ≡ false) (sym (kept_is old new c e j n))
      (subst (λ y. reaches AllNeeds entries y (place_at old j) ≡ false) (sym (kept_is old new c e i (omega (arith, l, n)))) (is.apart i j l n)))
      (cases_eq j (length old));
}

-- ---- what is reached by way of another

module _ (entries : List Entry) (p : ℕ) (w : p < length entries) where
  pub further : (y x q : ℕ) → y < p → x < p → q < p → reaches AllNeeds entries y x ≡ true → reaches AllNeeds entries x q ≡ true
      → reaches AllNeeds entries y q ≡ true
  further y x q l m n a b =
      reaches_so AllNeeds entries y q
      (reach_on AllNeeds entries y x q (reached AllNeeds entries y x (omega (arith, l, w)) (omega (arith, m, w)) a) (reached AllNeeds entries x q (omega (arith, m, w)) (omega (arith, n, w)) b))

  pub met_on : (places : List ℕ) → ((i : ℕ) → i < length places → place_at places i < p) → (x q : ℕ) → x < p → q < p → IsMet entries p places x
      → reaches AllNeeds entries x q ≡ true → IsMet entries p places q
  met_on places low x q l m (inl t) r = inl (t.0, t.1, t.2, further t.0 x q t.1 l m t.3 r)
  met_on places low x q l m (inr b) r = inr (b.0, b.1, further (place_at places b.0) x q (low b.0 b.1) l m b.2 r)

  -- with one index more
  pub met_more : (old new : List ℕ) (c : ℕ) → new ≡ old ++ c ∷ [] → (q : ℕ) → IsMet entries p new q
      → IsMet entries p old q ⊎ (reaches AllNeeds entries c q ≡ true)
  met_more old new c e q (inl t) = inl (inl t)
  met_more old new c e q (inr b) = each_more old new c e
      (λ y. reaches AllNeeds entries y q ≡ true → IsMet entries p old q ⊎ (reaches AllNeeds entries c q ≡ true)) (λ i l h. inl (inr (i, l, h)))
      (λ h. inr h) b.0 b.1 b.2

  pub met_still : (old new : List ℕ) (c : ℕ) → new ≡ old ++ c ∷ [] → (q : ℕ) → IsMet entries p old q → IsMet entries p new q
  met_still old new c e q (inl t) = inl t
  met_still old new c e q (inr b) = inr (below_more AllNeeds entries old new c e q b)

-- with no candidates, the one that touches the task, if one does
module _ (entries : List Entry) (tasks : Tasks) (p : ℕ) (found places : List ℕ) (none : found ≡ []) where
  nothing : (c : ℕ) → IsAmong found c → ⊥
  nothing c h = omega (arith, h.1, ap length none)

  pub needed_none : previous tasks p ≡ 0 → places ≡ [] → AreNeeded entries tasks p found places
  needed_none first empty = record {
    each = λ i l. absurd (omega (arith, l, ap length empty));
    apart = record {
      falling = λ i j l m. absurd (omega (arith, m, ap length empty));
      apart = λ i j l m. absurd (omega (arith, m, ap length empty));
    };
    covered = λ c h. absurd (⊎_elim (λ a. nothing c a) (λ a. omega (arith, a, first)) h);
  }

  pub needed_first : (b : ℕ) → previous tasks p ≡ suc b → places ≡ b ∷ [] → AreNeeded entries tasks p found places
  needed_first b first one = record {
    each = λ i l. inr (first ∙ ap suc (sym (here i l)));
    apart = record {
      falling = λ i j l m. absurd (omega (arith, l, m, ap length one));
      apart = λ i j l m. absurd (omega (arith, l, m, ap length one));
    };
    covered = λ c h.
        ⊎_elim (λ a. absurd (nothing c a))
        (λ a. (0, omega (arith, ap length one), reaches_so AllNeeds entries (place_at places 0) c (inl (omega (arith, here 0 (omega (arith, ap length one)), a, first))))) h;
  }
    where
      first_one : (i : ℕ) → i ≡ 0 → place_at (b ∷ []) i ≡ b
      first_one i e = ap (place_at (b ∷ [])) e

      here : (i : ℕ) → i < length places → place_at places i ≡ b
      here i l = ap (λ xs. place_at xs i) one ∙ first_one i (omega (arith, l, ap length one))

module _ (entries : List Entry) (tasks : Tasks) (clocks : Clocks) (s : Step) (begun : IsBegun entries tasks clocks s) where
  abbrev p : ℕ
  p = s.at

  abbrev w : p < length entries
  w = begun.at

  abbrev full : Lanes
  full = lanes_with clocks begun.front.bounds

  abbrev before : ℕ → Bool
  before q = s.lane == lane (lanes_of clocks) q && nat_lt q p

  abbrev above : ℕ → Bool
  above q = origin_reaches AllNeeds entries (origin tasks p) q

  abbrev told : Needed → ℕ → Bool
  told needed q = says (bound_among needed.rows.items) (lane (lanes_of clocks) q) q

  -- the step that touches the task, the newest
  pub first_touched : (b : ℕ) → previous tasks p ≡ suc b → (b < p) × (both_at touches entries p b ≡ true)
  first_touched b prev = first_touches AllNeeds entries tasks begun.by_task p w full begun.front.lanes b prev

  pub first_pending : (b : ℕ) → previous tasks p ≡ suc b → is_pending entries tasks p b ≡ true
  first_pending b prev = next_pending entries tasks b p p (omega arith) w prev

  -- whatever the rows tell of, they tell of what that reaches
  pub closed_so : (needed : Needed) → IsSoFar entries tasks clocks s needed
      → IsClosedFor (is_pending entries tasks p) AllNeeds entries tasks (lanes_of clocks) (bound_among needed.rows.items) s.lane p
  closed_so needed is x q l m a h r = is.enough q m a (met_on entries p w needed.places.items is.low x q l m (is.sound x l h) r)

  module _ (old new : Needed) (c : ℕ) (l : c < p) (is : IsSoFar entries tasks clocks s old)
      (last : (i : ℕ) → i < length old.places.items → c ≤ place_at old.places.items i) (places : new.places.items ≡ old.places.items ++ c ∷ []) (none : (i : ℕ) → i < length old.places.items → reaches AllNeeds entries (place_at old.places.items i) c ≡ false) where
    differs : (y : ℕ) → reaches AllNeeds entries y c ≡ false → y ≢ c
    differs y h e = both_ways (reaches AllNeeds entries y c) h (reaches_so AllNeeds entries y c (inl e))

    apart : AreApart entries new.places.items
    apart =
        apart_more entries old.places.items new.places.items c places is.apart
        (λ i m. omega (arith, last i m, differs (place_at old.places.items i) (none i m))) none

    abbrev IsListed : ℕ → Type 0
    IsListed y = (previous tasks p ≡ suc y) ⊎ IsCandidate entries tasks p y

    -- one that touches the task
    pub first_found : new.rows.items ≡ old.rows.items → previous tasks p ≡ suc c → IsSoFar entries tasks clocks s new
    first_found same prev = record {
      rising = subst AreRising (sym same) is.rising;
      under = λ j q h. is.under j q (subst (λ r. says (bound_among r) j q ≡ true) same h);
      sound = λ q m h. met_still entries p w old.places.items new.places.items c places q (is.sound q m (back q h));
      enough = λ q m a h.
          moved q
          (is.enough q m a (⊎_elim (λ d. d) (λ d. let t = first_touched c prev in inl (c, t.0, t.1, d)) (met_more entries p w old.places.items new.places.items c places q h)));
      low = each_more old.places.items new.places.items c places (λ y. y < p) is.low l;
      listed = each_more old.places.items new.places.items c places IsListed is.listed (inl prev);
      apart = apart;
    }
      where
        moved : (q : ℕ) → has_row entries tasks clocks s old q → has_row entries tasks clocks s new q
        moved q h = subst (λ r. is_told AllNeeds entries tasks (lanes_of clocks) (bound_among r) s.lane p q ≡ true) (sym same) h

        back : (q : ℕ) → has_row entries tasks clocks s new q → has_row entries tasks clocks s old q
        back q h = subst (λ r. is_told AllNeeds entries tasks (lanes_of clocks) (bound_among r) s.lane p q ≡ true) same h

    -- a candidate, joined
    pub joined_found : AreRising new.rows.items
        → AddsFor (is_pending entries tasks p) AllNeeds entries tasks clocks s.lane p c (bound_among old.rows.items) (bound_among new.rows.items)
        → IsCandidate entries tasks p c → IsSoFar entries tasks clocks s new
    joined_found rise more offered = record {
      rising = rise;
      under = more.low is.under;
      sound = λ q m h. by q m (ways q h);
      enough = λ q m a h.
          ⊎_elim (λ d. stays q (is.enough q m a d)) (λ d. more.reached q m a d) (met_more entries p w old.places.items new.places.items c places q h);
      low = each_more old.places.items new.places.items c places (λ y. y < p) is.low l;
      listed = each_more old.places.items new.places.items c places IsListed is.listed (inr offered);
      apart = apart;
    }
      where
        ways : (q : ℕ) → has_row entries tasks clocks s new q → has_row entries tasks clocks s old q ⊎ (told new q ≡ true)
        ways q h =
            ⊎_elim (λ a. inl (or_left (before q) _ a))
            (λ a. ⊎_elim (λ b. inr b) (λ b. inl (or_right (before q) _ (or_right (told old q) _ b))) (or_cases (told new q) (above q) a))
            (or_cases (before q) _ h)

        stays : (q : ℕ) → has_row entries tasks clocks s old q → has_row entries tasks clocks s new q
        stays q h =
            ⊎_elim (λ a. or_left (before q) _ a)
            (λ a. or_right (before q) _ (⊎_elim (λ b. or_left (told new q) _ (more.kept (lane (lanes_of clocks) q) q b)) (λ b. or_right (told new q) _ b) (or_cases (told old q) (above q) a)))
            (or_cases (before q) _ h)

        met_old : (q : ℕ) → q < p → has_row entries tasks clocks s old q → IsMet entries p new.places.items q
        met_old q m h = met_still entries p w old.places.items new.places.items c places q (is.sound q m h)

        by : (q : ℕ) → q < p → has_row entries tasks clocks s old q ⊎ (told new q ≡ true) → IsMet entries p new.places.items q
        by q m (inl h) = met_old q m h
        by q m (inr h) = ⊎_elim (λ a. met_old q m (or_right (before q) _ (or_left (told old q) _ a)))
            (λ a. inr (below_last AllNeeds entries old.places.items new.places.items c places q a)) (more.sound q m h)

  -- none of those so far reaches a candidate of which the rows don't tell
  pub none_reaches : (needed : Needed) → IsSoFar entries tasks clocks s needed → (c : ℕ) → IsCandidate entries tasks p c
      → is_told AllNeeds entries tasks (lanes_of clocks) (bound_among needed.rows.items) s.lane p c ≡ false → (i : ℕ) → i < length needed.places.items
      → reaches AllNeeds entries (place_at needed.places.items i) c ≡ false
  none_reaches needed is c offered unmet i l =
      false_from_ne_true (reaches AllNeeds entries (place_at needed.places.items i) c)
      (λ r. both_ways (is_told AllNeeds entries tasks (lanes_of clocks) (bound_among needed.rows.items) s.lane p c) unmet (is.enough c offered.0 offered.2 (inr (i, l, r))))

  -- a candidate of which they tell is reached by what was found
  pub met_below : (needed : Needed) → IsSoFar entries tasks clocks s needed → (c : ℕ) → IsCandidate entries tasks p c
      → has_row entries tasks clocks s needed c → IsBelow AllNeeds entries needed.places.items c
  met_below needed is c offered h = ⊎_elim (λ a. absurd (offered.3 a)) (λ a. a) (is.sound c offered.0 h)

  -- ---- in the end

  link_on : (x q : ℕ) → x < p → q < p → links_at AllNeeds entries p x ≡ true → reaches AllNeeds entries x q ≡ true → is_after AllNeeds entries p q ≡ true
  link_on x q l m link r = links_after (linked_on AllNeeds entries p x q l w link (reached AllNeeds entries x q (omega (arith, l, w)) (omega (arith, m, w)) r))

  touch_on : (x q : ℕ) → x < p → q < p → both_at touches entries p x ≡ true → reaches AllNeeds entries x q ≡ true → is_after AllNeeds entries p q ≡ true
  touch_on x q l m touch r = link_on x q l m (touch_links_at AllNeeds entries p x w (omega (arith, l, w)) touch) r

  -- the step comes after all that is met
  pub met_after : (needed : Needed) → IsSoFar entries tasks clocks s needed → (q : ℕ) → q < p → IsMet entries p needed.places.items q
      → is_after AllNeeds entries p q ≡ true
  met_after needed is q l (inl t) = touch_on t.0 q t.1 l t.2 t.3
  met_after needed is q l (inr b) =
      ⊎_elim (λ a. let t = first_touched (place_at needed.places.items b.0) a in touch_on (place_at needed.places.items b.0) q t.0 l t.1 b.2)
      (λ a. link_on (place_at needed.places.items b.0) q a.0 l a.1 b.2) (is.listed b.0 b.1)

  -- what is met by way of some is met by way of those that reach these
  pub met_by : (found places : List ℕ) → ((i : ℕ) → i < length found → place_at found i < p) → ((i : ℕ) → i < length places → place_at places i < p)
      → ((i : ℕ) → i < length found → IsBelow AllNeeds entries places (place_at found i)) → (q : ℕ) → q < p → IsMet entries p found q → IsMet entries p places q
  met_by found places few low below q l (inl t) = inl t
  met_by found places few low below q l (inr b) = met_on entries p w places low (place_at found b.0) q (few b.0 b.1) l (inr (below b.0 b.1)) b.2
