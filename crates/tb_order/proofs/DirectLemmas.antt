-- The immediate needs of a step, by the steps that it is linked to.
use Rattle.std.proofs.Common.{◌≡◌, ◌≢◌, ◌<◌, ◌≤◌, ℕ, zero, suc, List, [], ◌∷◌, Bool, true, false, cond, not, ◌||◌, length, take, is_some, refl, sym, ap, ap₂, ◌∙◌, subst, arith, Option, Some, None, ◌⊎◌, inl, inr, ⊎_elim, eqb-true, ◌==◌}
use Rattle.std.specs.List.{list_any}
use Rattle.std.specs.Option.{option_map}
use Rattle.std.proofs.lemmas.Bool.{and_from, and_parts, both_ways, cases_eq, false≢true, false_from_ne_true, or_cases, or_right}
use Rattle.tb_model.specs.declared.event.Event.{Event}
use Rattle.tb_model.specs.declared.step_id.StepId.{StepId}
use Rattle.tb_model.specs.Facts.{History, prepend_if}
use Rattle.tb_model.specs.Needers.{is_needer}
use Rattle.tb_model.specs.Needs.{is_step, needs, removed, step_of}
use Rattle.tb_steps.specs.Entries.{Entry}
use Rattle.tb_steps.specs.Scans.{history_of}
use Rattle.tb_cause.specs.Nearest.{nearest}
use Rattle.tb_races.specs.declared.need_kind.NeedKind.{NeedKind}
use Rattle.tb_races.specs.declared.need_kind.NeedKind.TheVariants.{Task, Spawn, Conflict, Before, Apart, Wait, Group, Undeferred}
use Rattle.tb_races.specs.Immediate.{as_cause, cause, needing, needs_by_way}
use Rattle.tb_races.specs.Kinds.{need_kind}
use Rattle.tb_races.specs.Orders.{AllNeeds, counts_some, followers, links}
use Rattle.tb_races.proofs.KindLemmas.{kind_some}
use Rattle.tb_races.proofs.PassLemmas.{any_put, put_here, put_rest}
use Rattle.tb_order.specs.AllNeeds.{AreDirect, IsDirect}
use Rattle.tb_lanes.specs.Clocks.{is_after, links_at, reaches}
use Rattle.tb_lanes.specs.Needing.{place_at}
use Rattle.tb_order.specs.Needed.{IsAmong}
use Rattle.tb_lanes.proofs.AfterLemmas.{after_is, after_links, at, at_is, links_is, low, same_at, step_place}
use Rattle.tb_lanes.proofs.FrontLemmas.{one_more}
use Rattle.tb_steps.proofs.ScanLemmas.{count_front}

-- ---- all needs are links

pub all_count : (k : Option NeedKind) → counts_some AllNeeds k ≡ is_some k
all_count None = refl
all_count (Some Task) = refl
all_count (Some Spawn) = refl
all_count (Some (Conflict c)) = refl
all_count (Some Before) = refl
all_count (Some Apart) = refl
all_count (Some Wait) = refl
all_count (Some Group) = refl
all_count (Some Undeferred) = refl

pub links_needs : (H : History) (v u : Event) → links AllNeeds H v u ≡ needs H v u
links_needs H v u = all_count (need_kind H v u) ∙ kind_some H v u

any_alike : (f g : Event → Bool) → ((u : Event) → f u ≡ g u) → (H : History) → list_any f H ≡ list_any g H
any_alike f g same [] = refl
any_alike f g same (u ∷ H) = ap₂ (λ a b. a || b) (same u) (any_alike f g same H)

followers_removed : (e : StepId) (H : History) → followers AllNeeds e H ≡ removed e H
followers_removed e [] = refl
followers_removed e (v ∷ H) =
    ap₂ (λ b R. prepend_if (is_step e H v || b) v R) (any_alike (links AllNeeds H v) (needs H v) (links_needs H v) (followers AllNeeds e H) ∙ ap (list_any (needs H v)) (followers_removed e H)) (followers_removed e H)

-- ---- by way of others

module _ (entries : List Entry) where
  abbrev H : ℕ → History
  H n = history_of (take n entries)

  abbrev ev : (x : ℕ) → x < length entries → Event
  ev x i = (at AllNeeds entries x i).event

  link_is : (p x : ℕ) (w : p < length entries) (i : x < length entries) → links_at AllNeeds entries p x ≡ needs (H p) (ev p w) (ev x i)
  link_is p x w i = links_is AllNeeds entries p x w i ∙ links_needs (H p) (ev p w) (ev x i)

  module _ (q : ℕ) (inside : q < length entries) where
    abbrev e : StepId
    e = step_of (H q) (ev q inside)

    -- a step needs it by a chain where it is after it
    chain_is : (n : ℕ) (w : n < length entries) → is_after AllNeeds entries n q ≡ list_any (needs (H n) (ev n w)) (removed e (H n))
    chain_is n w =
        after_is AllNeeds entries n q w inside
        ∙ any_alike (links AllNeeds (H n) (ev n w)) (needs (H n) (ev n w)) (links_needs (H n) (ev n w)) (followers AllNeeds e (H n)) ∙ ap (list_any (needs (H n) (ev n w))) (followers_removed e (H n))

    record Between (P : Event → Bool) (n : ℕ) : Type 0 where
      x : ℕ
      front : x < n
      inside_x : x < length entries
      passes : P (ev x inside_x) ≡ true
      behind : is_after AllNeeds entries x q ≡ true

    between : (P : Event → Bool) (n : ℕ) → n ≤ length entries → list_any P (needing e (H n)) ≡ true → Between P n
    between P zero l h = absurd (false≢true h)
    between P (suc n) l h =
        let w : n < length entries = omega (arith, l) in
        let v = ev n w in
        let more = one_more entries n (at AllNeeds entries n w) w (at_is AllNeeds entries n w) in
        ⊎_elim
        (λ a. record {
          x = n;
          front = omega arith;
          inside_x = w;
          passes = a.1;
          behind = chain_is n w ∙ (and_parts (not (is_step e (H n) v)) (list_any (needs (H n) v) (removed e (H n))) a.0).1;
        })
        (λ a. let f = between P n (omega (arith, l)) a in record { x = f.x; front = omega (arith, f.front); inside_x = f.inside_x; passes = f.passes; behind = f.behind })
        (any_put P (is_needer e (H n) v) v (needing e (H n)) (subst (λ G. list_any P (needing e G) ≡ true) more h))

    needed : (P : Event → Bool) (n x : ℕ) → x < n → n ≤ length entries → (i : x < length entries) → P (ev x i) ≡ true → is_after AllNeeds entries x q ≡ true
        → (is_step e (H x) (ev x i) ≡ false) → list_any P (needing e (H n)) ≡ true
    needed P zero x l m i h a other = absurd (omega (arith, l))
    needed P (suc n) x l m i h a other =
        let w : n < length entries = omega (arith, m) in
        let more = one_more entries n (at AllNeeds entries n w) w (at_is AllNeeds entries n w) in
        subst (λ G. list_any P (needing e G) ≡ true) (sym more) (by (λ l m. needed P n x l m i h a other) (cases_eq x n) w)
      where
        by : (x < n → n ≤ length entries → list_any P (needing e (H n)) ≡ true) → (x ≡ n) ⊎ (x ≢ n) → (w : n < length entries)
            → list_any P (prepend_if (is_needer e (H n) (ev n w)) (ev n w) (needing e (H n))) ≡ true
        by on (inl s) w =
            subst (λ y. (j : y < length entries) → list_any P (prepend_if (is_needer e (H y) (ev y j)) (ev y j) (needing e (H y))) ≡ true) s
            (λ j. put_here P (is_needer e (H x) (ev x j)) (ev x j) (needing e (H x))
            (and_from (not (is_step e (H x) (ev x j))) (list_any (needs (H x) (ev x j)) (removed e (H x))) (ap not (other_at j)) (sym (chain_is x j) ∙ a)) (h_at j)) w
          where
            other_at : (j : x < length entries) → is_step e (H x) (ev x j) ≡ false
            other_at j = subst (λ (v : Entry). is_step e (H x) v.event ≡ false) (same_at entries x i j) other

            h_at : (j : x < length entries) → P (ev x j) ≡ true
            h_at j = subst (λ (v : Entry). P v.event ≡ true) (same_at entries x i j) h
        by on (inr d) w = put_rest P (is_needer e (H n) (ev n w)) (ev n w) (needing e (H n)) (on (omega (arith, l, d)) (omega (arith, m)))

    -- it is no cause by way of another where it is direct, and the other way
    module _ (p : ℕ) (w : p < length entries) (l : q < p) where
      abbrev way : Bool
      way = needs_by_way e (H p) (ev p w)

      not_itself : (x : ℕ) (i : x < length entries) → q < x → is_step e (H x) (ev x i) ≡ false
      not_itself x i m = false_from_ne_true (is_step e (H x) (ev x i)) (λ h. omega (arith, step_place AllNeeds entries q inside x i h, m))

      pub way_direct : IsDirect entries p q → way ≡ false
      way_direct d = false_from_ne_true way (λ h.
          let f = between (needs (H p) (ev p w)) p (omega (arith, w)) h in
          both_ways (reaches AllNeeds entries f.x q)
          (d.nearest f.x f.front (link_is p f.x w f.inside_x ∙ f.passes) (λ s. omega (arith, s, low (after_links AllNeeds entries f.x q f.inside_x inside f.behind)))) (or_right (f.x == q) _ f.behind))

      pub cause_direct : IsDirect entries p q → is_some (cause (H p) (ev p w) (H q) (ev q inside)) ≡ true
      cause_direct d = ap (λ b. is_some (cond b None (option_map (as_cause e) (need_kind (H p) (ev p w) (ev q inside))))) (way_direct d) ∙ mapped (need_kind (H p) (ev p w) (ev q inside)) (kind_some (H p) (ev p w) (ev q inside) ∙ sym (link_is p q w inside) ∙ d.linked)
        where
          mapped : (k : Option NeedKind) → is_some k ≡ true → is_some (option_map (as_cause e) k) ≡ true
          mapped (Some k) h = refl
          mapped None h = h

      pub direct_cause : is_some (cause (H p) (ev p w) (H q) (ev q inside)) ≡ true → IsDirect entries p q
      direct_cause h =
          let c = parts way (need_kind (H p) (ev p w) (ev q inside)) h in record {
            front = l;
            linked = link_is p q w inside ∙ sym (kind_some (H p) (ev p w) (ev q inside)) ∙ c.1;
            nearest = λ x m link other. false_from_ne_true (reaches AllNeeds entries x q) (λ r.
                let i : x < length entries = omega (arith, m, w) in
                ⊎_elim (λ s. absurd (other (eqb-true x q s)))
                (λ a. both_ways way c.0 (needed (needs (H p) (ev p w)) p x m (omega (arith, w)) i (sym (link_is p x w i) ∙ link) a (not_itself x i (low (after_links AllNeeds entries x q i inside a)))))
                (or_cases (x == q) (is_after AllNeeds entries x q) r));
          }
        where
          parts : (b : Bool) (k : Option NeedKind) → is_some (cond b None (option_map (as_cause e) k)) ≡ true → (b ≡ false) × (is_some k ≡ true)
          parts true k h = absurd (false≢true h)
          parts false (Some k) h = (refl, refl)
          parts false None h = absurd (false≢true h)

  -- ---- so they are all those that are nearest

  module _ (p : ℕ) (w : p < length entries) where
    abbrev v : Event
    v = ev p w

    record Lists (n : ℕ) (places : List ℕ) : Type 0 where
      falling : (i j : ℕ) → i < j → j < length places → place_at places j < place_at places i
      each : (i : ℕ) → i < length places → IsDirect entries p (place_at places i)
      below : (i : ℕ) → i < length places → place_at places i < n
      all : (q : ℕ) → q < n → IsDirect entries p q → IsAmong places q

    rest : (n : ℕ) (x : ℕ) (xs : List ℕ) → Lists (suc n) (x ∷ xs) → x ≡ n → Lists n xs
    rest n x xs is e = record {
      falling = λ i j l m. is.falling (suc i) (suc j) (omega (arith, l)) (omega (arith, m));
      each = λ i l. is.each (suc i) (omega (arith, l));
      below = λ i l. omega (arith, is.falling 0 (suc i) (omega arith) (omega (arith, l)), e);
      all = λ q l d. shift q l (is.all q (omega (arith, l)) d);
    }
      where
        shift : (q : ℕ) → q < n → IsAmong (x ∷ xs) q → IsAmong xs q
        shift q l (zero, m, s) = absurd (omega (arith, s, e, l))
        shift q l (suc i, m, s) = (i, omega (arith, m), s)

    less : (n : ℕ) (places : List ℕ) → Lists (suc n) places → (IsDirect entries p n → ⊥) → Lists n places
    less n places is never = record {
      falling = is.falling;
      each = is.each;
      below = λ i l. ⊎_elim (λ e. absurd (never (subst (IsDirect entries p) e (is.each i l)))) (λ d. omega (arith, is.below i l, d)) (cases_eq (place_at places i) n);
      all = λ q l d. is.all q (omega (arith, l)) d;
    }

    abbrev is_cause : (n : ℕ) → suc n ≤ p → Bool
    is_cause n l = is_some (cause (H p) v (H n) (ev n (omega (arith, l, w))))

    top : (n x : ℕ) (xs : List ℕ) → Lists (suc n) (x ∷ xs) → IsAmong (x ∷ xs) n → x ≡ n
    top n x xs is (zero, m, s) = s
    top n x xs is (suc i, m, s) = absurd (omega (arith, is.falling 0 (suc i) (omega arith) m, s, is.below 0 (omega arith)))

    step : (n : ℕ) (l : suc n ≤ p) → ((places : List ℕ) → Lists n places → places ≡ nearest (H p) v (H n)) → (places : List ℕ) → Lists (suc n) places
        → (b : Bool) → is_cause n l ≡ b → places ≡ prepend_if (is_cause n l) n (nearest (H p) v (H n))
    step n l on places is false e =
        on places (less n places is (λ d. both_ways _ e (cause_direct n (omega (arith, l, w)) p w (omega (arith, l)) d)))
        ∙ ap (λ c. prepend_if c n (nearest (H p) v (H n))) (sym e)
    step n l on [] is true e = let a = is.all n (omega arith) (direct_cause n (omega (arith, l, w)) p w (omega (arith, l)) e) in absurd (omega (arith, a.1))
    step n l on (x ∷ xs) is true e =
        let first = top n x xs is (is.all n (omega arith) (direct_cause n (omega (arith, l, w)) p w (omega (arith, l)) e)) in
        ap₂ (λ y ys. y ∷ ys) first (on xs (rest n x xs is first))
        ∙ ap (λ c. prepend_if c n (nearest (H p) v (H n))) (sym e)

    listed : (n : ℕ) → n ≤ p → (places : List ℕ) → Lists n places → places ≡ nearest (H p) v (H n)
    listed zero l [] is = refl
    listed zero l (x ∷ xs) is = absurd (omega (arith, is.below 0 (omega arith)))
    listed (suc n) l places is =
        let i : n < length entries = omega (arith, l, w) in
        step n l (λ xs. listed n (omega (arith, l)) xs) places is (is_some (cause (H p) v (H n) (ev n i))) refl
        ∙ sym
        (ap (nearest (H p) v) (one_more entries n (at AllNeeds entries n i) i (at_is AllNeeds entries n i))
        ∙ ap (λ m. prepend_if (is_some (cause (H p) v (H n) (ev n i))) m (nearest (H p) v (H n))) (count_front entries n (omega (arith, i))))

    pub direct_nearest : (places : List ℕ) → AreDirect entries p places → places ≡ nearest (H p) v (H p)
    direct_nearest places is = listed p (omega arith) places (record {
      falling = is.falling;
      each = is.each;
      below = λ i l. (is.each i l).front;
      all = λ q l d. is.all q d;
    })
