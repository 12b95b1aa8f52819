-- How the steps of a history are distinguished by their tasks.
use Rattle.std.proofs.Common.{◌≡◌, ◌≢◌, ◌<◌, ◌≤◌, ◌+◌, ◌==◌, ℕ, zero, suc, List, [], ◌∷◌, ◌++◌, Bool, true, false, ◌||◌, cond, length, get_or, refl, sym, ap, ap₂, ◌∙◌, subst, arith, Some, unwrap_or, ◌⊎◌, inl, inr, ⊎_elim, eq-eqb, ne_eqb, slice_get, Result, Ok, Err, IsOk, OnOk}
use Rattle.std.specs.Map.{lookup}
use Rattle.std.specs.List.{list_any}
use Rattle.std.proofs.lemmas.Bool.{or_cases, or_left, or_right, both_ways, false≢true, false_from_ne_true, cases_eq}
use Rattle.std.proofs.lemmas.List.{get_or_append_left, length-append}
use Rattle.std.proofs.Math.Seq.{get_or-append_seam}
use Rattle.tb_model.specs.declared.event.Event.{Event}
use Rattle.tb_model.specs.Names.{Name, same_name}
use Rattle.tb_model.specs.Facts.{is_of, own, spawns}
use Rattle.tb_model.proofs.FactsLemmas.{acted_spawned, spawned_by, not_again, spawn_names, no_acts}
use Rattle.tb_model.proofs.TestLemmas.{same_true, same_refl}
use Rattle.std.proofs.lemmas.Option.{slice_get_read}
use Rattle.tb_steps.specs.Entries.{Entry}
use Rattle.tb_steps.specs.Scans.{AreLegal}
use Rattle.tb_races.specs.Orders.{Synchronised}
use Rattle.tb_lanes.specs.declared.tasks.Tasks.{Tasks}
use Rattle.tb_lanes.specs.Clocks.{AreTasks, Behind, alone, generated, going_on, IsOrigin, both_at, of_one, generates, touches, origin, number, previous}
use Rattle.tb_lanes.specs.Numbering.{touch, touched, touched_or, Places, place_of, IsPut, of_at, of_so, is_last, AreNewest, AreNumbered, IsAdded}
use Rattle.tb_lanes.proofs.AfterLemmas.{at, at_read, same_at}
use Rattle.tb_lanes.proofs.LinkLemmas.{both_is}
use Rattle.tb_lanes.proofs.OwnLemmas.{ev, H, place_any, legal_here}
use Rattle.tb_steps.proofs.FirstLemmas.{some_same}

-- ---- indexes by name

pub writes_place : (old new : Places) (t : Name) (k : ℕ) → ((u : Name) → lookup (same_name u) new ≡ cond (same_name t u) (Some k) (lookup (same_name u) old)) → IsPut old t k new
writes_place old new t k writes u = by (same_name t u) (writes u)
  where
    by : (b : Bool) → lookup (same_name u) new ≡ cond b (Some k) (lookup (same_name u) old) → place_of new u ≡ cond b k (place_of old u)
    by true h = ap (λ o. unwrap_or o 0) h
    by false h = ap (λ o. unwrap_or o 0) h

pub on_ok : {A E : Type 0} (r : Result A E) (P : Type 0) → IsOk r → OnOk r P → P
on_ok (Ok x) P ok h = h
on_ok (Err e) P ok h = absurd (false≢true ok)

pub inserts_place : (old mid new : Places) (t : Name) (k : ℕ) (name : Name) → name ≡ t → mid ≡ old → ((u : Name) → lookup (same_name u) new ≡ cond (same_name name u) (Some k) (lookup (same_name u) mid)) → IsPut old t k new
inserts_place old mid new t k name same kept writes =
    writes_place old new t k (λ u. writes u ∙ ap₂ (λ n (m : Places). cond (same_name n u) (Some k) (lookup (same_name u) m)) same kept)

module _ (entries : List Entry) where
  -- ---- the newest that touches a task

  of_is : (t : Name) (n : ℕ) (w : n < length entries) → of_at entries t n ≡ is_of t (ev entries n w)
  of_is t n w = ap (of_so t) (at_read Synchronised entries n w)

  next : (t : Name) (n : ℕ) (w : n < length entries) → touched entries t (suc n) ≡ cond (touch t (ev entries n w)) (suc n) (touched entries t n)
  next t n w = ap (λ e. touched_or t n e (touched entries t n)) (at_read Synchronised entries n w)

  pub touched_last : (t : Name) (n : ℕ) (w : n < length entries) → is_of t (ev entries n w) ≡ true → touched entries t (suc n) ≡ suc n
  touched_last t n w h = next t n w ∙ ap (λ b. cond (b || spawns t (ev entries n w)) (suc n) (touched entries t n)) h

  pub touched_other : (t : Name) (n : ℕ) (w : n < length entries) → is_of t (ev entries n w) ≡ false → touched entries t (suc n) ≡ cond (spawns t (ev entries n w)) (suc n) (touched entries t n)
  touched_other t n w h = next t n w ∙ ap (λ b. cond (b || spawns t (ev entries n w)) (suc n) (touched entries t n)) h

  -- it touches the task, and none after it does
  record IsNewest (t : Name) (n r : ℕ) : Type 0 where
    low : r ≤ n
    one : (b : ℕ) → r ≡ suc b → (i : b < length entries) → touch t (ev entries b i) ≡ true
    all : (x : ℕ) → x < n → (i : x < length entries) → touch t (ev entries x i) ≡ true → x < r

  newest_touched : (t : Name) (n : ℕ) → n ≤ length entries → IsNewest t n (touched entries t n)
  newest_touched t zero l = record { low = omega arith; one = λ b e i. absurd (omega (arith, e)); all = λ x m i h. absurd (omega (arith, m)) }
  newest_touched t (suc n) l =
      let w : n < length entries = omega (arith, l) in
      subst (IsNewest t (suc n)) (sym (next t n w)) (by w (touch t (ev entries n w)) refl (newest_touched t n (omega (arith, l))))
    where
      by : (w : n < length entries) (b : Bool) → touch t (ev entries n w) ≡ b → IsNewest t n (touched entries t n) → IsNewest t (suc n) (cond b (suc n) (touched entries t n))
      by w true h so = record {
        low = omega arith;
        one = λ b e i. moved b (omega (arith, e)) i;
        all = λ x m i k. m;
      }
        where
          moved : (b : ℕ) → n ≡ b → (i : b < length entries) → touch t (ev entries b i) ≡ true
          moved b e i = subst (λ z. (k : z < length entries) → touch t (ev entries z k) ≡ true) e (λ k. ap (λ (x : Entry). touch t x.event) (same_at entries n k w) ∙ h) i
      by w false h so = record {
        low = omega (arith, so.low);
        one = so.one;
        all = λ x m i k. last x m i k (cases_eq x n);
      }
        where
          last : (x : ℕ) → x < suc n → (i : x < length entries) → touch t (ev entries x i) ≡ true → (x ≡ n) ⊎ (x ≢ n) → x < touched entries t n
          last x m i k (inr d) = so.all x (omega (arith, m, d)) i k
          last x m i k (inl e) =
              absurd (both_ways (touch t (ev entries n w)) h (subst (λ z. (j : z < length entries) → touch t (ev entries z j) ≡ true) e (λ j. ap (λ (c : Entry). touch t c.event) (same_at entries x j i) ∙ k) w))

  -- ---- the map, step by step

  module _ (n : ℕ) (w : n < length entries) where
    abbrev v : Event
    v = ev entries n w

    -- the step in front is one of the same task
    pub newest_kept : (places : Places) → AreNewest entries n places → (t : Name) → is_last entries t n ≡ false → place_of places t ≡ touched entries t n
    newest_kept places are t h = are t h

    -- the task of the step in front is noted
    pub newest_put : (m : ℕ) (i : m < length entries) → n ≡ suc m → (old new : Places) → AreNewest entries n old → IsPut old (ev entries m i).task n new → (t : Name) → place_of new t ≡ touched entries t n
    newest_put m i e old new are put t = put t ∙ by (same_name (ev entries m i).task t) refl
      where
        by : (b : Bool) → same_name (ev entries m i).task t ≡ b → cond b n (place_of old t) ≡ touched entries t n
        by true h = e ∙ sym (ap (touched entries t) e ∙ touched_last t m i h)
        by false h = are t (ap (is_last entries t) e ∙ of_is t m i ∙ h)

    -- what the step generates is noted
    pub newest_spawn : (old new : Places) → ((t : Name) → of_at entries t n ≡ false → place_of old t ≡ touched entries t n) → ((t : Name) → place_of new t ≡ cond (spawns t v) (n + 1) (place_of old t)) → AreNewest entries (n + 1) new
    newest_spawn old new are put =
        let next : suc n ≡ n + 1 = omega arith in
        subst (λ m. ((t : Name) → place_of new t ≡ cond (spawns t v) m (place_of old t)) → AreNewest entries m new) next
        (λ noted t h. noted t ∙ ap (cond (spawns t v) (suc n)) (are t h) ∙ sym (touched_other t n w (sym (of_is t n w) ∙ h))) put

  -- ---- what is in front

  module _ (legal : AreLegal entries) (n : ℕ) (w : n < length entries) (r : ℕ) (is : r ≡ touched entries (ev entries n w).task n) where
    abbrev t : Name
    t = (ev entries n w).task

    newest : IsNewest t n r
    newest = subst (IsNewest t n) (sym is) (newest_touched t n (omega (arith, w)))

    touch_is : (x : ℕ) (i : x < length entries) → both_at touches entries n x ≡ touch t (ev entries x i)
    touch_is x i = both_is Synchronised entries n x w i touches

    pub previous_low : r ≤ n
    previous_low = newest.low

    below_newest : (x : ℕ) → x < n → both_at touches entries n x ≡ true → x < r
    below_newest x l h =
        let i : x < length entries = omega (arith, l, w) in
        newest.all x l i (sym (touch_is x i) ∙ h)

    -- what generates a task comes in front of all else of it
    only_one : (b : ℕ) → r ≡ suc b → both_at of_one entries n b ≡ false → (x : ℕ) → x < n → both_at touches entries n x ≡ true → x ≡ b
    only_one b e other x l h = by (cases_eq x b)
      where
        ib : b < length entries
        ib = omega (arith, e, newest.low, w)

        i : x < length entries
        i = omega (arith, l, w)

        made : spawns t (ev entries b ib) ≡ true
        made = ⊎_elim (λ a. absurd (both_ways (both_at of_one entries n b) other (both_is Synchronised entries n b w ib of_one ∙ a))) (λ a. a) (or_cases (is_of t (ev entries b ib)) (spawns t (ev entries b ib)) (newest.one b e ib))

        again : x < b → ⊥
        again k =
            let l' = legal_here entries legal b ib in
            let hb : b ≤ length entries = omega (arith, ib) in
            ⊎_elim
            (λ a.
            both_ways (spawns t (ev entries b ib))
            (not_again legal.cells (H entries b) l'.0 (ev entries b ib) l'.1 t
            (acted_spawned legal.cells (H entries b) t l'.0 (λ z. both_ways (list_any (is_of t) (H entries b)) (no_acts t (H entries b) z) (place_any entries (is_of t) b x k hb i a))))
            made)
            (λ a. both_ways (spawns t (ev entries b ib)) (not_again legal.cells (H entries b) l'.0 (ev entries b ib) l'.1 t (spawned_by t (H entries b) (place_any entries (spawns t) b x k hb i a))) made)
            (or_cases (is_of t (ev entries x i)) (spawns t (ev entries x i)) (sym (touch_is x i) ∙ h))

        by : (x ≡ b) ⊎ (x ≢ b) → x ≡ b
        by (inl s) = s
        by (inr d) = let k : x < b = omega (arith, below_newest x l h, e, d) in absurd (again k)

    generates_so : (b : ℕ) → r ≡ suc b → both_at of_one entries n b ≡ false → both_at generates entries n b ≡ true
    generates_so b e other =
        let ib : b < length entries = omega (arith, e, newest.low, w) in
        both_is Synchronised entries n b w ib generates
        ∙ ⊎_elim (λ a. absurd (both_ways (both_at of_one entries n b) other (both_is Synchronised entries n b w ib of_one ∙ a))) (λ a. a) (or_cases (is_of t (ev entries b ib)) (spawns t (ev entries b ib)) (newest.one b e ib))

    -- no task generates itself
    not_itself : (b : ℕ) → b < n → both_at of_one entries n b ≡ true → both_at generates entries n b ≡ true → ⊥
    not_itself b l mine made =
        let ib : b < length entries = omega (arith, l, w) in
        let l' = legal_here entries legal b ib in
        let same : (ev entries b ib).task ≡ t = same_true (ev entries b ib).task t (sym (both_is Synchronised entries n b w ib of_one) ∙ mine) in
        let names = spawn_names legal.cells (ev entries b ib).task t (own (ev entries b ib).task (H entries b)) (ev entries b ib).action l'.1.own (sym (both_is Synchronised entries n b w ib generates) ∙ made) in
        omega (arith, ap length names, ap length same)

    -- ---- one step more

    module _ (count : ℕ) (old new : Tasks) (numbered : AreNumbered entries n count old) where
      module _ (k g : ℕ) (added : IsAdded old r k g new) where
        kept : (xs ys : List ℕ) (y p : ℕ) → length xs ≡ n → ys ≡ xs ++ y ∷ [] → p < n → get_or ys p 0 ≡ get_or xs p 0
        kept xs ys y p len e l = ap (λ (zs : List ℕ). get_or zs p 0) e ∙ get_or_append_left xs (y ∷ []) 0 p (omega (arith, len, l))

        put : (xs ys : List ℕ) (y : ℕ) → length xs ≡ n → ys ≡ xs ++ y ∷ [] → get_or ys n 0 ≡ y
        put xs ys y len e = ap₂ (λ (zs : List ℕ) (m : ℕ). get_or zs m 0) e (sym len) ∙ get_or-append_seam xs y [] 0

        grown : (xs ys : List ℕ) (y : ℕ) → length xs ≡ n → ys ≡ xs ++ y ∷ [] → length ys ≡ n + 1
        grown xs ys y len e = ap length e ∙ length-append xs (y ∷ []) ∙ ap (λ m. m + 1) len

        number_kept : (p : ℕ) → p < n → number new p ≡ number old p
        number_kept p l = kept old.numbers.items new.numbers.items k p numbered.numbers_listed added.numbers l

        origin_kept : (p : ℕ) → p < n → origin new p ≡ origin old p
        origin_kept p l = kept old.origins.items new.origins.items g p numbered.origins_listed added.origins l

        previous_kept : (p : ℕ) → p < n → previous new p ≡ previous old p
        previous_kept p l = kept old.previous.items new.previous.items r p numbered.previous_listed added.previous l

        number_new : number new n ≡ k
        number_new = put old.numbers.items new.numbers.items k numbered.numbers_listed added.numbers

        origin_new : origin new n ≡ g
        origin_new = put old.origins.items new.origins.items g numbered.origins_listed added.origins

        previous_new : previous new n ≡ r
        previous_new = put old.previous.items new.previous.items r numbered.previous_listed added.previous

        behind_kept : (p : ℕ) → p < n → Behind entries old p → Behind entries new p
        behind_kept p l (alone _ _ _ none zero_is nothing) = alone entries new p (previous_kept p l ∙ none) (origin_kept p l ∙ zero_is) nothing
        behind_kept p l (generated _ _ _ b m prev o made other only) = generated entries new p b m (previous_kept p l ∙ prev) (origin_kept p l ∙ o) made other only
        behind_kept p l (going_on _ _ _ b m prev o mine all) = going_on entries new p b m (previous_kept p l ∙ prev) (origin_kept p l ∙ o ∙ sym (origin_kept b (omega (arith, m, l)))) mine all

        origins_kept : (p : ℕ) → p < n → IsOrigin entries old p → IsOrigin entries new p
        origins_kept p l (inl a) = inl (origin_kept p l ∙ a.0, a.1)
        origins_kept p l (inr a) = inr (a.0, origin_kept p l ∙ a.1, a.2, a.3)

        -- for each of the first steps, and for the new one
        each : (P : ℕ → Type 0) → ((p : ℕ) → p < n → P p) → P n → (p : ℕ) → p < n + 1 → P p
        each P f here p l = by (cases_eq p n)
          where
            by : (p ≡ n) ⊎ (p ≢ n) → P p
            by (inl e) = subst P (sym e) here
            by (inr d) = f p (omega (arith, l, d))

        of_itself : both_at of_one entries n n ≡ true
        of_itself = both_is Synchronised entries n n w w of_one ∙ same_refl t

        made_of : (c : ℕ) → c ≤ n + 1 → ((p : ℕ) → p < n → number old p < c) → k < c → g ≤ n → Behind entries new n → IsOrigin entries new n
            → ((q : ℕ) → q < n → (k == number old q) ≡ both_at of_one entries n q) → ((q : ℕ) → q < n → (number old q == k) ≡ both_at of_one entries q n) → AreNumbered entries (n + 1) c new
        made_of c few low here near behind from right left = record {
          previous_listed = grown old.previous.items new.previous.items r numbered.previous_listed added.previous;
          numbers_listed = grown old.numbers.items new.numbers.items k numbered.numbers_listed added.numbers;
          origins_listed = grown old.origins.items new.origins.items g numbered.origins_listed added.origins;
          few = few;
          low = each (λ p. number new p < c) (λ p l. omega (arith, number_kept p l, low p l)) (omega (arith, number_new, here));
          near = each (λ p. previous new p ≤ p) (λ p l. omega (arith, previous_kept p l, numbered.near p l)) (omega (arith, previous_new, newest.low));
          behind_it = each (λ p. origin new p ≤ p) (λ p l. omega (arith, origin_kept p l, numbered.behind_it p l)) (omega (arith, origin_new, near));
          same = λ p q l m.
              each (λ p. (number new p == number new q) ≡ both_at of_one entries p q)
              (λ p i. each (λ q. (number new p == number new q) ≡ both_at of_one entries p q) (λ q j. ap₂ (λ a b. a == b) (number_kept p i) (number_kept q j) ∙ numbered.same p q i j) (ap₂ (λ a b. a == b) (number_kept p i) number_new ∙ left p i) q m)
              (each (λ q. (number new n == number new q) ≡ both_at of_one entries n q) (λ q j. ap₂ (λ a b. a == b) number_new (number_kept q j) ∙ right q j) (eq-eqb (number new n) (number new n) refl ∙ sym of_itself) q m)
              p l;
          behind = each (Behind entries new) (λ p l. behind_kept p l (numbered.behind p l)) behind;
          origins = each (IsOrigin entries new) (λ p l. origins_kept p l (numbered.origins p l)) from;
        }

      -- the task goes on
      pub numbered_own : (b : ℕ) → r ≡ suc b → both_at of_one entries n b ≡ true → IsAdded old r (number old b) (origin old b) new → AreNumbered entries (n + 1) count new
      numbered_own b e mine added =
          let l : b < n = omega (arith, e, newest.low) in
          let ib : b < length entries = omega (arith, l, w) in
          let same : (ev entries b ib).task ≡ t = same_true (ev entries b ib).task t (sym (both_is Synchronised entries n b w ib of_one) ∙ mine) in
          made_of (number old b) (origin old b) added count (omega (arith, numbered.few)) numbered.low (numbered.low b l) (omega (arith, numbered.behind_it b l, l))
          (going_on entries new n b l (previous_new (number old b) (origin old b) added ∙ e) (origin_new (number old b) (origin old b) added ∙ sym (origin_kept (number old b) (origin old b) added b l)) mine (λ x m h. omega (arith, below_newest x m h, e)))
          (from l ib same (numbered.origins b l))
          (λ q m. let i : q < length entries = omega (arith, m, w) in numbered.same b q l m ∙ both_is Synchronised entries b q ib i of_one ∙ ap (λ s. same_name (ev entries q i).task s) same ∙ sym (both_is Synchronised entries n q w i of_one))
          (λ q m. let i : q < length entries = omega (arith, m, w) in numbered.same q b m l ∙ both_is Synchronised entries q b i ib of_one ∙ ap (λ s. same_name s (ev entries q i).task) same ∙ sym (both_is Synchronised entries q n i w of_one))
        where
          from : b < n → (ib : b < length entries) → (ev entries b ib).task ≡ t → IsOrigin entries old b → IsOrigin entries new n
          from l ib same (inl a) =
              inl (
                origin_new (number old b) (origin old b) added ∙ a.0,
                λ x m h.
                    by x m h (below_newest x m (touching x (omega (arith, m, w)) h)) (cases_eq x b),
              )
            where
              touching : (x : ℕ) (i : x < length entries) → both_at generates entries n x ≡ true → both_at touches entries n x ≡ true
              touching x i h = touch_is x i ∙ or_right (is_of t (ev entries x i)) _ (sym (both_is Synchronised entries n x w i generates) ∙ h)

              by : (x : ℕ) → x < n → both_at generates entries n x ≡ true → x < r → (x ≡ b) ⊎ (x ≢ b) → ⊥
              by x m h k (inl s) = not_itself b l mine (subst (λ z. both_at generates entries n z ≡ true) s h)
              by x m h k (inr d) =
                  let i : x < length entries = omega (arith, m, w) in
                  a.1 x (omega (arith, k, e, d)) (both_is Synchronised entries b x ib i generates ∙ ap (λ s. spawns s (ev entries x i)) same ∙ sym (both_is Synchronised entries n x w i generates) ∙ h)
          from l ib same (inr a) =
              let iu : a.0 < length entries = omega (arith, a.2, ib) in
              inr (
                a.0,
                origin_new (number old b) (origin old b) added ∙ a.1,
                omega (arith, a.2, l),
                both_is Synchronised entries n a.0 w iu generates ∙ ap (λ s. spawns s (ev entries a.0 iu)) (sym same) ∙ sym (both_is Synchronised entries b a.0 ib iu generates) ∙ a.3,
              )

      -- a task begins
      pub numbered_new : ((b : ℕ) → r ≡ suc b → both_at of_one entries n b ≡ false) → IsAdded old r count r new → AreNumbered entries (n + 1) (count + 1) new
      numbered_new other added =
          made_of count r added (count + 1) (omega (arith, numbered.few)) (λ p l. omega (arith, numbered.low p l)) (omega arith) newest.low (place r refl) (source r refl)
          (λ q m. ne_eqb count (number old q) (λ z. omega (arith, z, numbered.low q m)) ∙ sym (false_from_ne_true (both_at of_one entries n q) (λ h. none q m h)))
          (λ q m. ne_eqb (number old q) count (λ z. omega (arith, z, numbered.low q m)) ∙ sym (false_from_ne_true (both_at of_one entries q n) (λ h. none q m (turned q m h))))
        where
          turned : (q : ℕ) → q < n → both_at of_one entries q n ≡ true → both_at of_one entries n q ≡ true
          turned q m h =
              let i : q < length entries = omega (arith, m, w) in
              let same : t ≡ (ev entries q i).task = same_true t (ev entries q i).task (sym (both_is Synchronised entries q n i w of_one) ∙ h) in
              both_is Synchronised entries n q w i of_one ∙ ap (λ s. same_name s t) (sym same) ∙ same_refl t

          touching : (q : ℕ) (i : q < length entries) → both_at of_one entries n q ≡ true → both_at touches entries n q ≡ true
          touching q i h = touch_is q i ∙ or_left (is_of t (ev entries q i)) _ (sym (both_is Synchronised entries n q w i of_one) ∙ h)

          -- no step of it is in front
          none : (q : ℕ) → q < n → both_at of_one entries n q ≡ true → ⊥
          none q m h = by r refl
            where
              by : (s : ℕ) → r ≡ s → ⊥
              by zero e = omega (arith, below_newest q m (touching q (omega (arith, m, w)) h), e)
              by (suc b) e = both_ways (both_at of_one entries n b) (other b e) (subst (λ y. both_at of_one entries n y ≡ true) (only_one b e (other b e) q m (touching q (omega (arith, m, w)) h)) h)

          nothing : r ≡ 0 → (x : ℕ) → x < n → both_at touches entries n x ≡ true → ⊥
          nothing e x m h = omega (arith, below_newest x m h, e)

          place : (s : ℕ) → r ≡ s → Behind entries new n
          place zero e = alone entries new n (previous_new count r added ∙ e) (origin_new count r added ∙ e) (nothing e)
          place (suc b) e = generated entries new n b (omega (arith, e, newest.low)) (previous_new count r added ∙ e) (origin_new count r added ∙ e) (generates_so b e (other b e)) (other b e) (only_one b e (other b e))

          source : (s : ℕ) → r ≡ s → IsOrigin entries new n
          source zero e =
              inl (
                origin_new count r added ∙ e,
                λ x m h.
                    let i : x < length entries = omega (arith, m, w) in
                    nothing e x m (touch_is x i ∙ or_right (is_of t (ev entries x i)) _ (sym (both_is Synchronised entries n x w i generates) ∙ h)),
              )
          source (suc b) e = inr (b, origin_new count r added ∙ e, omega (arith, e, newest.low), generates_so b e (other b e))

-- ---- what the code reads

pub entry_same : (entries : List Entry) (m : ℕ) (i : m < length entries) (y : Entry) → y ≡ get_or entries m y → at Synchronised entries m i ≡ y
entry_same entries m i y here = some_same _ _ (sym (at_read Synchronised entries m i) ∙ slice_get_read entries (length entries) m y refl i here)

module _ (entries : List Entry) (n : ℕ) (w : n < length entries) (x : Entry) (here : x ≡ get_or entries n x) where
  x_is : ev entries n w ≡ x.event
  x_is = ap (λ (e : Entry). e.event) (entry_same entries n w x here)

  module _ (m : ℕ) (i : m < length entries) (y : Entry) (there : y ≡ get_or entries m y) where
    y_is : ev entries m i ≡ y.event
    y_is = ap (λ (e : Entry). e.event) (entry_same entries m i y there)

    pub own_tested : (r : Bool) → r ≡ is_of x.event.task y.event → both_at of_one entries n m ≡ r
    own_tested r is = both_is Synchronised entries n m w i of_one ∙ ap₂ of_one x_is y_is ∙ sym is

    pub put_newest : n ≡ suc m → (s : Name) → s ≡ y.event.task → (old new : Places) → AreNewest entries n old → IsPut old s n new → (t : Name) → place_of new t ≡ touched entries t n
    put_newest e s named old new are put = newest_put entries n w m i e old new are (subst (λ z. IsPut old z n new) (named ∙ ap (λ (v : Event). v.task) (sym y_is)) put)

    -- where the step in front is of the same task
    pub same_newest : n ≡ suc m → is_of x.event.task y.event ≡ true → (old : Places) → AreNewest entries n old → (t : Name) → of_at entries t n ≡ false → place_of old t ≡ touched entries t n
    same_newest e mine old are t other =
        are t (ap (is_last entries t) e ∙ of_is entries t m i ∙ ap (λ s. same_name s t) same ∙ sym (of_is entries t n w) ∙ other)
      where
        same : (ev entries m i).task ≡ (ev entries n w).task
        same = same_true (ev entries m i).task (ev entries n w).task (sym (both_is Synchronised entries n m w i of_one) ∙ own_tested true (sym mine))

pub first_newest : (entries : List Entry) (n : ℕ) (old : Places) → n ≡ 0 → AreNewest entries n old → (t : Name) → place_of old t ≡ touched entries t n
first_newest entries n old e are t = are t (ap (is_last entries t) e)

pub told_place : (entries : List Entry) (n : ℕ) (w : n < length entries) (x : Entry) → x ≡ get_or entries n x → (places : Places) → ((t : Name) → place_of places t ≡ touched entries t n) → (s : Name) → s ≡ x.event.task → (r : ℕ) → r ≡ place_of places s → (v : Entry) → slice_get entries n ≡ Some v → r ≡ touched entries v.event.task n
told_place entries n w x here places all s named r is v v_is =
    is ∙ all s ∙ ap (λ t. touched entries t n) named ∙ ap (λ (e : Entry). touched entries e.event.task n) (some_same x v (sym (slice_get_read entries (length entries) n x refl w here) ∙ v_is))

-- all of them
pub numbered_all : (entries : List Entry) (n count : ℕ) (tasks : Tasks) → n ≡ length entries → AreNumbered entries n count tasks → AreTasks entries tasks
numbered_all entries n count tasks end a = record {
  shaped = record {
    origins_listed = a.origins_listed ∙ sym a.numbers_listed;
    previous_listed = a.previous_listed ∙ sym a.numbers_listed;
    low = λ p l. a.behind_it p (omega (arith, l, a.numbers_listed));
    near = λ p l. a.near p (omega (arith, l, a.numbers_listed));
  };
  numbers_listed = a.numbers_listed ∙ end;
  same = λ p q l m. a.same p q (omega (arith, l, end)) (omega (arith, m, end));
  behind = λ p l. a.behind p (omega (arith, l, end));
  origins = λ p l. a.origins p (omega (arith, l, end));
}

-- none yet
pub numbered_none : (entries : List Entry) (tasks : Tasks) → tasks.previous.items ≡ [] → tasks.numbers.items ≡ [] → tasks.origins.items ≡ [] → AreNumbered entries 0 0 tasks
numbered_none entries tasks p q r = record {
  previous_listed = ap length p;
  numbers_listed = ap length q;
  origins_listed = ap length r;
  few = omega arith;
  low = λ p l. absurd (omega (arith, l));
  near = λ p l. absurd (omega (arith, l));
  behind_it = λ p l. absurd (omega (arith, l));
  same = λ p q l m. absurd (omega (arith, l));
  behind = λ p l. absurd (omega (arith, l));
  origins = λ p l. absurd (omega (arith, l));
}
