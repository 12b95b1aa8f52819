-- For which steps of each lane a later one may ask, one step more.
use Rattle.std.proofs.Common.{◌≡◌, ◌≢◌, ◌<◌, ◌≤◌, ◌+◌, ◌++◌, ◌∷◌, [], ℕ, List, get_or, slice_set, true, length, sym, ap, ◌∙◌, subst, arith, ◌⊎◌, inl, inr, ⊎_elim}
use Rattle.std.specs.Prelude.{slice_index_or, Vec}
use Rattle.std.specs.declared.alloc.Global.{Global}
use Rattle.std.proofs.lemmas.Bool.{cases_eq, cases_lt}
use Rattle.std.proofs.lemmas.List.{get_or-set_other, get_or-set_same, get_or_append_left, length-append, length-set}
use Rattle.std.proofs.Math.Seq.{get_or-append_seam}
use Rattle.tb_steps.specs.Entries.{Entry}
use Rattle.tb_lanes.specs.declared.tasks.Tasks.{Tasks}
use Rattle.tb_order.specs.declared.pending.Pending.{Pending}
use Rattle.tb_order.specs.Needed.{is_pending}
use Rattle.tb_order.specs.Pending.{ArePending, IsLaneMore, IsLinked, IsNoted, first_of, last_of, next_of}
use Rattle.tb_order.proofs.PendingLemmas.{pending_earlier}

abbrev items : Vec ℕ Global → List ℕ
items v = v.items

-- who may be asked for later may be earlier
pub pending_later : (entries : List Entry) (tasks : Tasks) (n m from : ℕ) (lane : ℕ → ℕ) (pending : Pending) → m ≤ from
    → ArePending entries tasks n m lane pending → ArePending entries tasks n from lane pending
pending_later entries tasks n m from lane pending l are = record {
  until = are.until;
  listed = are.listed;
  few = are.few;
  first_in = are.first_in;
  first = λ q i h. are.first q i (pending_earlier entries tasks q m from l h);
  last_in = are.last_in;
  newest = are.newest;
  same = are.same;
  next = are.next;
}

-- ---- how it is noted

module _ (xs ys : List ℕ) (x : ℕ) (e : ys ≡ xs ++ x ∷ []) where
  put_length : length ys ≡ length xs + 1
  put_length = ap length e ∙ length-append xs (x ∷ [])

  put_last : slice_index_or ys (length xs) 0 ≡ x
  put_last = ap (λ (zs : List ℕ). get_or zs (length xs) 0) e ∙ get_or-append_seam xs x [] 0

  put_before : (i : ℕ) → i < length xs → slice_index_or ys i 0 ≡ slice_index_or xs i 0
  put_before i l = ap (λ (zs : List ℕ). get_or zs i 0) e ∙ get_or_append_left xs (x ∷ []) 0 i l

module _ (old new : Pending) (n k : ℕ) (linked : IsLinked old) (n_is : n ≡ length old.nexts.items) (until : new.until ≡ old.until) where
  -- as the first of a lane
  pub noted_first : k ≡ length old.firsts.items → new.firsts.items ≡ old.firsts.items ++ n ∷ [] → new.lasts.items ≡ old.lasts.items ++ n ∷ []
      → new.nexts.items ≡ old.nexts.items ++ n ∷ [] → IsNoted old new n k
  noted_first k_is firsts lasts nexts = record {
    until = until;
    listed = put_length old.nexts.items new.nexts.items n nexts ∙ omega (arith, n_is);
    lasts_listed = put_length old.lasts.items new.lasts.items n lasts ∙ ap (λ m. m + 1) linked.lasts_listed ∙ sym
        (put_length old.firsts.items new.firsts.items n firsts);
    more = omega (arith, put_length old.firsts.items new.firsts.items n firsts);
    lane_in = omega (arith, put_length old.firsts.items new.firsts.items n firsts, k_is);
    first_old = λ j l. put_before old.firsts.items new.firsts.items n firsts j l;
    first_new = λ j l m.
        let e : j ≡ length old.firsts.items = omega (arith, l, m, put_length old.firsts.items new.firsts.items n firsts) in
        (e ∙ sym k_is, ap (first_of new) e ∙ put_last old.firsts.items new.firsts.items n firsts);
    last_here = ap (last_of new) (k_is ∙ sym linked.lasts_listed) ∙ put_last old.lasts.items new.lasts.items n lasts;
    last_other = λ j d l. put_before old.lasts.items new.lasts.items n lasts j (omega (arith, l, linked.lasts_listed));
    next_here = ap (next_of new) n_is ∙ put_last old.nexts.items new.nexts.items n nexts;
    next_other = λ q l. inl (put_before old.nexts.items new.nexts.items n nexts q (omega (arith, l, n_is)));
  }

  -- after another of its lane
  pub noted_after : (nexts : List ℕ) → k < length old.firsts.items → new.firsts ≡ old.firsts → new.lasts.items ≡ slice_set old.lasts.items k n
      → nexts ≡ old.nexts.items ++ n ∷ [] → new.nexts.items ≡ slice_set nexts (last_of old k) n → IsNoted old new n k
  noted_after nexts inside firsts lasts put set = record {
    until = until;
    listed = ap length set ∙ length-set nexts (last_of old k) n ∙ put_length old.nexts.items nexts n put ∙ omega (arith, n_is);
    lasts_listed = ap length lasts ∙ length-set old.lasts.items k n ∙ linked.lasts_listed ∙ sym (ap length (ap items firsts));
    more = omega (arith, ap length (ap items firsts));
    lane_in = omega (arith, inside, ap length (ap items firsts));
    first_old = λ j l. ap (λ (v : Vec ℕ Global). slice_index_or v.items j 0) firsts;
    first_new = λ j l m. absurd (omega (arith, l, m, ap length (ap items firsts)));
    last_here = ap (λ (xs : List ℕ). get_or xs k 0) lasts ∙ get_or-set_same old.lasts.items k n 0 (omega (arith, inside, linked.lasts_listed));
    last_other = λ j d l. ap (λ (xs : List ℕ). get_or xs j 0) lasts ∙ get_or-set_other old.lasts.items k j n 0 d;
    next_here = ap (λ (xs : List ℕ). get_or xs n 0) set
        ∙ get_or-set_other nexts (last_of old k) n n 0 (λ e. omega (arith, e, linked.lasts_in k inside, n_is))
        ∙ ap (λ m. get_or nexts m 0) n_is ∙ put_last old.nexts.items nexts n put;
    next_other = λ q l. by q l (cases_eq q (last_of old k));
  }
    where
      by : (q : ℕ) → q < n → (q ≡ last_of old k) ⊎ (q ≢ last_of old k)
          → (next_of new q ≡ next_of old q) ⊎ ((next_of new q ≡ n) × (k < length old.firsts.items) × (q ≡ last_of old k))
      by q l (inl e) = inr
          (ap (λ (xs : List ℕ). get_or xs q 0) set ∙ ap (λ m. get_or (slice_set nexts (last_of old k) n) m 0) e ∙ get_or-set_same nexts (last_of old k) n 0 (omega (arith, linked.lasts_in k inside, put_length old.nexts.items nexts n put)), inside, e)
      by q l (inr d) = inl
          (ap (λ (xs : List ℕ). get_or xs q 0) set ∙ get_or-set_other nexts (last_of old k) q n 0 d ∙ put_before old.nexts.items nexts n put q (omega (arith, l, n_is)))

-- ---- what it changes

module _ (old new : Pending) (n k : ℕ) (linked : IsLinked old) (n_is : n ≡ length old.nexts.items) (within : n < length old.until.items)
    (noted : IsNoted old new n k) where
  -- a lane is an old one, or the new one
  old_lane : (j : ℕ) → j < length new.firsts.items → (j < length old.firsts.items) ⊎ ((j ≡ k) × (first_of new j ≡ n))
  old_lane j l = ⊎_elim (λ a. inl a) (λ a. inr (noted.first_new j (omega (arith, a)) l)) (cases_lt j (length old.firsts.items))

  first_low : (j : ℕ) → j < length new.firsts.items → first_of new j < n + 1
  first_low j l = ⊎_elim (λ a. omega (arith, noted.first_old j a, linked.firsts_in j a, n_is)) (λ a. omega (arith, a.1)) (old_lane j l)

  last_low : (j : ℕ) → j < length new.firsts.items → last_of new j < n + 1
  last_low j l = by (cases_eq j k)
    where
      by : (j ≡ k) ⊎ (j ≢ k) → last_of new j < n + 1
      by (inl e) = omega (arith, ap (last_of new) e, noted.last_here)
      by (inr d) = ⊎_elim (λ a. omega (arith, noted.last_other j d a, linked.lasts_in j a, n_is)) (λ a. absurd (d a.0)) (old_lane j l)

  next_low : (q : ℕ) → q < n + 1 → next_of new q < n + 1
  next_low q l = by (cases_eq q n)
    where
      by : (q ≡ n) ⊎ (q ≢ n) → next_of new q < n + 1
      by (inl e) = omega (arith, ap (next_of new) e, noted.next_here)
      by (inr d) = let m : q < n = omega (arith, l, d) in ⊎_elim (λ a. omega (arith, a, linked.nexts_in q (omega (arith, m, n_is)), n_is))
          (λ a. omega (arith, a.0)) (noted.next_other q m)

  pub linked_more : IsLinked new
  linked_more = record {
    listed = omega (arith, noted.listed, ap length (ap items noted.until), within);
    lasts_listed = noted.lasts_listed;
    firsts_in = λ j l. omega (arith, first_low j l, noted.listed);
    lasts_in = λ j l. omega (arith, last_low j l, noted.listed);
    nexts_in = λ q l. omega (arith, next_low q (omega (arith, l, noted.listed)), noted.listed);
  }

  module _ (entries : List Entry) (tasks : Tasks) (from : ℕ) (lane after : ℕ → ℕ) (are : ArePending entries tasks n from lane old)
      (more : IsLaneMore lane after n k) where
    first_at : (j : ℕ) → j < length old.firsts.items → first_of old j < n
    first_at j l = omega (arith, linked.firsts_in j l, n_is)

    last_at : (j : ℕ) → j < length old.firsts.items → last_of old j < n
    last_at j l = omega (arith, linked.lasts_in j l, n_is)

    next_at : (q : ℕ) → q < n → next_of old q < n
    next_at q l = omega (arith, linked.nexts_in q (omega (arith, l, n_is)), n_is)

    -- each of the first n, and that at n
    each : (P : ℕ → Type 0) → ((q : ℕ) → q < n → P q) → P n → (q : ℕ) → q < n + 1 → P q
    each P before here q l = ⊎_elim (λ e. subst P (sym e) here) (λ d. before q (omega (arith, l, d))) (cases_eq q n)

    newest_old : (q : ℕ) → q < n → (lane q ≡ k) ⊎ (lane q ≢ k) → q ≤ last_of new (after q)
    newest_old q l (inl e) = omega (arith, ap (last_of new) (more.before q l ∙ e), noted.last_here, l)
    newest_old q l (inr d) = omega (arith, ap (last_of new) (more.before q l), noted.last_other (lane q) d (are.few q l), are.newest q l)

    same_old : (q : ℕ) → q < n → after (next_of new q) ≡ after q
    same_old q l =
        ⊎_elim (λ a. ap after a ∙ more.before (next_of old q) (next_at q l) ∙ are.same q l ∙ sym (more.before q l))
        (λ a. ap after a.0 ∙ more.here ∙ sym (are.last_in k a.1) ∙ ap lane (sym a.2) ∙ sym (more.before q l)) (noted.next_other q l)

    next_old : (q x : ℕ) → q < n → q < x → x < n + 1 → after x ≡ after q → next_of new q ≤ x
    next_old q x l m i e = by (cases_eq x n)
      where
        by : (x ≡ n) ⊎ (x ≢ n) → next_of new q ≤ x
        by (inl s) = omega (arith, next_low q (omega (arith, l)), s)
        by (inr d) =
            let j : x < n = omega (arith, i, d) in
            let one : lane x ≡ lane q = sym (more.before x j) ∙ e ∙ more.before q l in
            ⊎_elim (λ a. omega (arith, a, are.next q x l m j one))
            (λ a.
            let last : lane q ≡ k = ap lane a.2 ∙ are.last_in k a.1 in
            absurd (omega (arith, are.newest x j, ap (last_of old) (one ∙ last), a.2, m)))
            (noted.next_other q l)

    pub pending_more : ArePending entries tasks (n + 1) from after new
    pending_more = record {
      until = λ p q l e. omega (arith, are.until p q l e, ap (λ (v : Vec ℕ Global). slice_index_or v.items q 0) noted.until);
      listed = noted.listed;
      few = each (λ q. after q < length new.firsts.items) (λ q l. omega (arith, more.before q l, are.few q l, noted.more))
          (omega (arith, more.here, noted.lane_in));
      first_in = λ j l.
          ⊎_elim (λ a. ap after (noted.first_old j a) ∙ more.before (first_of old j) (first_at j a) ∙ are.first_in j a)
          (λ a. ap after a.1 ∙ more.here ∙ sym a.0) (old_lane j l);
      first = each (λ q. is_pending entries tasks from q ≡ true → first_of new (after q) ≤ q)
          (λ q l h. omega (arith, ap (first_of new) (more.before q l), noted.first_old (lane q) (are.few q l), are.first q l h))
          (λ h. omega (arith, ap (first_of new) more.here, first_low k noted.lane_in));
      last_in = λ j l. last_of_lane j l (cases_eq j k);
      newest = each (λ q. q ≤ last_of new (after q)) (λ q l. newest_old q l (cases_eq (lane q) k)) (omega (arith, ap (last_of new) more.here, noted.last_here));
      same = each (λ q. after (next_of new q) ≡ after q) same_old (ap after noted.next_here);
      next = λ q x l m i e. next_old q x (omega (arith, l, m, i)) m i e;
    }
      where
        last_of_lane : (j : ℕ) → j < length new.firsts.items → (j ≡ k) ⊎ (j ≢ k) → after (last_of new j) ≡ j
        last_of_lane j l (inl e) = ap after (ap (last_of new) e ∙ noted.last_here) ∙ more.here ∙ sym e
        last_of_lane j l (inr d) = ⊎_elim (λ a. ap after (noted.last_other j d a) ∙ more.before (last_of old j) (last_at j a) ∙ are.last_in j a)
            (λ a. absurd (d a.0)) (old_lane j l)

-- ---- where a lane begins later

-- one lane begins later, at a step before which nobody asks for any of it
pub pending_moved : (old new : Pending) (k first : ℕ) → k < length old.firsts.items → new.until ≡ old.until → new.lasts ≡ old.lasts → new.nexts ≡ old.nexts
    → new.firsts.items ≡ slice_set old.firsts.items k first
    → (entries : List Entry) (tasks : Tasks) (n from : ℕ) (lane : ℕ → ℕ) → ArePending entries tasks n from lane old → lane first ≡ lane (first_of old k)
    → ((q : ℕ) → q < n → lane q ≡ lane (first_of old k) → first_of old k ≤ q → is_pending entries tasks from q ≡ true → first ≤ q) → ArePending entries tasks n from lane new
pending_moved old new k first inside until lasts nexts set entries tasks n from lane are same later = record {
  until = λ p q l e. omega (arith, are.until p q l e, ap (λ (v : Vec ℕ Global). slice_index_or v.items q 0) until);
  listed = ap length (ap items nexts) ∙ are.listed;
  few = λ q l. omega (arith, are.few q l, count);
  first_in = λ j l. in_lane j (omega (arith, l, count)) (cases_eq j k);
  first = λ q l h. first_low q l h (cases_eq (lane q) k);
  last_in = λ j l. ap lane (ap (λ (v : Vec ℕ Global). slice_index_or v.items j 0) lasts) ∙ are.last_in j (omega (arith, l, count));
  newest = λ q l. omega (arith, are.newest q l, ap (λ (v : Vec ℕ Global). slice_index_or v.items (lane q) 0) lasts);
  same = λ q l. ap lane (ap (λ (v : Vec ℕ Global). slice_index_or v.items q 0) nexts) ∙ are.same q l;
  next = λ q x l m i e. omega (arith, are.next q x l m i e, ap (λ (v : Vec ℕ Global). slice_index_or v.items q 0) nexts);
}
  where
    count : length new.firsts.items ≡ length old.firsts.items
    count = ap length set ∙ length-set old.firsts.items k first

    here : first_of new k ≡ first
    here = ap (λ (xs : List ℕ). get_or xs k 0) set ∙ get_or-set_same old.firsts.items k first 0 inside

    other : (j : ℕ) → j ≢ k → first_of new j ≡ first_of old j
    other j d = ap (λ (xs : List ℕ). get_or xs j 0) set ∙ get_or-set_other old.firsts.items k j first 0 d

    in_lane : (j : ℕ) → j < length old.firsts.items → (j ≡ k) ⊎ (j ≢ k) → lane (first_of new j) ≡ j
    in_lane j l (inl e) = ap lane (ap (first_of new) e ∙ here) ∙ same ∙ are.first_in k inside ∙ sym e
    in_lane j l (inr d) = ap lane (other j d) ∙ are.first_in j l

    first_low : (q : ℕ) → q < n → is_pending entries tasks from q ≡ true → (lane q ≡ k) ⊎ (lane q ≢ k) → first_of new (lane q) ≤ q
    first_low q l h (inl e) = omega
        (arith, ap (first_of new) e ∙ here, later q l (e ∙ sym (are.first_in k inside)) (omega (arith, ap (first_of old) e, are.first q l h)) h)
    first_low q l h (inr d) = omega (arith, other (lane q) d, are.first q l h)
