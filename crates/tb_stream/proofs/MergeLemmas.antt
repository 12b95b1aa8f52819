-- What is joined, end by end.
use Rattle.std.proofs.Common.{◌≡◌, ◌<◌, ◌≤◌, ℕ, suc, List, true, false, length, refl, sym, ap, ◌∙◌, subst, arith, Option, Some, None, slice_get, ◌⊎◌, inl, inr, ⊎_elim, Vec, Global}
use Rattle.std.proofs.lemmas.Bool.{both_ways, cases_eq, cases_lt}
use Rattle.std.proofs.lemmas.List.{length-map}
use Rattle.tb_lanes.specs.declared.lane_bound.LaneBound.{LaneBound}
use Rattle.tb_lanes.specs.Bounds.{AreRising, bound_among}
use Rattle.tb_lanes.specs.Clocks.{Adds, IsEnd, Lanes, end_at, is_end_at, links_at, skip_at}
use Rattle.tb_lanes.specs.Rows.{IsRow, Key}
use Rattle.tb_lanes.proofs.EndLemmas.{row_walked, seen_more}
use Rattle.tb_lanes.proofs.SoundLemmas.{itself_told, sound_more, stays_told}
use Rattle.tb_stream.specs.declared.end.End.{End}
use Rattle.tb_stream.specs.declared.joined.Joined.{Joined}
use Rattle.tb_stream.specs.declared.mark.Mark.{Mark}
use Rattle.tb_stream.specs.Ends.{AreStored, IsOfRow, ends_of}
use Rattle.tb_stream.specs.Joins.{AreJoined, IsJoinedEnd, IsTold, Merges}
use Rattle.tb_stream.specs.Seen.{AreClocks, IsFull, Run, order}
use Rattle.tb_stream.specs.declared.clocks.Clocks.{Clocks}
use Rattle.tb_stream.proofs.ListLemmas.{map_read}

pub row_low : (r : Run) (n : ℕ) (key : Option Key) (x : ℕ) → IsOfRow r n key x → IsEnd r.entries n x
row_low r n None x h = h
row_low r n (Some k) x h = h.0

module _ (r : Run) (n : ℕ) (lanes : Lanes) (rows : List (Vec LaneBound Global)) (k : ℕ) where
  pub merges_none : (j : Joined) → AreJoined r n lanes rows k j → (P : ℕ → Type 0) → ((x : ℕ) → x < n → P x → links_at (order r) r.entries n x ≡ true → ⊥)
      → Merges r n lanes rows k P j j
  merges_none j are P none = record {
    are = are;
    kept = λ q l t. t;
    told = λ x l p h. absurd (none x l p h);
    same = λ e. (refl, e);
  }

  -- one after the other
  pub merges_both : (P Q S : ℕ → Type 0) (a b c : Joined) → Merges r n lanes rows k P a b → Merges r n lanes rows k Q b c
      → ((x : ℕ) → x < n → S x → links_at (order r) r.entries n x ≡ true → P x ⊎ Q x) → Merges r n lanes rows k S a c
  merges_both P Q S a b c f g which = record {
    are = g.are;
    kept = λ q l t. g.kept q l (f.kept q l t);
    told = λ x l s h. ⊎_elim (λ p. g.kept x l (f.told x l p h)) (λ p. g.told x l p h) (which x l s h);
    same = λ e. let s = g.same e in let t = f.same s.1 in (s.0 ∙ t.0, t.1);
  }

  -- the same ends, meant in other words
  pub merges_so : (P Q : ℕ → Type 0) (a b : Joined) → ((x : ℕ) → x < n → Q x → links_at (order r) r.entries n x ≡ true → P x) → Merges r n lanes rows k P a b
      → Merges r n lanes rows k Q a b
  merges_so P Q a b so f = record { are = f.are; kept = f.kept; told = λ x l q h. f.told x l (so x l q h) h; same = f.same }

  -- with ends which each row has
  pub merges_own : (P Q : ℕ → Type 0) (a b : Joined)
      → ((x : ℕ) → x < n → Q x → links_at (order r) r.entries n x ≡ true → P x ⊎ ((j : Joined) → IsTold r n lanes k j x)) → Merges r n lanes rows k P a b
      → Merges r n lanes rows k Q a b
  merges_own P Q a b so f = record { are = f.are; kept = f.kept; told = λ x l q h. ⊎_elim (λ p. f.told x l p h) (λ t. t b) (so x l q h); same = f.same }

  -- ---- along a row, from its newest end on

  module _ (P : ℕ → Type 0) (low : (x : ℕ) → P x → IsEnd r.entries n x) (ends : Vec End Global) (stored : AreStored r n lanes rows P ends) where
    abbrev Later : ℕ → ℕ → Type 0
    Later left x = P x × ((i : ℕ) × (left ≤ i) × (i < length ends.items) × (end_at (ends_of ends) i ≡ x))

    count : length (ends_of ends).places.items ≡ length ends.items
    count = length-map ends.items (λ e. e.mark.at)

    pub walked : IsRow (order r) r.entries n (ends_of ends)
    walked = row_walked (order r) r.entries P n (ends_of ends) low stored.are

    pub end_is : (i : ℕ) (e : End) → slice_get ends.items i ≡ Some e → end_at (ends_of ends) i ≡ e.mark.at
    end_is i e g = map_read (λ (x : End). x.mark.at) ends.items i e 0 g

    pub skip_is : (i : ℕ) (e : End) → slice_get ends.items i ≡ Some e → skip_at (ends_of ends) i ≡ e.skip
    skip_is i e g = map_read (λ (x : End). x.skip) ends.items i e 0 g

    -- none yet
    pub later_none : (j : Joined) → AreJoined r n lanes rows k j → (left : ℕ) → length ends.items ≤ left → Merges r n lanes rows k (Later left) j j
    later_none j are left l = merges_none j are (Later left) (λ x m p h. absurd (omega (arith, l, p.1.1, p.1.2)))

    -- all
    pub later_all : (a b : Joined) → Merges r n lanes rows k (Later 0) a b → Merges r n lanes rows k P a b
    later_all a b f = merges_so (Later 0) P a b (λ x l p h. let i = stored.are.all x p in (p, (i.0, omega arith, omega (arith, i.1, count), i.2))) f

    module _ (i : ℕ) (e : End) (here : slice_get ends.items i ≡ Some e) (inside : i < length ends.items) where
      within : i < length (ends_of ends).places.items
      within = omega (arith, inside, count)

      pub is_low : e.skip ≤ i
      is_low = omega (arith, skip_is i e here, stored.are.tied.low i within)

      pub stored_end : IsFull r n lanes rows e.mark × (is_end_at r.entries e.mark.at ≡ true)
      stored_end = (stored.full i e here, subst (λ y. is_end_at r.entries y ≡ true) (end_is i e here) (low _ (stored.are.each i within)).1)

      -- what is further back is before where the walk begins
      pub later_cut : (from : ℕ) → ((x : ℕ) → IsEnd r.entries n x → links_at (order r) r.entries n x ≡ true → from ≤ x) → e.mark.at < from → (a b : Joined)
          → Merges r n lanes rows k (Later (suc i)) a b → Merges r n lanes rows k P a b
      later_cut from asked early a b f = merges_so (Later (suc i)) P a b
          (λ x l p h.
          let j = stored.are.all x p in
          (p, (j.0, by j.0 j.1 j.2 (asked x (low x p) h), omega (arith, j.1, count), j.2))) f
        where
          by : (j : ℕ) → j < length (ends_of ends).places.items → {x : ℕ} → end_at (ends_of ends) j ≡ x → from ≤ x → suc i ≤ j
          by j m {x} is q = ⊎_elim (λ g. g) (λ d. absurd (back j m is q d)) (either j)
            where
              either : (j : ℕ) → (suc i ≤ j) ⊎ (j ≤ i)
              either j = ⊎_elim (λ l. inl (omega (arith, l))) (λ l. inr l) (cases_lt i j)

              back : (j : ℕ) → j < length (ends_of ends).places.items → {x : ℕ} → end_at (ends_of ends) j ≡ x → from ≤ x → j ≤ i → ⊥
              back j m {x} is q d = ⊎_elim
                  (λ s. omega (arith, early, end_is i e here, ap (end_at (ends_of ends)) s, is, q))
                  (λ s. omega (arith, early, end_is i e here, stored.are.tied.ordered i j within (omega (arith, d, s)), is, q))
                  (cases_eq j i)

      -- it isn't linked
      pub later_passed : links_at (order r) r.entries n e.mark.at ≡ false → (a b : Joined) → Merges r n lanes rows k (Later (suc i)) a b
          → Merges r n lanes rows k (Later i) a b
      later_passed none a b f = merges_so (Later (suc i)) (Later i) a b
          (λ x l p h. (
            p.0,
            (
              p.1.0,
              ⊎_elim
                  (λ s. absurd (both_ways (links_at (order r) r.entries n x) (subst (λ y. links_at (order r) r.entries n y ≡ false) (sym (end_is i e here) ∙ sym (ap (end_at (ends_of ends)) s) ∙ p.1.3) none) h))
                  (λ d. omega (arith, d, p.1.1))
                  (cases_eq p.1.0 i),
              p.1.2,
              p.1.3,
            ),
          )) f

      -- it is listed, and so is what is skipped from it
      pub later_known : (b : Joined) → AreJoined r n lanes rows k b → IsTold r n lanes k b e.mark.at
          → ((x : ℕ) → x < n → Later (suc i) x → links_at (order r) r.entries n x ≡ true → IsTold r n lanes k b x)
          → (x : ℕ) → x < n → Later e.skip x → links_at (order r) r.entries n x ≡ true → IsTold r n lanes k b x
      later_known b are told rest x l p h =
          subst (λ y. IsTold r n lanes k b y) p.1.3
          (seen_more (order r) r.entries r.tasks lanes (bound_among b.rows.items) k n are.sound (ends_of ends) walked i within
          (subst (λ y. IsTold r n lanes k b y) (sym (end_is i e here)) told)
          (λ j. links_at (order r) r.entries n (end_at (ends_of ends) j) ≡ true)
          (λ j m t q. rest (end_at (ends_of ends) j) (low _ (stored.are.each j t)).0 (stored.are.each j t, (j, omega (arith, m), omega (arith, t, count), refl)) q)
          p.1.0 (omega (arith, skip_is i e here, p.1.1)) (omega (arith, p.1.2, count)) (subst (λ y. links_at (order r) r.entries n y ≡ true) (sym p.1.3) h))

      pub later_skipped : (a b : Joined) → Merges r n lanes rows k (Later (suc i)) a b → IsTold r n lanes k b e.mark.at
          → Merges r n lanes rows k (Later e.skip) a b
      later_skipped a b f told = record { are = f.are; kept = f.kept; told = later_known b f.are told f.told; same = f.same }

      -- it is joined
      module _ (clocks : Clocks) (are : AreClocks r n lanes clocks) (w : n < length r.entries) (link : links_at (order r) r.entries n e.mark.at ≡ true)
          (a b c : Joined) (f : Merges r n lanes rows k (Later (suc i)) a b)
          (rising : AreRising c.rows.items) (adds : Adds (order r) r.entries r.tasks lanes k n e.mark.at (bound_among b.rows.items) (bound_among c.rows.items)) (better : (m : Mark) → c.end ≡ Some m → (m ≡ e.mark) ⊎ (b.end ≡ Some m)) (some : c.end ≡ None → ⊥) where
        full : IsFull r n lanes rows e.mark
        full = stored.full i e here

        abbrev s : ℕ
        s = e.mark.at

        over : is_end_at r.entries s ≡ true
        over = subst (λ y. is_end_at r.entries y ≡ true) (end_is i e here) (low _ (stored.are.each i within)).1

        stays : (q : ℕ) → q < n → IsTold r n lanes k b q → IsTold r n lanes k c q
        stays q l t = stays_told (order r) r.entries r.tasks r.by_task n w lanes are.are k (bound_among b.rows.items) (bound_among c.rows.items) s full.mark.at adds q l t

        itself : IsTold r n lanes k c s
        itself = itself_told (order r) r.entries r.tasks r.by_task n w lanes are.are k (bound_among b.rows.items) (bound_among c.rows.items) s full.mark.at adds

        joined : AreJoined r n lanes rows k c
        joined = record {
          rising = rising;
          sound = sound_more (order r) r.entries r.tasks r.by_task n w lanes are.are k (bound_among b.rows.items) (bound_among c.rows.items) s full.mark.at adds f.are.sound link;
          end = λ m is. ⊎_elim
              (λ q. subst (λ x. IsJoinedEnd r n lanes rows k c x) (sym q) (record { full = full; over = over; told = itself }))
              (λ q. let old = f.are.end m q in record { full = old.full; over = old.over; told = stays m.at old.full.mark.at old.told })
              (better m is);
        }

        pub later_joined : Merges r n lanes rows k (Later e.skip) a c
        later_joined = record {
          are = joined;
          kept = λ q l t. stays q l (f.kept q l t);
          told = later_known c joined itself (λ x l p h. stays x l (f.told x l p h));
          same = λ q. absurd (some q);
        }
