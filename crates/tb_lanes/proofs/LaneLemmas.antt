-- In which lane a step may be.
use Rattle.std.proofs.Common.{◌≡◌, ◌≢◌, ◌<◌, ◌≤◌, ℕ, suc, List, [], ◌∷◌, true, not, length, sym, ap, ◌∙◌, subst, arith, ◌⊎◌, inl, inr, ⊎_elim, eq-eqb, eqb-true}
use Rattle.std.proofs.lemmas.Bool.{both_ways, cases_eq, cases_order}
use Rattle.tb_model.specs.declared.action.Action.{Action}
use Rattle.tb_model.specs.declared.action.Action.TheVariants.{Start}
use Rattle.tb_model.specs.Facts.{is_end, own}
use Rattle.tb_model.specs.Legal.{Cells, Continues, IsRunning}
use Rattle.tb_model.specs.Names.{Name}
use Rattle.tb_model.proofs.FactsLemmas.{begun}
use Rattle.tb_steps.specs.Entries.{Entry}
use Rattle.tb_steps.specs.Scans.{AreLegal}
use Rattle.tb_races.specs.Orders.{Order, Synchronised}
use Rattle.tb_lanes.specs.declared.tasks.Tasks.{Tasks}
use Rattle.tb_lanes.specs.Clocks.{AreLanes, AreTasks, Behind, alone, generated, going_on, GoesOn, IsClock, IsLane, IsLastOf, IsSound, Lanes, TellsEnds, both_at, is_end_at, lane, number, of_one, origin, previous, row_at, touches}
use Rattle.tb_lanes.specs.Needing.{IsEndBefore, IsOwn, TellsShared}
use Rattle.tb_lanes.proofs.LinkLemmas.{end_is}
use Rattle.tb_lanes.proofs.OwnLemmas.{H, ev, head_here, legal_here}
use Rattle.tb_lanes.proofs.SoundLemmas.{clock_told, ends_moved, own_going, own_touches, shares_moved, sound_going, sound_moved}

-- nothing follows an end
no_more : (cells : Cells) (t : Name) (last : Action) (acts : List Action) (a : Action) → Continues cells t (last ∷ acts) a → is_end last ≡ true → ⊥
no_more cells t last acts a h e = by (begun cells t (last ∷ acts) a h)
  where
    by : (a ≡ Start) ⊎ IsRunning (last ∷ acts) → ⊥
    by (inl s) = none (subst (Continues cells t (last ∷ acts)) s h)
      where
        none : last ∷ acts ≡ [] → ⊥
        none q = cc
    by (inr r) = both_ways (not (is_end last)) (ap not e) r

module _ (o : Order) (entries : List Entry) (tasks : Tasks) (are : AreTasks entries tasks) (p : ℕ) (w : p < length entries) (clocks : Lanes) (told : AreLanes o entries tasks p clocks) where
  -- the step of its task in front
  module _ (legal : AreLegal entries) (b : ℕ) (prev : previous tasks p ≡ suc b) (same : number tasks b ≡ number tasks p) where
    pub record Goes : Type 0 where
      pub low : b < p
      pub origins : origin tasks p ≡ origin tasks b
      pub mine : both_at of_one entries p b ≡ true
      pub newest : (x : ℕ) → x < p → both_at touches entries p x ≡ true → x ≤ b

    pub goes : Goes
    goes = by (are.behind p w)
      where
        by : Behind entries tasks p → Goes
        by (alone _ _ _ none zero_is nothing) = absurd (omega (arith, none, prev))
        by (generated _ _ _ c l is from made other only) =
            let e : b ≡ c = omega (arith, is, prev) in
            absurd (both_ways (both_at of_one entries p c) other (sym (are.same p c w (omega (arith, l, w))) ∙ eq-eqb (number tasks p) (number tasks c) (sym same ∙ ap (number tasks) e)))
        by (going_on _ _ _ c l is from mine newest) = moved c (omega (arith, is, prev)) l from mine newest
          where
            moved : (c : ℕ) → c ≡ b → c < p → origin tasks p ≡ origin tasks c → both_at of_one entries p c ≡ true → ((x : ℕ) → x < p → both_at touches entries p x ≡ true → x ≤ c) → Goes
            moved c e l from mine newest = record {
              low = omega (arith, e, l);
              origins = from ∙ ap (origin tasks) e;
              mine = subst (λ y. both_at of_one entries p y ≡ true) e mine;
              newest = λ x k h. omega (arith, newest x k h, e);
            }

    ib : b < length entries
    ib = omega (arith, goes.low, w)

    not_over : is_end_at entries b ≡ true → ⊥
    not_over e =
        let t = (ev entries p w).task in
        let acts = head_here entries tasks are p w b ib prev same in
        no_more legal.cells t (ev entries b ib).action (own t (H entries b)) (ev entries p w).action
        (subst (λ a. Continues legal.cells t a (ev entries p w).action) acts (legal_here entries legal p w).1.own)
        (sym (end_is Synchronised entries p b w ib) ∙ e)

    -- it is the newest of its lane
    pub goes_last : IsLastOf clocks p b
    goes_last = by (told.going b goes.low)
      where
        later : (c : ℕ) → b < c → c < p → both_at of_one entries c b ≡ true → ⊥
        later c l m h =
            let ic : c < length entries = omega (arith, m, w) in
            let one : number tasks p ≡ number tasks c = sym same ∙ sym (eqb-true (number tasks c) (number tasks b) (are.same c b ic ib ∙ h)) in
            omega (arith, l, goes.newest c m (own_touches o entries tasks are p w clocks told c ic (sym (are.same p c w ic) ∙ eq-eqb (number tasks p) (number tasks c) one)))

        by : IsLastOf clocks p b ⊎ (((c : ℕ) × (b < c) × (c < p) × (both_at of_one entries c b ≡ true)) ⊎ (is_end_at entries b ≡ true)) → IsLastOf clocks p b
        by (inl l) = l
        by (inr (inl h)) = absurd (later h.0 h.1 h.2 h.3)
        by (inr (inr e)) = absurd (not_over e)

    pub sound_before : IsSound o entries tasks clocks (row_at clocks b) (lane clocks b) p
    sound_before = sound_going o entries tasks are p w clocks told b goes.low goes.origins goes.mine goes_last

    pub own_before : IsOwn o entries tasks clocks (row_at clocks b) (lane clocks b) p
    own_before = own_going o entries tasks are p w clocks told b goes.low goes.origins goes.mine goes_last

    pub lane_before : IsLane entries clocks (lane clocks b) p
    lane_before = record {
      few = omega (arith, told.few b goes.low);
      own = λ q l h. own q l h (cases_eq q b);
      follows = λ c l e last. inl (subst (λ y. both_at of_one entries p y ≡ true) (sym (newest c l e last)) goes.mine);
    }
      where
        own : (q : ℕ) → q < p → both_at of_one entries p q ≡ true → (q ≡ b) ⊎ (q ≢ b) → lane clocks b ≡ lane clocks q
        own q l h (inl e) = ap (lane clocks) (sym e)
        own q l h (inr d) =
            let iq : q < length entries = omega (arith, l, w) in
            let m : q < b = omega (arith, d, goes.newest q l (own_touches o entries tasks are p w clocks told q iq h)) in
            told.own b q goes.low m
            (sym (are.same b q ib iq) ∙ eq-eqb (number tasks b) (number tasks q) (same ∙ eqb-true (number tasks p) (number tasks q) (are.same p q w iq ∙ h)))

        newest : (c : ℕ) → c < p → lane clocks c ≡ lane clocks b → IsLastOf clocks p c → c ≡ b
        newest c l e last = by (cases_order c b)
          where
            by : (c ≡ b) ⊎ ((c < b) ⊎ (b < c)) → c ≡ b
            by (inl s) = s
            by (inr (inl m)) = absurd (last b m goes.low (sym e))
            by (inr (inr m)) = absurd (goes_last c m l e)

  -- with none in front, a new lane

  abbrev fresh : ℕ
  fresh = clocks.count

  pub fresh_new : (q : ℕ) → q < p → lane clocks q ≢ fresh
  fresh_new q l e = omega (arith, told.few q l, e)

  pub lane_none : (previous tasks p ≡ 0) ⊎ ((b : ℕ) × (previous tasks p ≡ suc b) × (number tasks b ≢ number tasks p)) → IsLane entries clocks fresh p
  lane_none c = record {
    few = omega arith;
    own = λ q l h. absurd (none q l h (are.behind p w));
    follows = λ b l e last. absurd (fresh_new b l e);
  }
    where
      none : (q : ℕ) → q < p → both_at of_one entries p q ≡ true → Behind entries tasks p → ⊥
      none q l h (alone _ _ _ first zero_is nothing) = nothing q l (own_touches o entries tasks are p w clocks told q (omega (arith, l, w)) h)
      none q l h (generated _ _ _ b m is from made other only) =
          both_ways (both_at of_one entries p b) other (subst (λ y. both_at of_one entries p y ≡ true) (only q l (own_touches o entries tasks are p w clocks told q (omega (arith, l, w)) h)) h)
      none q l h (going_on _ _ _ b m is from mine newest) =
          ⊎_elim (λ z. omega (arith, z, is))
          (λ d. let e : d.0 ≡ b = omega (arith, d.1, is) in d.2 (ap (number tasks) e ∙ sym (eqb-true (number tasks p) (number tasks b) (are.same p b w (omega (arith, m, w)) ∙ mine)))) c

  -- or that of an end which the row has, where it is the newest there
  module _ (k x : ℕ) (is : IsLane entries clocks k p) (new : k ≡ fresh) (l : x < p) (over : is_end_at entries x ≡ true) (last : clocks.last (lane clocks x) ≡ x) where
    pub last_in : (q : ℕ) → q < p → lane clocks q ≡ lane clocks x → q ≤ x
    last_in q m e = omega (arith, told.newest q m, ap clocks.last e, last)

    pub lane_after : IsLane entries clocks (lane clocks x) p
    lane_after = record {
      few = omega (arith, told.few x l);
      own = λ q m h. absurd (fresh_new q m (sym (is.own q m h) ∙ new));
      follows = λ b m e only. inr (by b m e only (cases_eq b x));
    }
      where
        by : (b : ℕ) → b < p → lane clocks b ≡ lane clocks x → IsLastOf clocks p b → (b ≡ x) ⊎ (b ≢ x) → is_end_at entries b ≡ true
        by b m e only (inl s) = subst (λ y. is_end_at entries y ≡ true) (sym s) over
        by b m e only (inr d) = absurd (only x (omega (arith, d, last_in b m e)) l (sym e))

  -- with what its row says, it is in either
  pub stands_in : (row : ℕ → ℕ) (k j : ℕ) → IsLane entries clocks k p → IsSound o entries tasks clocks row k p → TellsEnds o entries tasks clocks row k p → TellsShared o entries tasks clocks row k p → GoesOn o entries tasks clocks row k p j
      → IsClock o entries tasks clocks row j p × IsLane entries clocks j p
  stands_in row k j is so ends shares (inl e) =
      subst (λ m. IsClock o entries tasks clocks row m p × IsLane entries clocks m p) (sym e) (clock_told o entries tasks are p w clocks told k is.own row so ends shares, is)
  stands_in row k j is so ends shares (inr h) =
      let x = h.0 in
      let joined = h.1 in
      let new = λ (q : ℕ) (m : q < p) (s : lane clocks q ≡ k). fresh_new q m (s ∙ h.2) in
      let last = last_in k x is h.2 joined.0 joined.1 h.4 in
      let place = lane_after k x is h.2 joined.0 joined.1 h.4 in
      subst (λ m. IsClock o entries tasks clocks row m p × IsLane entries clocks m p) (sym h.3) (
        clock_told o entries tasks are p w clocks told (lane clocks x) place.own row
            (sound_moved o entries tasks are p w clocks told k row x joined.0 new last so joined.2)
            (ends_moved o entries tasks are p w clocks told k row x joined.0 new last so joined.2 ends)
            (shares_moved o entries tasks are p w clocks told k row x joined.0 new last so joined.2 shares),
        place,
      )

  -- where it goes on in another lane, it does so after an end after which it comes
  pub goes_behind : (row : ℕ → ℕ) (k j : ℕ) → IsSound o entries tasks clocks row k p → GoesOn o entries tasks clocks row k p j → (j ≡ k) ⊎ ((j < clocks.count) × IsEndBefore o entries p (clocks.last j))
  goes_behind row k j so (inl e) = inl e
  goes_behind row k j so (inr h) =
      let x = h.0 in
      let joined = h.1 in
      let last : clocks.last j ≡ x = ap clocks.last h.3 ∙ h.4 in
      inr (omega (arith, h.3, told.few x joined.0), subst (IsEndBefore o entries p) (sym last) (joined.0, joined.1, so.sound x joined.0 joined.2))
