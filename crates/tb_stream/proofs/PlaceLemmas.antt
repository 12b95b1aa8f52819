-- How a step is put into an order.
use Rattle.std.proofs.Common.{◌≡◌, ◌<◌, ◌≤◌, ℕ, List, [], ◌∷◌, ◌++◌, true, length, refl, sym, ap, ◌∙◌, subst, arith, Some, None, slice_get, ◌⊎◌, inl, inr, Vec, Global}
use Rattle.std.specs.Prelude.{slice_index_or}
use Rattle.std.proofs.lemmas.List.{length-map}
use Rattle.tb_lanes.specs.declared.lane_bound.LaneBound.{LaneBound}
use Rattle.tb_lanes.specs.Bounds.{IsRising, bound_in}
use Rattle.tb_lanes.specs.Clocks.{GoesOn, IsClock, IsEnd, IsLane, IsLow, IsSound, Lanes, is_end_at, is_told}
use Rattle.tb_lanes.proofs.LaneLemmas.{fresh_new, lane_before, lane_none, sound_before, stands_in}
use Rattle.tb_lanes.proofs.NeedingLemmas.{none_shared}
use Rattle.tb_lanes.proofs.SoundLemmas.{sound_none}
use Rattle.tb_lanes.proofs.TableLemmas.{row_pushed}
use Rattle.tb_stream.specs.declared.clocks.Clocks.{Clocks}
use Rattle.tb_stream.specs.declared.end.End.{End}
use Rattle.tb_stream.specs.declared.mark.Mark.{Mark}
use Rattle.tb_stream.specs.Ends.{AreStored}
use Rattle.tb_stream.specs.Placing.{IsBegun, IsGoing, IsPlaced, IsComplete, row_of}
use Rattle.tb_stream.specs.Seen.{AreClocks, IsFull, IsMark, IsOf, Run, order}
use Rattle.tb_stream.proofs.ListLemmas.{map_read}
use Rattle.tb_stream.proofs.SeenLemmas.{id_at, step_before, step_none}
use Rattle.tb_clocks.specs.Known.{names_in}
use Rattle.tb_clocks.proofs.TaskLemmas.{within as index_within}
use Rattle.tb_stream.specs.Seen.{front}

module _ (r : Run) (n : ℕ) (lanes : Lanes) (clocks : Clocks) (are : AreClocks r n lanes clocks) (w : n < length r.entries) where
  abbrev rows : List (Vec LaneBound Global)
  rows = clocks.rows.items

  module _ (task : ℕ) (of : IsOf r n task) where
    pub newest_there : length clocks.newest.items ≤ task → ⊥
    newest_there h = omega (arith, h, are.newest.listed, index_within (names_in (front r n)) task _ (id_at r n n task (omega arith) are.within of w))

    -- as the newest step of its task
    pub begun_some : (b : Mark) → slice_get clocks.newest.items task ≡ Some (Some b)
        → IsBegun r n lanes rows (record { at = n; lane = b.lane; row = b.row; task = task })
    begun_some b is =
        let newest = are.newest.each task _ (Some b) (id_at r n n task (omega arith) are.within of w) is in
        let full = newest.0 in
        let before = step_before r n w b.at full.mark.at newest.1 newest.2 in record {
          next = record { at = refl; within = w; task = of };
          within = full.within;
          rising = full.rising;
          sound = subst (λ row. IsSound (order r) r.entries r.tasks lanes row b.lane n) (sym full.bounds)
              (subst (λ k. IsSound (order r) r.entries r.tasks lanes (lanes.bound b.at) k n) (sym full.mark.lane)
              (sound_before (order r) r.entries r.tasks r.by_task n w lanes are.are r.legal b.at before.0 before.1));
          lane = subst (λ k. IsLane r.entries lanes k n) (sym full.mark.lane) (lane_before (order r) r.entries r.tasks r.by_task n w lanes are.are r.legal b.at before.0 before.1);
        }

    -- as one with none in front
    pub begun_none : slice_get clocks.newest.items task ≡ Some None → (k : ℕ) → k ≡ length clocks.lasts.items
        → IsBegun r n lanes rows (record { at = n; lane = k; row = 0; task = task })
    begun_none is k new =
        let none = step_none r n w (are.newest.each task _ None (id_at r n n task (omega arith) are.within of w) is) in
        let fresh : k ≡ lanes.count = new ∙ are.lasts_listed in record {
          next = record { at = refl; within = w; task = of };
          within = omega arith;
          rising = λ i j x y l m. absurd (omega (arith, m));
          sound = subst (λ j. IsSound (order r) r.entries r.tasks lanes (bound_in []) j n) (sym fresh)
              (sound_none (order r) r.entries r.tasks r.by_task n w lanes are.are lanes.count (fresh_new (order r) r.entries r.tasks r.by_task n w lanes are.are) none);
          lane = subst (λ j. IsLane r.entries lanes j n) (sym fresh) (lane_none (order r) r.entries r.tasks r.by_task n w lanes are.are none);
        }

  -- ---- in its own lane

  pub placed_by : (m : Mark) → IsBegun r n lanes rows m → IsComplete r n lanes rows m → (j : ℕ)
      → GoesOn (order r) r.entries r.tasks lanes (row_of rows m) m.lane n j
      → IsPlaced r n lanes rows (record { at = m.at; lane = j; row = m.row; task = m.task })
  placed_by m begun ends j goes =
      let s = stands_in (order r) r.entries r.tasks r.by_task n w lanes are.are (row_of rows m) m.lane j begun.lane begun.sound ends (none_shared r.exclusion r.entries r.tasks lanes (row_of rows m) m.lane n) goes in record {
        next = record { at = begun.next.at; within = w; task = begun.next.task };
        within = begun.within;
        rising = begun.rising;
        clock = s.0;
        low = begun.sound.low;
        lane = s.1;
      }

  -- or in that of an end
  pub goes_on : (row : ℕ → ℕ) (k j : ℕ) (end : Mark) → IsMark n lanes end → is_end_at r.entries end.at ≡ true
      → is_told (order r) r.entries r.tasks lanes row k n end.at ≡ true
      → (j ≡ k) ⊎ ((k ≡ length clocks.lasts.items) × (j ≡ end.lane) × (end.at ≡ slice_index_or clocks.lasts.items end.lane 0)) → IsLane r.entries lanes k n → GoesOn (order r) r.entries r.tasks lanes row k n j
  goes_on row k j end mark over told (inl e) lane = inl e
  goes_on row k j end mark over told (inr h) lane =
      inr (
        end.at,
        (mark.at, over, told),
        h.0 ∙ are.lasts_listed,
        h.1 ∙ mark.lane,
        ap lanes.last (sym mark.lane) ∙ sym (are.lasts end.lane (omega (arith, mark.lane, are.are.few end.at mark.at))) ∙ sym h.2,
      )

  -- with the row that was made of what was joined
  module _ (m end : Mark) (row : Vec LaneBound Global) (going : IsGoing r n lanes rows m end row) (new : List (Vec LaneBound Global))
      (more : new ≡ rows ++ row ∷ []) (number : ℕ) (len : number ≡ length new) (j : ℕ)
      (choice : (j ≡ m.lane) ⊎ ((m.lane ≡ length clocks.lasts.items) × (j ≡ end.lane) × (end.at ≡ slice_index_or clocks.lasts.items end.lane 0))) where
    pub placed_going : IsPlaced r n lanes new (record { at = m.at; lane = j; row = number; task = m.task })
    placed_going =
        let goes = goes_on (bound_in row.items) m.lane j end going.mark going.over going.told choice going.begun.lane in
        let s = stands_in (order r) r.entries r.tasks r.by_task n w lanes are.are (bound_in row.items) m.lane j going.begun.lane going.sound going.ends (none_shared r.exclusion r.entries r.tasks lanes (bound_in row.items) m.lane n) goes in
        let it = row_pushed rows new row number more len in record {
          next = record { at = going.begun.next.at; within = w; task = going.begun.next.task };
          within = omega (arith, len);
          rising = subst IsRising (sym it) going.rising;
          clock = subst (λ xs. IsClock (order r) r.entries r.tasks lanes (bound_in xs) j n) (sym it) s.0;
          low = subst (λ xs. IsLow (bound_in xs) n) (sym it) going.sound.low;
          lane = s.1;
        }

-- an end that is stored
module _ (r : Run) (n : ℕ) (lanes : Lanes) (rows : List (Vec LaneBound Global)) (P : ℕ → Type 0) (ends : Vec End Global)
    (stored : AreStored r n lanes rows P ends) (low : (x : ℕ) → P x → IsEnd r.entries n x) where
  pub stored_end : (i : ℕ) (e : End) → slice_get ends.items i ≡ Some e → i < length ends.items
      → IsFull r n lanes rows e.mark × (is_end_at r.entries e.mark.at ≡ true)
  stored_end i e g l =
      let at = map_read (λ (x : End). x.mark.at) ends.items i e 0 g in
      let long = length-map ends.items (λ e. e.mark.at) in
      (stored.full i e g, subst (λ y. is_end_at r.entries y ≡ true) at (low _ (stored.are.each i (omega (arith, l, long)))).1)
