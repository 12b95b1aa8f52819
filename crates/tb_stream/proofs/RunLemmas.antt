-- There is a whole history with any legal beginning.
use Rattle.std.proofs.Common.{◌≡◌, ◌<◌, ◌≤◌, ◌+◌, ◌^◌, ℕ, zero, suc, List, [], ◌∷◌, ◌++◌, Bool, true, false, length, refl, sym, ap, ◌∙◌, subst, arith, Vec, Global, ℤ}
use Rattle.std.proofs.lemmas.List.{length-append, take_all}
use Rattle.tb_model.specs.declared.event.Event.{Event}
use Rattle.tb_model.specs.Facts.{History}
use Rattle.tb_model.specs.Legal.{Cells, Legal}
use Rattle.tb_steps.specs.Entries.{Entry}
use Rattle.tb_steps.specs.Scans.{AreLegal, history_of}
use Rattle.tb_steps.proofs.ScanLemmas.{history_of-append}
use Rattle.tb_lanes.specs.declared.tasks.Tasks.{Tasks}
use Rattle.tb_lanes.specs.Clocks.{AreTasks, both_at, number, of_one, origin}
use Rattle.tb_lanes.specs.Numbering.{AreNumbered, touched}
use Rattle.tb_lanes.proofs.NumberLemmas.{numbered_all, numbered_new, numbered_none, numbered_own}
use Rattle.tb_lanes.proofs.OwnLemmas.{ev}
use Rattle.tb_stream.specs.Halves.{Begins}
use Rattle.tb_stream.specs.Seen.{Run}

abbrev carrying : Event → Entry
carrying v = record { event = v; to = 0; at = 0; number = ℤ.pos 0 }

abbrev records_of : History → List Entry
records_of [] = []
records_of (v ∷ H) = records_of H ++ carrying v ∷ []

whole_is : (H : History) → history_of (records_of H) ≡ H
whole_is [] = refl
whole_is (v ∷ H) = history_of-append (records_of H) (carrying v ∷ []) ∙ ap (λ G. v ∷ G) (whole_is H)

whole_long : (H : History) → length (records_of H) ≡ length H
whole_long [] = refl
whole_long (v ∷ H) = length-append (records_of H) (carrying v ∷ []) ∙ (let e = whole_long H in omega (arith, e))

-- a vector of these numbers
abbrev listed : Vec ℕ Global → (xs : List ℕ) → length xs < 2 ^ 63 → Vec ℕ Global
listed seed xs small = record { ptr = seed.ptr; len = length xs; cap = length xs; alloc = seed.alloc; items = xs; ok = (refl, omega arith); small = small }

module _ (seed : Vec ℕ Global) (entries : List Entry) (legal : AreLegal entries) (small : length entries < 2 ^ 63) where
  record Numbered (n : ℕ) : Type 0 where
    count : ℕ
    tasks : Tasks
    are : AreNumbered entries n count tasks

  abbrev more : (n : ℕ) → n < length entries → (xs : List ℕ) → length xs ≡ n → ℕ → Vec ℕ Global
  more n w xs e x = listed seed (xs ++ x ∷ []) (let l = length-append xs (x ∷ []) in omega (arith, l, e, w, small))

  abbrev with_one : (n : ℕ) → n < length entries → (count : ℕ) → (t : Tasks) → AreNumbered entries n count t → (place its_number from : ℕ) → Tasks
  with_one n w count t a place its_number from = record {
    previous = more n w t.previous.items a.previous_listed place;
    numbers = more n w t.numbers.items a.numbers_listed its_number;
    origins = more n w t.origins.items a.origins_listed from;
  }

  one_more : (n : ℕ) (w : n < length entries) → Numbered n → Numbered (suc n)
  one_more n w old = by (touched entries (ev entries n w).task n) refl
    where
      up : (count : ℕ) (t : Tasks) → AreNumbered entries (n + 1) count t → Numbered (suc n)
      up count t a =
          let e : n + 1 ≡ suc n = omega arith in
          record { count = count; tasks = t; are = subst (λ m. AreNumbered entries m count t) e a }

      new : (r : ℕ) → r ≡ touched entries (ev entries n w).task n → ((b : ℕ) → r ≡ suc b → both_at of_one entries n b ≡ false) → Numbered (suc n)
      new r e other =
          let t = with_one n w old.count old.tasks old.are r old.count r in
          up (old.count + 1) t (numbered_new entries legal n w r e old.count old.tasks t old.are other (record { previous = refl; numbers = refl; origins = refl }))

      by : (r : ℕ) → r ≡ touched entries (ev entries n w).task n → Numbered (suc n)
      by zero e = new zero e (λ b s. absurd (omega (arith, s)))
      by (suc b) e = which (both_at of_one entries n b) refl
        where
          which : (x : Bool) → both_at of_one entries n b ≡ x → Numbered (suc n)
          which true m =
              let t = with_one n w old.count old.tasks old.are (suc b) (number old.tasks b) (origin old.tasks b) in
              up old.count t (numbered_own entries legal n w (suc b) e old.count old.tasks t old.are b refl m (record { previous = refl; numbers = refl; origins = refl }))
          which false m = new (suc b) e (λ c s. let q : b ≡ c = omega (arith, s) in subst (λ d. both_at of_one entries n d ≡ false) q m)

  numbered : (n : ℕ) → n ≤ length entries → Numbered n
  numbered zero l =
      let none = listed seed [] (omega (arith, small)) in
      let t : Tasks = record { previous = none; numbers = none; origins = none } in
      record { count = 0; tasks = t; are = numbered_none entries t refl refl refl }
  numbered (suc n) l = one_more n (omega (arith, l)) (numbered n (omega (arith, l)))

  by_task : (t : Tasks) × AreTasks entries t
  by_task =
      let all = numbered (length entries) (omega arith) in
      (all.tasks, numbered_all entries (length entries) all.count all.tasks refl all.are)

pub a_run : (seed : Vec ℕ Global) (cells : Cells) (H : History) → Legal cells H → length H < 2 ^ 63 → (exclusion : Bool) → (r : Run) × Begins exclusion H r
a_run seed cells H l small exclusion =
    let entries = records_of H in
    let long = whole_long H in
    let legal : AreLegal entries = record { cells = cells; legal = subst (Legal cells) (sym (whole_is H)) l } in
    let t = by_task seed entries legal (omega (arith, small, long)) in
    let r : Run = record { exclusion = exclusion; entries = entries; tasks = t.0; legal = legal; by_task = t.1 } in (
      r,
      record {
        exclusion_is = refl;
        within = omega (arith, long);
        front_is = ap history_of (take_all (length H) entries (omega (arith, long))) ∙ whole_is H;
      },
    )
