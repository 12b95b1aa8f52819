-- A step and all that need it are taken out of what is stored.
use Rattle.std.proofs.Common.{◌≡◌, ◌+◌, ℕ, List, [], ◌∷◌, ◌++◌, Bool, true, false, drop, reverse, refl, sym, ap, subst, if◌then◌else◌}
use Rattle.std.specs.List.{AllZip}
use Rattle.tb_model.specs.declared.step_id.StepId.{StepId}
use Rattle.tb_model.specs.Legal.{Cells}
use Rattle.tb_undo.specs.State.{Seen as Tables}
use Rattle.tb_wait.specs.Kin.{KeepsNames}
use Rattle.tb_places.specs.declared.places.Places.{Places}
use Rattle.tb_places.specs.Places.{IsIndexOf}
use Rattle.tb_core.specs.declared.entry.Entry.{Entry as Stored}
use Rattle.tb_core.specs.declared.removed.Removed.{Removed}
use Rattle.tb_steps.specs.Entries.{Entry}
use Rattle.tb_places.specs.Renumbering.{goes_at, left_from}
use Rattle.tb_core.specs.Renumbering.{events_in}
use Rattle.tb_core.specs.Rolled.{removed_places, RollsBack}
use Rattle.tb_core.specs.Seen.{Seen, history}
use Rattle.tb_core.specs.Soundness.{names_in, seen, IsSound}
use Rattle.tb_core.specs.Storing.{IsStored, entries_in}
use Rattle.tb_core.specs.UnwindingStored.{UnwoundOf}
use Rattle.tb_core.proofs.HeldLemmas.{held, Holds}
use Rattle.tb_core.proofs.IndexLemmas.{index_unwound}
use Rattle.tb_core.proofs.RolledLemmas.{rolled_sound, rolls_back}
use Rattle.tb_core.proofs.StoringLemmas.{all_kept}

-- of two lists that agree index by index the same indexes stay
zip_left : {A B : Type 0} (R : A → B → Type 0) (at : ℕ) (gs : List ℕ) (xs : List A) (ys : List B) → AllZip R xs ys
    → AllZip R (left_from at gs xs) (left_from at gs ys)
zip_left R at gs [] [] z = tt
zip_left R at gs [] (y ∷ ys) z = absurd z
zip_left R at gs (x ∷ xs) [] z = absurd z
zip_left R at gs (x ∷ xs) (y ∷ ys) z = by (goes_at at gs) (zip_left R (at + 1) (drop 1 gs) xs ys z.1) (zip_left R (at + 1) gs xs ys z.1)
  where
    by : (b : Bool) → AllZip R (left_from (at + 1) (drop 1 gs) xs) (left_from (at + 1) (drop 1 gs) ys)
        → AllZip R (left_from (at + 1) gs xs) (left_from (at + 1) gs ys)
        → AllZip R (if b then left_from (at + 1) (drop 1 gs) xs else x ∷ left_from (at + 1) gs xs) (if b then left_from (at + 1) (drop 1 gs) ys else y ∷ left_from (at + 1) gs ys)
    by true gone kept = gone
    by false gone kept = (z.0, kept)

module _ (first : Cells) (root_line limit : ℕ) (ss : List Stored) (tables : Tables)
    (sound : IsSound first root_line limit (reverse (entries_in tables ss)) tables) (s : Seen)
    (view : seen first root_line limit (reverse (entries_in tables ss)) ≡ s) (e : StepId) (going : List ℕ) (new : Tables) (removed : List Removed) (stored : AllZip (IsStored (names_in tables)) ss (entries_in tables ss)) (u : UnwoundOf e going (entries_in tables ss) tables new removed) where
  abbrev es : List Entry
  es = entries_in tables ss

  abbrev left : List Entry
  left = u.entries ++ reverse u.kept

  pub record AllOut (all : List Stored) (p : Places) : Type 0 where
    pub held : Holds first root_line limit all left new p
    pub back : (answer : List Removed) → answer ≡ reverse removed → RollsBack s e (seen first root_line limit (reverse (entries_in new all))) answer

  pub all_out : (all : List Stored) → all ≡ left_from 0 going ss → (xs : List Entry) → xs ≡ es → (told : List ℕ) (p : Places)
      → told ≡ reverse (removed_places e (history s)) → KeepsNames tables.waits.tasks new.waits.tasks
      → IsIndexOf (names_in tables) (left_from 0 told (events_in xs)) p → AllOut all p
  all_out all whole xs same told p places keeps index =
      let sound' = rolled_sound first root_line limit es u.entries left u.kept tables new e removed u.unwound refl sound in
      let zipped : AllZip (IsStored (names_in new)) all left =
      subst (λ l. AllZip (IsStored (names_in new)) l left) (sym whole)
      (subst (AllZip (IsStored (names_in new)) (left_from 0 going ss)) (sym u.left) (zip_left (IsStored (names_in new)) 0 going ss es (all_kept tables new ss es keeps stored))) in
      let placed = index_unwound e es xs u.entries u.kept left tables new removed told (history s) p u.unwound refl same (sym (ap history view)) places keeps index in
      let h = held first root_line limit all left new p sound' zipped placed in
      record {
        held = h;
        back = λ answer is. subst (λ l. RollsBack s e (seen first root_line limit (reverse l)) answer) (sym h.say) (rolls_back first root_line limit es u.entries left u.kept tables new e removed u.unwound refl s view answer is);
      }
