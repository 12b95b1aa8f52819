-- A step that nothing needs is taken out of what is stored.
use Rattle.std.proofs.Common.{◌≡◌, ◌<◌, ℕ, List, [], ◌∷◌, get_or, length, remove, reverse, refl, sym, ap, subst, arith}
use Rattle.std.specs.List.{AllZip}
use Rattle.std.proofs.lemmas.Slice.Zip.{AllZip-long}
use Rattle.tb_model.specs.declared.event.Event.{Event}
use Rattle.tb_model.specs.declared.step_id.StepId.{StepId}
use Rattle.tb_model.specs.Legal.{Cells}
use Rattle.tb_undo.specs.State.{Seen as Tables}
use Rattle.tb_undo.specs.Steps.{Stands, IsWithout}
use Rattle.tb_wait.specs.Kin.{KeepsNames}
use Rattle.tb_places.specs.declared.places.Places.{Places}
use Rattle.tb_places.specs.Places.{IsIndexOf}
use Rattle.tb_core.specs.declared.entry.Entry.{Entry as Stored}
use Rattle.tb_core.specs.declared.removed.Removed.{Removed}
use Rattle.tb_steps.specs.Entries.{Entry}
use Rattle.tb_core.specs.Outcomes.{IsFree, IsPlaceOfStep, TakesBack}
use Rattle.tb_core.specs.Packing.{replaced_in}
use Rattle.tb_places.specs.Renumbering.{left_from}
use Rattle.tb_core.specs.Renumbering.{events_in}
use Rattle.tb_core.specs.Seen.{Seen}
use Rattle.tb_core.specs.Soundness.{names_in, seen, IsSound}
use Rattle.tb_core.specs.Storing.{IsStored, entries_in, replaced_stored}
use Rattle.tb_core.proofs.HeldLemmas.{held, Holds}
use Rattle.tb_core.proofs.HistoryLemmas.{zip_at}
use Rattle.tb_core.proofs.IndexLemmas.{index_removed}
use Rattle.tb_core.proofs.RenumberLemmas.{some_entry}
use Rattle.tb_core.proofs.StoredLemmas.{made, same_event, same_record}
use Rattle.tb_core.proofs.StoringLemmas.{all_kept, zip_remove}
use Rattle.tb_core.proofs.UndoneLemmas.{place_within, step_here, stands_there, left_sound, takes_back}

module _ (first : Cells) (root_line limit : ℕ) (ss : List Stored) (tables : Tables)
    (sound : IsSound first root_line limit (reverse (entries_in tables ss)) tables) (z : AllZip (IsStored (names_in tables)) ss (entries_in tables ss))
    (i : StepId) (at : ℕ) (s : Seen) (view : seen first root_line limit (reverse (entries_in tables ss)) ≡ s) (free : IsFree s i) (place : IsPlaceOfStep s i at) where
  abbrev es : List Entry
  es = entries_in tables ss

  inside : at < length es
  inside = place_within first root_line limit es i at s view place

  -- it is there
  pub stored_within : at < length ss
  stored_within = omega (arith, inside, AllZip-long (IsStored (names_in tables)) ss es z)

  module _ (x : Stored) (is : x ≡ get_or ss at x) where
    abbrev e : Entry
    e = (some_entry es at inside).0

    here : e ≡ get_or es at e
    here = (some_entry es at inside).1

    one : IsStored (names_in tables) x e
    one = zip_at (IsStored (names_in tables)) ss es at x e z stored_within is here

    its_event : made i.task x.action ≡ e.event
    its_event =
        same_event (names_in tables) x e i one
        (sym (ap (λ (j : StepId). j.task) (step_here first root_line limit es i at e inside here (subst (λ y. IsPlaceOfStep y i at) (sym view) place))))

    its_record : replaced_stored x ≡ replaced_in e
    its_record = same_record (names_in tables) x e one

    -- the tables may take it back
    pub stands_stored : Stands tables (made i.task x.action) (replaced_stored x)
    stands_stored =
        subst (λ v. Stands tables v (replaced_stored x)) (sym its_event)
        (subst (Stands tables e.event) (sym its_record) (stands_there first root_line limit es tables i at e s view inside here sound free place))

    pub record Out (new : Tables) (left : List Stored) (p : Places) : Type 0 where
      pub held : Holds first root_line limit left (remove es at) new p
      pub back : TakesBack s i (seen first root_line limit (reverse (entries_in new left))) (record { id = i; action = x.action })

    abbrev told : Event → Removed
    told v = record { id = record { task = v.task; k = i.k }; action = v.action }

    pub out : (new : Tables) (left : List Stored) (xs : List Entry) (going : List ℕ) (p : Places) → left ≡ remove ss at → xs ≡ es → going ≡ at ∷ []
        → KeepsNames tables.waits.tasks new.waits.tasks
        → IsWithout tables (made i.task x.action) (replaced_stored x) new → IsIndexOf (names_in tables) (left_from 0 going (events_in xs)) p → Out new left p
    out new left xs going p removed same one_goes keeps without index =
        let w : IsWithout tables e.event (replaced_in e) new = subst (λ r. IsWithout tables e.event r new) its_record (subst (λ v. IsWithout tables v (replaced_stored x) new) its_event without) in
        let sound' = left_sound first root_line limit es tables i at e s view inside here sound free place (remove es at) refl new w in
        let zipped : AllZip (IsStored (names_in new)) left (remove es at) =
        subst (λ l. AllZip (IsStored (names_in new)) l (remove es at)) (sym removed) (all_kept tables new (remove ss at) (remove es at) keeps (zip_remove (IsStored (names_in tables)) ss es at z)) in
        let h = held first root_line limit left (remove es at) new p sound' zipped (index_removed es xs (remove es at) at going p tables new same one_goes refl keeps index) in
        record {
          held = h;
          back =
              subst (λ l. TakesBack s i (seen first root_line limit (reverse l)) (told (made i.task x.action))) (sym h.say)
              (subst (λ v. TakesBack s i (seen first root_line limit (reverse (remove es at))) (told v)) (sym its_event)
              (takes_back first root_line limit es tables i at e s view inside here sound free place (remove es at) refl));
        }
