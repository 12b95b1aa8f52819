-- The indexes of a core are those of its history.
use Rattle.std.proofs.Common.{◌≡◌, ◌≤◌, ℕ, List, [], ◌∷◌, ◌++◌, Bool, length, map, reverse, remove, refl, sym, ap, ap₂, ◌∙◌, subst, arith}
use Rattle.std.proofs.lemmas.List.{length-reverse, reverse-append, reverse-reverse}
use Rattle.tb_model.specs.declared.event.Event.{Event}
use Rattle.tb_model.specs.declared.step_id.StepId.{StepId}
use Rattle.tb_model.specs.Facts.{History}
use Rattle.tb_model.specs.Legal.{Cells}
use Rattle.tb_model.specs.Lines.{events_of}
use Rattle.tb_model.specs.Needs.{without}
use Rattle.tb_model.proofs.LinesLemmas.{events_left}
use Rattle.tb_undo.specs.State.{Seen as Tables}
use Rattle.tb_undo.proofs.TieLemmas.{map_events}
use Rattle.tb_places.specs.declared.places.Places.{Places}
use Rattle.tb_places.specs.Places.{IsIndexOf}
use Rattle.tb_places.specs.Where.{places_where}
use Rattle.tb_steps.specs.Entries.{Entry, departure}
use Rattle.tb_core.specs.declared.removed.Removed.{Removed}
use Rattle.tb_core.specs.Rolled.{removed_places}
use Rattle.tb_core.specs.Seen.{Seen, history}
use Rattle.tb_core.specs.Soundness.{names_in, seen, IsSound}
use Rattle.tb_wait.specs.Kin.{KeepsNames}
use Rattle.tb_core.proofs.NumberLemmas.{index_kept}
use Rattle.tb_places.specs.Renumbering.{left_from}
use Rattle.tb_core.specs.Renumbering.{events_in}
use Rattle.tb_core.specs.Unwinding.{Unwound}
use Rattle.tb_core.proofs.MiddleLemmas.{departures_append}
use Rattle.tb_core.proofs.RenumberLemmas.{left_without, left_removed}

-- the history from its oldest event
pub from_oldest : (es : List Entry) → reverse (events_of (map departure (reverse es))) ≡ events_in es
from_oldest [] = refl
from_oldest (x ∷ es) =
    ap (λ l. reverse (events_of (map departure l))) (reverse-append (x ∷ []) es)
    ∙ ap (λ l. reverse (events_of l)) (departures_append (reverse es) (x ∷ []))
    ∙ ap reverse (map_events (map departure (reverse es)) (departure x ∷ []))
    ∙ reverse-append (events_of (map departure (reverse es))) (x.event ∷ [])
    ∙ ap (λ l. x.event ∷ l) (from_oldest es)

-- what a core shows of an index
pub shown : (first : Cells) (root_line limit : ℕ) (es : List Entry) (s : Seen) (p : Event → Bool) (found : List ℕ)
    → seen first root_line limit (reverse es) ≡ s → found ≡ places_where p (events_in es) → found ≡ places_where p (reverse (history s))
shown first root_line limit es s p found is here = here ∙ ap (places_where p) (sym (from_oldest es) ∙ ap (λ (z : Seen). reverse (history z)) is)

-- there are few stored steps
pub few_entries : (first : Cells) (root_line limit : ℕ) (es : List Entry) (tables : Tables) → IsSound first root_line limit (reverse es) tables
    → length es ≤ 1000000
few_entries first root_line limit es tables sound = omega (arith, sound.within, sound.bound, length-reverse es)

-- one stored step was taken out
pub index_removed : (es xs left : List Entry) (at : ℕ) (going : List ℕ) (p : Places) (was now : Tables) → xs ≡ es → going ≡ at ∷ [] → left ≡ remove es at
    → KeepsNames was.waits.tasks now.waits.tasks
    → IsIndexOf (names_in was) (left_from 0 going (events_in xs)) p → IsIndexOf (names_in now) (events_in left) p
index_removed es xs left at going p was now same one gone keeps index =
    index_kept was now (events_in left) p keeps (subst (λ l. IsIndexOf (names_in was) l p) (ap₂ (λ g l. left_from 0 g (events_in l)) one same ∙ left_removed es left at gone) index)

-- a step was taken out with all that need it
pub index_unwound : (e : StepId) (es xs entries kept new : List Entry) (before tables : Tables) (removed : List Removed) (going : List ℕ) (H : History) (p : Places)
    → Unwound e es before entries kept tables removed → new ≡ entries ++ reverse kept → xs ≡ es → H ≡ events_of (map departure (reverse es)) → going ≡ reverse (removed_places e H)
    → KeepsNames before.waits.tasks tables.waits.tasks → IsIndexOf (names_in before) (left_from 0 going (events_in xs)) p → IsIndexOf (names_in tables) (events_in new) p
index_unwound e es xs entries kept new before tables removed going H p u put same is places keeps index =
    let old : events_in es ≡ reverse H = sym (from_oldest es) ∙ ap reverse (sym is) in
    let left : reverse new ≡ kept ++ reverse entries = ap reverse put ∙ reverse-append entries (reverse kept) ∙ ap (λ l. l ++ reverse entries) (reverse-reverse kept) in
    let rest : events_of (map departure (reverse new)) ≡ without e H =
    ap (λ l. events_of (map departure l)) left ∙ ap events_of u.rest ∙ events_left e (map departure (reverse es)) ∙ ap (without e) (sym is)
    in
    let stays : left_from 0 going (events_in xs) ≡ events_in new =
    ap₂ (left_from 0) places (ap events_in same ∙ old) ∙ left_without e H ∙ ap reverse (sym rest) ∙ from_oldest new
    in
    index_kept before tables (events_in new) p keeps (subst (λ l. IsIndexOf (names_in before) l p) stays index)
