-- The indexes of a task's steps, as a core lends them, are those among its stored steps.
use Rattle.std.proofs.Common.{◌≡◌, ℕ, List, Some, Bool, map, reverse, get_or, slice_get, sym, ap, ◌∙◌}
use Rattle.std.proofs.lemmas.Option.{get_or_from_slice_get}
use Rattle.tb_model.specs.declared.event.Event.{Event}
use Rattle.tb_model.specs.Names.{Name}
use Rattle.tb_model.specs.Lines.{events_of}
use Rattle.tb_model.specs.Facts.{is_of}
use Rattle.tb_places.specs.Where.{places_where}
use Rattle.tb_steps.specs.Entries.{Entry, departure}
use Rattle.tb_core.specs.Renumbering.{events_in}
use Rattle.tb_core.specs.Seen.{Seen, history}
use Rattle.tb_core.proofs.IndexLemmas.{from_oldest}

pub lent : (es : List Entry) (s : Seen) (p : Event → Bool) (found : List ℕ) → map departure (reverse es) ≡ s.steps → found ≡ places_where p (reverse (history s)) → found ≡ places_where p (events_in es)
lent es s p found same is = is ∙ ap (places_where p) (ap (λ l. reverse (events_of l)) (sym same) ∙ from_oldest es)

-- of the task of the stored step at an index
pub lent_at : (es : List Entry) (s : Seen) (at : ℕ) (t : Name) (found : List ℕ) → ((e : Entry) → e ≡ get_or es at e → t ≡ e.event.task) → map departure (reverse es) ≡ s.steps → found ≡ places_where (is_of t) (reverse (history s))
    → (e : Entry) → slice_get es at ≡ Some e → found ≡ places_where (is_of e.event.task) (events_in es)
lent_at es s at t found read same is e at_e =
    lent es s (is_of t) found same is ∙ ap (λ u. places_where (is_of u) (events_in es)) (read e (sym (get_or_from_slice_get es at e e at_e)))
