-- One stored step: its index, its ordinal, and what it replaced.
use Rattle.std.proofs.Common.{◌≡◌, ◌<◌, ℕ, ℤ, List, Option, Some, length, get_or, sym, ap, ap₂, ◌∙◌, arith}
use Rattle.std.specs.List.{AllZip, IsDistinct}
use Rattle.std.proofs.lemmas.List.{length-map}
use Rattle.std.proofs.lemmas.Slice.Zip.{AllZip-long}
use Rattle.tb_model.specs.declared.action.Action.{Action}
use Rattle.tb_model.specs.declared.event.Event.{Event}
use Rattle.tb_model.specs.declared.step_id.StepId.{StepId}
use Rattle.tb_model.specs.Names.{Name, same_name}
use Rattle.tb_model.proofs.TestLemmas.{same_refl}
use Rattle.tb_store.specs.declared.replaced.Replaced.{Replaced}
use Rattle.tb_undo.specs.Tasks.{register_by}
use Rattle.tb_places.specs.Places.{event_number}
use Rattle.tb_places.proofs.NameLemmas.{number_at}
use Rattle.tb_core.specs.declared.entry.Entry.{Entry as Stored}
use Rattle.tb_steps.specs.Entries.{Entry}
use Rattle.tb_core.specs.Packing.{number_in, replaced_in}
use Rattle.tb_core.specs.Renumbering.{events_in}
use Rattle.tb_core.specs.Storing.{IsStored, replaced_stored}
use Rattle.tb_core.proofs.HistoryLemmas.{zip_at}
use Rattle.tb_core.proofs.RenumberLemmas.{some_entry}

pub events_many : (names : List Name) (ss : List Stored) (es : List Entry) → AllZip (IsStored names) ss es → length ss ≡ length (events_in es)
events_many names ss es z = sym (AllZip-long (IsStored names) ss es z) ∙ sym (length-map es (λ (e : Entry). e.event))

-- the stored step at an index, which is stored so
pub record IsAt (names : List Name) (es : List Entry) (at : ℕ) (s : Stored) : Type 0 where
  pub entry : Entry
  pub within : at < length es
  pub here : entry ≡ get_or es at entry
  pub stored : IsStored names s entry

pub stored_at : (names : List Name) (ss : List Stored) (es : List Entry) (at : ℕ) (s : Stored) → AllZip (IsStored names) ss es → at < length ss
    → s ≡ get_or ss at s → IsAt names es at s
stored_at names ss es at s z within here =
    let inside : at < length es = omega (arith, within, AllZip-long (IsStored names) ss es z) in
    let w = some_entry es at inside in
    record { entry = w.0; within = inside; here = w.1; stored = zip_at (IsStored names) ss es at s w.0 z within here w.1 }

pub entry_there : (names : List Name) (ss : List Stored) (es : List Entry) (at : ℕ) → AllZip (IsStored names) ss es → at < length ss
    → (e : Entry) × (at < length es) × (e ≡ get_or es at e)
entry_there names ss es at z within =
    let inside : at < length es = omega (arith, within, AllZip-long (IsStored names) ss es z) in
    let w = some_entry es at inside in
    (w.0, inside, w.1)

-- the task of a stored step has the id that is stored
pub its_number : (names : List Name) (s : Stored) (e : Entry) → IsDistinct same_name names → IsStored names s e → Some s.task ≡ event_number names e.event
its_number names s e distinct is = sym (number_at names s.task e.event.task e.event.task distinct is.task (same_refl e.event.task))

-- what it replaced
pub same_record : (names : List Name) (s : Stored) (e : Entry) → IsStored names s e → replaced_stored s ≡ replaced_in e
same_record names s e is =
    ap (λ a. put (number_in a s.number) (register_by a) s.at) is.action
    ∙ ap (λ n. put (number_in e.event.action n) (register_by e.event.action) s.at) is.number
    ∙ ap (λ l. put (number_in e.event.action e.number) (register_by e.event.action) l) is.at
  where
    put : Option ℤ → Option ℕ → ℕ → Replaced
    put n r l = record { number = n; reg = r; at = l }

abbrev pub made : Name → Action → Event
made t a = record { task = t; action = a }

-- the event of a stored step, by its step's name
pub same_event : (names : List Name) (s : Stored) (e : Entry) (id : StepId) → IsStored names s e → id.task ≡ e.event.task → made id.task s.action ≡ e.event
same_event names s e id is task = ap₂ made task is.action
