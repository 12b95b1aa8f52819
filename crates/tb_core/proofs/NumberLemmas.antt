-- The ids of tasks: each task that is there has one, and retains it.
use Rattle.std.proofs.Common.{◌≡◌, ◌<◌, ◌+◌, ◌||◌, ℕ, suc, List, [], ◌∷◌, Bool, true, false, not, cond, Option, Some, None, is_some, length, map, reverse, refl, sym, ap, ◌∙◌, subst, arith}
use Rattle.std.specs.List.{list_any, position_or_len}
use Rattle.std.specs.Map.{keys_of}
use Rattle.std.proofs.lemmas.Bool.{false≢true, lt-ltb}
use Rattle.std.proofs.lemmas.Map.Made.{is_some-lookup}
use Rattle.tb_model.specs.declared.event.Event.{Event}
use Rattle.tb_model.specs.Names.{Name, same_name}
use Rattle.tb_model.specs.Facts.{IsSpawned}
use Rattle.tb_model.specs.Legal.{Cells, MayFollow}
use Rattle.tb_model.specs.Lines.{events_of}
use Rattle.tb_model.proofs.NeedsLemmas.{may_spawned}
use Rattle.tb_wait.specs.Kin.{Kin, Slot, Tasks, kin, kin_in, slot, place, KeepsNames}
use Rattle.tb_wait.proofs.HistoryLemmas.{kin_stands}
use Rattle.tb_undo.specs.State.{Seen as Tables}
use Rattle.tb_places.specs.declared.places.Places.{Places}
use Rattle.tb_places.specs.Places.{IsIndexOf, IsNamed, HasRoomAs, HasRoomFor}
use Rattle.tb_places.proofs.PlacesLemmas.{index_grown}
use Rattle.tb_places.proofs.NameLemmas.{number_grown}
use Rattle.tb_steps.specs.Entries.{Entry, departure}
use Rattle.tb_core.specs.Seen.{Seen, history}
use Rattle.tb_core.specs.Soundness.{names_in, seen, IsSound}

-- ---- who is there has an index

first_within : (p : Name → Bool) (names : List Name) → list_any p names ≡ true → position_or_len p names < length names
first_within p [] h = absurd (false≢true h)
first_within p (t ∷ names) h = by (first_within p names) (p t) refl h
  where
    by : (list_any p names ≡ true → position_or_len p names < length names) → (b : Bool) → p t ≡ b → (p t || list_any p names) ≡ true
        → cond (not (p t)) (1 + position_or_len p names) 0 < suc (length names)
    by rest true e h = subst (λ n. n < suc (length names)) (sym (ap (λ b. cond (not b) (1 + position_or_len p names) 0) e)) (omega arith)
    by rest false e h =
        let below = rest (sym (ap (λ b. b || list_any p names) e) ∙ h) in
        subst (λ n. n < suc (length names)) (sym (ap (λ b. cond (not b) (1 + position_or_len p names) 0) e)) (omega (arith, below))

any_place : (tasks : Tasks) (t : Name) → list_any (same_name t) (keys_of tasks) ≡ true → is_some (place tasks t) ≡ true
any_place tasks t h =
    let n = position_or_len (same_name t) (keys_of tasks) in
    ap (λ b. is_some (cond b (Some n) None)) (lt-ltb n (length (keys_of tasks)) (first_within (same_name t) (keys_of tasks) h))

kin_place : (tasks : Tasks) (t : Name) (k : Kin) → kin tasks t ≡ Some k → is_some (place tasks t) ≡ true
kin_place tasks t k e = any_place tasks t (sym (is_some-lookup (same_name t) tasks) ∙ by (slot tasks t) refl)
  where
    by : (o : Option Slot) → slot tasks t ≡ o → is_some (slot tasks t) ≡ true
    by None h = let clash : ◌≡◌ {A = Option Kin} None (Some k) = sym (ap kin_in h) ∙ e in cc
    by (Some s) h = ap is_some h

-- the task of an event that may follow has an ordinal
pub named_next : (first : Cells) (root_line limit : ℕ) (es : List Entry) (tables : Tables) → IsSound first root_line limit (reverse es) tables → (s : Seen)
    → seen first root_line limit (reverse es) ≡ s → (v : Event)
    → MayFollow s.cells (history s) v → IsNamed (names_in tables) v
named_next first root_line limit es tables sound s is v may =
    let H = events_of (map departure (reverse es)) in
    let there : IsSpawned H v.task = may_spawned first H v sound.legal (subst (λ (x : Seen). MayFollow x.cells (history x) v) (sym is) may) in
    kin_place tables.waits.tasks v.task _ (sound.state.of_tasks.waiting v.task ∙ kin_stands H v.task there)

-- ---- numbers stay

pub index_kept : (old new : Tables) (es : List Event) (p : Places) → KeepsNames old.waits.tasks new.waits.tasks → IsIndexOf (names_in old) es p
    → IsIndexOf (names_in new) es p
index_kept old new es p keeps index = subst (λ names. IsIndexOf names es p) (sym keeps.1) (index_grown (names_in old) keeps.0 es p index)

-- the capacity for an index serves also where more names have come
pub room_along : (old new : Tables) (p : Places) (v : Event) → KeepsNames old.waits.tasks new.waits.tasks → IsNamed (names_in old) v
    → HasRoomFor (names_in old) p v → HasRoomFor (names_in new) p v
room_along old new p v keeps named room =
    subst (λ names. HasRoomFor names p v) (sym keeps.1) (subst (λ n. HasRoomAs p n v.action) (sym (number_grown (names_in old) keeps.0 v.task named)) room)
