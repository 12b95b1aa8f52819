-- The capacity that was there for an event is there yet.
use Rattle.std.proofs.Common.{◌≡◌, ◌<◌, ◌≤◌, ℕ, List, [], ◌∷◌, Bool, true, false, refl, sym, ap, ◌∙◌, subst, Option, Some, None, is_some, length, arith, inl, inr, ⊎_elim, ◌⊎◌}
use Rattle.std.specs.Prelude.{Result, Ok, Err, OnErr}
use Rattle.std.specs.Map.{keys_of}
use Rattle.std.specs.List.{position}
use Rattle.std.proofs.lemmas.Bool.{false≢true}
use Rattle.tb_model.specs.declared.action.Action.{Action}
use Rattle.tb_model.specs.declared.action.Action.TheVariants.{Start, Print, Spawn, Open}
use Rattle.tb_model.specs.declared.event.Event.{Event}
use Rattle.tb_model.specs.declared.item.Item.{Item}
use Rattle.tb_model.specs.Names.{Name, same_name, is_child}
use Rattle.tb_depend.specs.Relations.{items_at}
use Rattle.tb_depend.specs.Table.{KeepsRoom as KeepsRoomForItems}
use Rattle.tb_excl.specs.Holders.{Holders, HasRoomFor as HasRoomToHold, KeepsRoom as KeepsRoomToHold, IsSame}
use Rattle.tb_excl.proofs.RoomLemmas.{kept_room}
use Rattle.tb_wait.specs.Kin.{Tasks as Waiting, Table as Waits, Slot, slot, is_known, IsRoomIn, HasRoomFor as HasRoomForChild, HasGroupRoom, HasChildRoom as HasRoomBelow, IsSame as IsSameWaits, KeepsRoom as KeepsWaitRoom}
use Rattle.tb_wait.proofs.PlaceLemmas.{known_place}
use Rattle.tb_undo.specs.declared.row.Row.{Row}
use Rattle.tb_undo.specs.Tasks.{Rows, task, holders_of, HasChildRoom, KeepsRowRoom}
use Rattle.tb_undo.specs.Sets.{children_in, items_in, Become, Reserves, HasSetRoom}
use Rattle.tb_undo.specs.State.{Seen}
use Rattle.tb_undo.specs.Changes.{AreSame, HasRoomOf, HasRoomFor, HasSpawnRoom, IsRest, KeepsRoom}
use Rattle.tb_undo.proofs.ComingLemmas.{place_known}
use Rattle.tb_undo.proofs.SetsLemmas.{reserves_none}
use Rattle.tb_store.specs.Contents.{Contents}

-- ---- a row

pub row_room_kept : (old new : Row) → new.children.siblings ≡ old.children.siblings → KeepsRoomForItems old.children new.children → old.undeferred.room ≤ new.undeferred.room → KeepsRowRoom old new
row_room_kept old new same keeps more items deferred had =
    let siblings = had.siblings in
    let place : 0 < new.children.places = omega (arith, siblings.a_place, keeps.places) in
    let preds : length new.children.siblings ≤ new.children.number_places = subst (λ l. length l ≤ new.children.number_places) (sym same) (omega (arith, siblings.its_preds, keeps.numbers)) in
    record {
      siblings = record {
        a_place = place;
        its_items = omega (arith, siblings.its_items, keeps.items);
        its_links = omega (arith, siblings.its_links, keeps.links);
        its_heads = λ i h. keeps.heads i.place (siblings.its_heads i h);
        its_preds = preds;
      };
      step = λ e. omega (arith, had.step e, more);
    }

-- ---- what a start takes

items_same : (old new : Rows) → ((u : Name) → task new u ≡ task old u) → (t : Name) → items_in new t ≡ items_in old t
items_same old new e [] = refl
items_same old new e (n ∷ p) = ap (λ o. items_at (children_in o) n) (e p)

set_kept : (old new : Rows) → Reserves old new → (t : Name) → HasSetRoom old t → HasSetRoom new t
set_kept old new k t room p h c e = at (holders_of old p) refl (k.holders p h e)
  where
    at : (o : Option Holders) → holders_of old p ≡ o → Become o (λ g. IsSame g h × KeepsRoomToHold g h) → HasRoomToHold h (items_in new t)
    at None q both = absurd both
    at (Some g) q both = subst (HasRoomToHold h) (sym (items_same old new k.tasks t)) (kept_room g h (items_in old t) both.1 (room p g c q))

-- ---- who waits for whom

known_along : (old new : Waiting) (t : Name) → keys_of new ≡ keys_of old → is_known new t ≡ true → is_known old t ≡ true
known_along old new t e known = place_known old t (ap (λ ks. is_some (position (same_name t) ks)) (sym e) ∙ known_place new t known)

record SlotThere (old : Waiting) (t : Name) (s : Slot) : Type 0 where
  slot_of : Slot
  here : slot old t ≡ Some slot_of
  children : slot_of.child_room ≤ s.child_room
  groups : slot_of.group_room ≤ s.group_room

slot_there : (old new : Waits) → KeepsWaitRoom old new → (t : Name) (s : Slot) → slot new.tasks t ≡ Some s → SlotThere old.tasks t s
slot_there old new keeps t s e = at (slot old.tasks t) refl
  where
    at : (o : Option Slot) → slot old.tasks t ≡ o → SlotThere old.tasks t s
    at None none = absurd (false≢true (sym (ap is_some none) ∙ known_along old.tasks new.tasks t keeps.names (ap is_some e)))
    at (Some r) here =
        let fits = subst (IsRoomIn r) e (keeps.slots t r here) in
        record { slot_of = r; here = here; children = fits.0; groups = fits.1 }

group_kept : (old new : Waits) → KeepsWaitRoom old new → (t : Name) → HasGroupRoom old.tasks t → HasGroupRoom new.tasks t
group_kept old new keeps t room s e =
    let k = slot_there old new keeps t s e in
    omega (arith, room k.slot_of k.here, k.groups)

below_kept : (old new : Waits) → KeepsWaitRoom old new → (t : Name) → HasRoomBelow old.tasks t → HasRoomBelow new.tasks t
below_kept old new keeps t room s e =
    let k = slot_there old new keeps t s e in
    omega (arith, room k.slot_of k.here, k.children)

child_kept : (old new : Waits) → KeepsWaitRoom old new → (p u : Name) → HasRoomForChild old p u → HasRoomForChild new p u
child_kept old new keeps p u room =
    ⊎_elim (λ known. inl (known_along new.tasks old.tasks u (sym keeps.names) known)) (λ both. inr (omega (arith, both.0, keeps.room), below_kept old new keeps p both.1)) room

pub waits_kept : (w : Waits) → KeepsWaitRoom w w
waits_kept w = record { names = refl; room = omega arith; slots = λ t s e. subst (IsRoomIn s) (sym e) (omega arith, omega arith) }

-- ---- all tables

pub room_kept : (old new : Seen) → KeepsRoom old new → (v : Event) → HasRoomFor old v → HasRoomFor new v
room_kept old new k v room = at v.action room
  where
    at : (a : Action) → HasRoomOf old v.task a → HasRoomOf new v.task a
    at Start room = set_kept old.rows new.rows k.rows v.task room
    at (Print x) room = omega (arith, room, k.store)
    at (Spawn s) room = record {
      waits = child_kept old.waits new.waits k.waits v.task s.child room.waits;
      marks = omega (arith, room.marks, k.marks);
      row = ⊎_elim (λ known. inl (ap (λ ks. is_some (position (same_name s.child) ks)) k.waits.names ∙ known)) (λ more. inr (omega (arith, more, k.row_room))) room.row;
      child = k.rows.rooms v.task s.items s.deferred room.child;
      copied = k.copied ∙ room.copied;
    }
    at Open room = group_kept old.waits new.waits k.waits v.task room
    at _ room = tt

-- where the tasks' own parts alone have changed
pub rows_keep : (old new : Seen) → IsRest old new → Reserves old.rows new.rows → old.row_room ≤ new.row_room → new.copied ≡ old.copied → KeepsRoom old new
rows_keep old new rest rows more same = record {
  store = omega (arith, ap (λ s. s.room) rest.store);
  waits = subst (λ w. KeepsWaitRoom old.waits w) (sym rest.waits) (waits_kept old.waits);
  marks = omega (arith, ap (λ m. m.room) rest.marks);
  rows = rows;
  row_room = more;
  copied = same;
}

-- ---- where one table alone has changed

module _ (s old : Seen) (is : s ≡ old) where
  pub store_same : (store : Contents) → store.cells ≡ s.store.cells → store.output ≡ s.store.output → AreSame old (record s { store = store })
  store_same store cells output = subst (λ (x : Seen). AreSame x (record s { store = store })) is (record { cells = cells; output = output; waits = λ u. refl; marks = refl; rows = reserves_none s.rows })

  pub store_keeps : (store : Contents) → s.store.room ≤ store.room → KeepsRoom old (record s { store = store })
  store_keeps store more =
      subst (λ (x : Seen). KeepsRoom x (record s { store = store })) is
      (record { store = more; waits = waits_kept s.waits; marks = omega arith; rows = reserves_none s.rows; row_room = omega arith; copied = refl })

  pub waits_same : (waits : Waits) → IsSameWaits s.waits.tasks waits.tasks → AreSame old (record s { waits = waits })
  waits_same waits same = subst (λ (x : Seen). AreSame x (record s { waits = waits })) is (record { cells = refl; output = refl; waits = same; marks = refl; rows = reserves_none s.rows })

  pub waits_keep : (waits : Waits) → KeepsWaitRoom s.waits waits → KeepsRoom old (record s { waits = waits })
  waits_keep waits keeps =
      subst (λ (x : Seen). KeepsRoom x (record s { waits = waits })) is
      (record { store = omega arith; waits = keeps; marks = omega arith; rows = reserves_none s.rows; row_room = omega arith; copied = refl })

-- a fact where a call is refused
pub on_err : {A B : Type 0} (r : Result A B) (P : Type 0) → P → OnErr r P
on_err (Ok x) P p = tt
on_err (Err e) P p = p
