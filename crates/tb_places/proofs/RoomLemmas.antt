-- The capacity of the rows holds for all events that they have, and stays.
use Rattle.std.proofs.Common.{◌≡◌, ◌+◌, ◌≤◌, ℕ, suc, List, [], ◌∷◌, ◌++◌, Bool, true, false, cond, filter, Option, Some, None, length, slice_get, refl, ap, ◌∙◌, arith, Vec, vec_capacity}
use Rattle.std.specs.declared.alloc.Global.{Global}
use Rattle.std.specs.Option.{option_map_or}
use Rattle.std.proofs.lemmas.List.{length-append}
use Rattle.std.proofs.lemmas.List.Elements.{filter-append}
use Rattle.tb_model.specs.declared.action.Action.{Action}
use Rattle.tb_model.specs.declared.event.Event.{Event}
use Rattle.tb_model.specs.Names.{Name}
use Rattle.tb_places.specs.declared.places.Places.{Places}
use Rattle.tb_places.specs.declared.rows.Rows.{Rows}
use Rattle.tb_places.specs.Where.{places_from}
use Rattle.tb_places.specs.Rows.{row_of, room_of, HasRoomAt, is_of_row, AreRows, GrowsRooms}
use Rattle.tb_places.specs.Places.{event_mark, event_number, mark_of, IsNamed, IsIndexOf, HasRoomAs, HasRoomFor, HasRoomForAll, KeepsRoom}
use Rattle.tb_places.proofs.WhereLemmas.{places_cons}
use Rattle.tb_places.proofs.RowLemmas.{its_row}
use Rattle.tb_places.proofs.PlacesLemmas.{all_append, all_parts}

-- ---- how many

pub places_count : (n : ℕ) (p : Event → Bool) (es : List Event) → length (places_from n p es) ≡ length (filter p es)
places_count n p [] = refl
places_count n p (x ∷ es) = ap length (places_cons n p x es) ∙ by (p x) (places_count (n + 1) p es)
  where
    by : (b : Bool) → length (places_from (n + 1) p es) ≡ length (filter p es) → length (cond b (n ∷ places_from (n + 1) p es) (places_from (n + 1) p es)) ≡ length (cond b (x ∷ filter p es) (filter p es))
    by true rest = ap suc rest
    by false rest = rest

count_append : (p : Event → Bool) (xs ys : List Event) → length (filter p (xs ++ ys)) ≡ length (filter p xs) + length (filter p ys)
count_append p xs ys = ap length (filter-append p xs ys) ∙ length-append (filter p xs) (filter p ys)

count_cons : (p : Event → Bool) (e : Event) (ys : List Event) → length (filter p ys) ≤ length (filter p (e ∷ ys))
count_cons p e ys = by (p e)
  where
    by : (b : Bool) → length (filter p ys) ≤ length (cond b (e ∷ filter p ys) (filter p ys))
    by true = omega arith
    by false = omega arith

count_here : (p : Event → Bool) (e : Event) (ys : List Event) → p e ≡ true → length (filter p (e ∷ ys)) ≡ suc (length (filter p ys))
count_here p e ys h = ap (λ b. length (cond b (e ∷ filter p ys) (filter p ys))) h

-- ---- the rows

within_room : (r : Rows) (k : ℕ) → length (row_of r k) ≤ room_of r k
within_room r k = by (slice_get r.rows.items k)
  where
    by : (o : Option (Vec ℕ Global)) → length (option_map_or (λ row. row.items) o []) ≤ option_map_or (λ row. vec_capacity row) o 0
    by None = omega arith
    by (Some v) = omega (arith, v.ok.0, v.ok.1)

rows_within : (number : Event → Option ℕ) (es : List Event) (r : Rows) → AreRows number es r → (k : ℕ) → length (filter (is_of_row number k) es) ≤ room_of r k
rows_within number es r rows k = omega (arith, places_count 0 (is_of_row number k) es, ap length (rows k), within_room r k)

row_next : (number : Event → Option ℕ) (xs ys : List Event) (e : Event) (r : Rows) → AreRows number xs r → ((k : ℕ) → length (filter (is_of_row number k) (xs ++ e ∷ ys)) ≤ room_of r k) → HasRoomAt r (number e)
row_next number xs ys e r rows room = by (number e) refl
  where
    by : (o : Option ℕ) → number e ≡ o → HasRoomAt r o
    by None h = tt
    by (Some n) h =
        let p = is_of_row number n in
        omega (arith, room n, count_append p xs (e ∷ ys), count_here p e ys (its_row number xs e n h), places_count 0 p xs, ap length (rows n))

rows_without : (number : Event → Option ℕ) (xs ys : List Event) (e : Event) (r : Rows) → ((k : ℕ) → length (filter (is_of_row number k) (xs ++ e ∷ ys)) ≤ room_of r k) → (k : ℕ) → length (filter (is_of_row number k) (xs ++ ys)) ≤ room_of r k
rows_without number xs ys e r room k =
    let p = is_of_row number k in
    omega (arith, room k, count_append p xs (e ∷ ys), count_append p xs ys, count_cons p e ys)

-- ---- the indexes

-- there is capacity for the events that are there
pub room_of_index : (names : List Name) (es : List Event) (p : Places) → IsIndexOf names es p → HasRoomForAll names es p
room_of_index names es p index = record {
  named = index.named;
  own = rows_within (event_number names) es p.own index.own;
  marks = rows_within event_mark es p.marks index.marks;
}

-- for the next of them
pub room_next : (names : List Name) (xs ys : List Event) (e : Event) (p : Places) → IsIndexOf names xs p → HasRoomForAll names (xs ++ e ∷ ys) p → HasRoomFor names p e
room_next names xs ys e p index room = record {
  own = row_next (event_number names) xs ys e p.own index.own room.own;
  mark = row_next event_mark xs ys e p.marks index.marks room.marks;
}

-- capacity for all of the events is capacity for all but one
pub room_without : (names : List Name) (xs ys : List Event) (e : Event) (p : Places) → HasRoomForAll names (xs ++ e ∷ ys) p → HasRoomForAll names (xs ++ ys) p
room_without names xs ys e p room = record {
  named =
      let parts = all_parts (IsNamed names) xs (e ∷ ys) room.named in
      all_append (IsNamed names) xs ys parts.0 parts.1.1;
  own = rows_without (event_number names) xs ys e p.own room.own;
  marks = rows_without event_mark xs ys e p.marks room.marks;
}

pub room_kept : (names : List Name) (es : List Event) (old new : Places) → KeepsRoom old new → HasRoomForAll names es old → HasRoomForAll names es new
room_kept names es old new keeps room = record {
  named = room.named;
  own = λ k. omega (arith, room.own k, keeps.own k);
  marks = λ k. omega (arith, room.marks k, keeps.marks k);
}

-- the event that comes next is named
pub named_next : (names : List Name) (xs ys : List Event) (e : Event) (p : Places) → HasRoomForAll names (xs ++ e ∷ ys) p → IsNamed names e
named_next names xs ys e p room = (all_parts (IsNamed names) xs (e ∷ ys) room.named).1.0

-- ---- no capacity is lost

room_at_kept : (old new : Rows) → ((k : ℕ) → row_of new k ≡ row_of old k) → GrowsRooms old new → (n : Option ℕ) → HasRoomAt old n → HasRoomAt new n
room_at_kept old new same grows None h = tt
room_at_kept old new same grows (Some n) h = omega (arith, h, grows n, ap length (same n))

pub as_kept : (old : Places) (own marks : Rows) → ((k : ℕ) → row_of own k ≡ row_of old.own k) → GrowsRooms old.own own → ((k : ℕ) → row_of marks k ≡ row_of old.marks k) → GrowsRooms old.marks marks
    → (n : Option ℕ) (a : Action) → HasRoomAs old n a → HasRoomAs (record { own = own; marks = marks }) n a
as_kept old own marks same grows same_marks grows_marks n a h = record {
  own = room_at_kept old.own own same grows n h.own;
  mark = room_at_kept old.marks marks same_marks grows_marks (mark_of a) h.mark;
}
