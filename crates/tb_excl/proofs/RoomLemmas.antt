-- Items that are given capacity, or set, one after the other.
use Rattle.std.proofs.Common.{◌≡◌, ℕ, ◌+◌, add-one, List, [], ◌∷◌, Bool, true, false, cond, ◌&&◌, ◌||◌, Option, refl, sym, ap, ◌∙◌, subst, zero, suc, arith, ◌<◌, length, drop, get_or, drop-cons}
use Rattle.std.proofs.lemmas.Bool.{or_left, or_right}
use Rattle.tb_model.specs.declared.place.Place.{Place}
use Rattle.tb_model.specs.declared.item.Item.{Item}
use Rattle.tb_excl.specs.Holders.{Holders, holder, has_room, takes, is_exclusive, is_place, HasRoomFor, KeepsRoom, IsSet}

-- ---- one item

one_takes : (i : Item) (p : Place) → is_exclusive i.kind ≡ true → takes (i ∷ []) p ≡ is_place i.place p
one_takes i p e = ap (λ b. (b && is_place i.place p) || false) e ∙ or_false (is_place i.place p)
  where
    or_false : (b : Bool) → (b || false) ≡ b
    or_false true = refl
    or_false false = refl

none_takes : (i : Item) (p : Place) → is_exclusive i.kind ≡ false → takes (i ∷ []) p ≡ false
none_takes i p e = ap (λ b. (b && is_place i.place p) || false) e

pub one_set : (old new : Holders) (i : Item) (to : Option ℕ) → is_exclusive i.kind ≡ true → ((p : Place) → holder new p ≡ cond (is_place i.place p) to (holder old p)) → IsSet old (i ∷ []) to new
one_set old new i to e h p = h p ∙ ap (λ b. cond b to (holder old p)) (sym (one_takes i p e))

pub none_set : (old : Holders) (i : Item) (to : Option ℕ) → is_exclusive i.kind ≡ false → IsSet old (i ∷ []) to old
none_set old i to e p = ap (λ b. cond b to (holder old p)) (sym (none_takes i p e))

-- ---- one more item is set

abbrev pub IsLeft : Holders → List Item → Option ℕ → Holders → List Item → Type 0
IsLeft old items to now rest = (p : Place) → cond (takes rest p) to (holder now p) ≡ cond (takes items p) to (holder old p)

pub set_step : (start old new : Holders) (items rest : List Item) (i : Item) (to : Option ℕ) → IsLeft start items to old (i ∷ rest) → IsSet old (i ∷ []) to new → IsLeft start items to new rest
set_step start old new items rest i to l s p =
    ap (cond (takes rest p) to) (s p) ∙ turn (is_exclusive i.kind && is_place i.place p) (takes rest p) (holder old p) ∙ l p
  where
    turn : (a b : Bool) (h : Option ℕ) → cond b to (cond (a || false) to h) ≡ cond (a || b) to h
    turn true true h = refl
    turn true false h = refl
    turn false true h = refl
    turn false false h = refl

-- ---- capacity

pub first_room : (s : Holders) (i : Item) (rest : List Item) → HasRoomFor s (i ∷ rest) → HasRoomFor s (i ∷ [])
first_room s i rest h p t = h p (part (is_exclusive i.kind && is_place i.place p) (takes rest p) t)
  where
    part : (a b : Bool) → (a || false) ≡ true → (a || b) ≡ true
    part true b e = refl
    part false b e = cc

pub rest_room : (s : Holders) (i : Item) (rest : List Item) → HasRoomFor s (i ∷ rest) → HasRoomFor s rest
rest_room s i rest h p t = h p (or_right (is_exclusive i.kind && is_place i.place p) (takes rest p) t)

pub kept_room : (old new : Holders) (items : List Item) → KeepsRoom old new → HasRoomFor old items → HasRoomFor new items
kept_room old new items k h p t = k.room p (h p t)

pub keeps_along : (a b c : Holders) → KeepsRoom a b → KeepsRoom b c → KeepsRoom a c
keeps_along a b c x y = record { parent = y.parent ∙ x.parent; room = λ p k. y.room p (x.room p k) }

pub keeps_all : (a : Holders) → KeepsRoom a a
keeps_all a = record { parent = refl; room = λ p k. k }

-- the items in front of the rest have their capacity
abbrev pub AreDone : Holders → List Item → List Item → Type 0
AreDone s items rest = (p : Place) → takes items p ≡ true → takes rest p ≡ false → has_room s p ≡ true

pub done_step : (old new : Holders) (items rest : List Item) (i : Item) → AreDone old items (i ∷ rest) → HasRoomFor new (i ∷ []) → KeepsRoom old new → AreDone new items rest
done_step old new items rest i d h k p t n = at (is_exclusive i.kind && is_place i.place p) refl
  where
    at : (x : Bool) → (is_exclusive i.kind && is_place i.place p) ≡ x → has_room new p ≡ true
    at true e = h p (or_left (is_exclusive i.kind && is_place i.place p) false e)
    at false e = k.room p (d p t (ap (λ y. y || takes rest p) e ∙ n))

pub next_room : (s : Holders) (items : List Item) (k : ℕ) (d : Item) → k < length items → HasRoomFor s (drop k items) → HasRoomFor s (get_or items k d ∷ [])
next_room s items k d l h = first_room s (get_or items k d) (drop (suc k) items) (subst (HasRoomFor s) (drop-cons items k d l) h)

-- ---- the item at an index

pub left_step : (start old new : Holders) (items : List Item) (k : ℕ) (d : Item) (to : Option ℕ) → k < length items → IsLeft start items to old (drop k items) → IsSet old (get_or items k d ∷ []) to new → IsLeft start items to new (drop (k + 1) items)
left_step start old new items k d to l h s =
    subst (λ j. IsLeft start items to new (drop j items)) (sym (add-one k))
    (set_step start old new items (drop (suc k) items) (get_or items k d) to (subst (IsLeft start items to old) (drop-cons items k d l) h) s)

rest_takes : (items : List Item) (k : ℕ) (p : Place) → k < length items → takes (drop (suc k) items) p ≡ true → takes (drop k items) p ≡ true
rest_takes [] k p l t = absurd (omega arith)
rest_takes (i ∷ items) zero p l t = or_right (is_exclusive i.kind && is_place i.place p) (takes items p) t
rest_takes (i ∷ items) (suc k) p l t = rest_takes items k p (omega arith) t

pub room_step : (old new : Holders) (items : List Item) (k : ℕ) → k < length items → KeepsRoom old new → HasRoomFor old (drop k items) → HasRoomFor new (drop (k + 1) items)
room_step old new items k l keeps h =
    kept_room old new (drop (k + 1) items) keeps
    (subst (λ j. HasRoomFor old (drop j items)) (sym (add-one k)) (λ p t. h p (rest_takes items k p l t)))
