-- The nearest children of one decide whether all on which it depends are over.
use Rattle.std.proofs.Common.{◌≡◌, ◌<◌, ◌≤◌, ◌-◌, ◌+◌, ◌==◌, ℕ, zero, suc, List, [], ◌∷◌, ◌++◌, Bool, true, false, ◌&&◌, slice_get, Some, length, refl, sym, ap, ap₂, ◌∙◌, subst, inl, inr, ◌⊎◌, arith, nat_lt}
use Rattle.std.specs.Prelude.{IsTrue, Contains}
use Rattle.std.specs.List.{list_any}
use Rattle.std.proofs.lemmas.Bool.{cases_lt, and_parts, eqb-true, eq-eqb, false≢true}
use Rattle.std.proofs.lemmas.List.{get_or_past}
use Rattle.std.proofs.lemmas.Option.{slice_get-get_or, get_or_from_slice_get, slice_get_within}
use Rattle.std.proofs.lemmas.List.Elements.{Contains-append_left, Contains-push, Contains-push_cases}
use Rattle.tb_model.specs.declared.item.Item.{Item}
use Rattle.tb_model.specs.declared.place.Place.TheVariants.{Cell}
use Rattle.tb_model.specs.Items.{is_before, meets, relation, some_meet}
use Rattle.tb_depend.specs.Chains.{IsLast, is_met}
use Rattle.tb_depend.specs.Layout.{rows_from, AreEnds, IsRow}
use Rattle.tb_depend.specs.Numbers.{numbers_where}
use Rattle.tb_depend.specs.Relations.{items_at, depends}
use Rattle.tb_depend.specs.Nearness.{AddsNear, AreAllOver, AreItemsClosed, AreItemsOver, AreNear, HasItemBefore, IsClosed, IsLastBefore, IsParted, IsPassed, child_at, is_among}
use Rattle.tb_depend.proofs.NearLemmas.{AreOverFrom}
use Rattle.tb_depend.proofs.ChainLemmas.{same_item}
use Rattle.tb_depend.proofs.LastLemmas.{kind_turned, met_both, one_kind, there}
use Rattle.tb_depend.proofs.NumbersLemmas.{listed}
use Rattle.tb_depend.proofs.PlacesLemmas.{all_are, any_at, any_where, in_front, items_closed, nothing, related}

-- one that meets a new one of a cell is over, where those that come before the new one are, as far as the last of them
module _ (items : List Item) (over : ℕ → Bool) (new : Item) (from at last : ℕ) (within : last ≤ from) (full : last ≤ length items) (final : IsLastBefore items new last) (closed : AreItemsClosed items over) (all : AreOverFrom items over new from at) (k : ℕ) (mid old : Item) (low : at ≤ k) (high : k < last) (here : slice_get items k ≡ Some mid) where
  met_over : (c : ℕ) → new.place ≡ Cell c → IsTrue (is_met new mid) → IsTrue (over k)
  met_over c p met = by_kind (is_before (relation new.kind mid.kind)) refl
    where
      by_kind : (b : Bool) → is_before (relation new.kind mid.kind) ≡ b → IsTrue (over k)
      by_kind true e = all k mid low (omega (arith, high, within)) here (ap₂ (λ x y. x && y) met e)
      by_kind false e =
          let l = last - 1 in
          let s : last ≡ suc l = omega (arith, high) in
          let its = there items l (omega (arith, s, full)) in
          let t = final l its.0 s its.1 in
          let parts = and_parts (is_met new its.0) (is_before (relation new.kind its.0.kind)) t in
          let turned = kind_turned new.kind its.0.kind parts.1 in
          let behind = subst (λ q. is_before (relation its.0.kind q) ≡ true) (one_kind new.kind mid.kind e) turned in
          elim (cases_lt k l) [
            | inl q ↦ closed l k its.0 mid q its.1 here (ap₂ (λ x y. x && y) (met_both new c p its.0 mid parts.0 met) behind) (all l its.0 (omega (arith, q, low)) (omega (arith, s, within)) its.1 t)
            | inr q ↦
                let one : k ≡ l = omega (arith, q, s, high) in
                let same = same_item items l its.0 mid its.1 (subst (λ i. slice_get items i ≡ Some mid) one here) in
                absurd (false≢true (sym e ∙ ap (λ (i : Item). is_before (relation new.kind i.kind)) same ∙ parts.1))
          ]

  parted_over : IsParted mid new old → IsTrue (over k)
  parted_over (inl u) = met_over u.0 u.1 u.2
  parted_over (inr u) = all k mid low (omega (arith, high, within)) here u

-- children were added that have items before the new one, such that where they are over, so are
-- those of the items from this index on
pub record AddsFrom (ends : List ℕ) (items : List Item) (new : Item) (from : ℕ) (before after : List ℕ) (at : ℕ) : Type 0 where
  pub keeps : (m : ℕ) → Contains before m → Contains after m
  pub part : (m : ℕ) → Contains after m → Contains before m ⊎ HasItemBefore ends items new from m
  pub decides : (over : ℕ → Bool) → AreItemsClosed items (λ k. over (child_at ends k)) → AreAllOver over after → AreOverFrom items (λ k. over (child_at ends k)) new from at

module _ (ends : List ℕ) (items : List Item) (new : Item) (from : ℕ) (before : List ℕ) where
  -- none is after the last one
  pub adds_none : (at : ℕ) → IsLast (meets is_before new) items from at → AddsFrom ends items new from before before at
  adds_none at last = record {
    keeps = λ m h. h;
    part = λ m h. inl h;
    decides = λ over closed all k old low high e t. absurd (omega (arith, low, last.last k old high e t));
  }

  -- down to the next one
  adds_next : (after : List ℕ) (at next : ℕ) → 0 < at → at ≤ from → IsLast (meets is_before new) items (at - 1) next → AddsFrom ends items new from before after (at - 1) → AddsFrom ends items new from before after next
  adds_next after at next some within last a = record {
    keeps = a.keeps;
    part = a.part;
    decides = λ over closed all k old low high e t. elim (cases_lt k (at - 1)) [
      | inl q ↦ absurd (omega (arith, low, last.last k old q e t))
      | inr q ↦ a.decides over closed all k old q high e t
    ];
  }

  -- one that is passed by one after it, which comes before the new one or before the last one that
  -- does
  adds_passed : (after : List ℕ) (at last : ℕ) (here : Item) → 0 < at → at ≤ last → last ≤ from → last ≤ length items → IsLastBefore items new last → slice_get items (at - 1) ≡ Some here → IsPassed items new (at - 1) last → AddsFrom ends items new from before after at
      → AddsFrom ends items new from before after (at - 1)
  adds_passed after at last here some up within full final e p a = record {
    keeps = a.keeps;
    part = a.part;
    decides = λ over closed all k old low high f t. elim (cases_lt k at) [
      | inl q ↦
          let s : k ≡ at - 1 = omega (arith, q, low) in
          let g : slice_get items (at - 1) ≡ Some old = subst (λ i. slice_get items i ≡ Some old) s f in
          let low_mid : at ≤ p.place = omega (arith, p.low, some) in
          let its = parted_over items (λ i. over (child_at ends i)) new from at last within full final closed (a.decides over closed all) p.place p.item old low_mid p.high p.here (p.parted old g) in
          subst (λ i. IsTrue (over (child_at ends i))) (sym s) (closed p.place (at - 1) p.item old p.low p.here g (p.behind old g) its)
      | inr q ↦ a.decides over closed all k old q high f t
    ];
  }

  -- one that is added
  adds_one : (after : List ℕ) (at : ℕ) (here : Item) → 0 < at → at ≤ from → slice_get items (at - 1) ≡ Some here → IsTrue (meets is_before new here) → AddsFrom ends items new from before after at
      → AddsFrom ends items new from before (after ++ child_at ends (at - 1) ∷ []) (at - 1)
  adds_one after at here some within is t a = record {
    keeps = λ m h. Contains-append_left after (child_at ends (at - 1) ∷ []) m (a.keeps m h);
    part = λ m h. elim (Contains-push_cases after (child_at ends (at - 1)) m h) [
      | inl q ↦ a.part m q
      | inr q ↦ inr (at - 1, here, omega (arith, some, within), is, t, q)
    ];
    decides = λ over closed all k old low high e u. elim (cases_lt k at) [
      | inl q ↦
          let s : k ≡ at - 1 = omega (arith, q, low) in
          subst (λ i. IsTrue (over (child_at ends i))) (sym s) (all (child_at ends (at - 1)) (Contains-push after (child_at ends (at - 1))))
      | inr q ↦ a.decides over closed (λ m h. all m (Contains-append_left after (child_at ends (at - 1) ∷ []) m h)) k old q high e u
    ];
  }

  pub passed_on : (after : List ℕ) (at last next : ℕ) (here : Item) → 0 < at → at ≤ last → last ≤ from → last ≤ length items → IsLastBefore items new last → slice_get items (at - 1) ≡ Some here → IsPassed items new (at - 1) last → IsLast (meets is_before new) items (at - 1) next
      → AddsFrom ends items new from before after at → AddsFrom ends items new from before after next
  passed_on after at last next here some up within full final is p down a = adds_next after at next some (omega (arith, up, within)) down (adds_passed after at last here some up within full final is p a)

  pub added_on : (after : List ℕ) (at next : ℕ) (here : Item) → 0 < at → at ≤ from → slice_get items (at - 1) ≡ Some here → IsTrue (meets is_before new here) → IsLast (meets is_before new) items (at - 1) next
      → AddsFrom ends items new from before after at → AddsFrom ends items new from before (after ++ child_at ends (at - 1) ∷ []) next
  added_on after at next here some within is t last a = adds_next (after ++ child_at ends (at - 1) ∷ []) at next some within last (adds_one after at here some within is t a)

  pub adds_all : (after : List ℕ) (at : ℕ) → at ≡ 0 → AddsFrom ends items new from before after at → AddsNear ends items new from before after
  adds_all after at none a = record {
    keeps = a.keeps;
    part = a.part;
    decides = λ over closed all k old high e t. a.decides over closed all k old (omega (arith, none)) high e t;
  }

-- ---- all items of one child

-- by those of its items that are before this index
pub record AreNearSoFar (ends : List ℕ) (items : List Item) (n from at : ℕ) (near : List ℕ) : Type 0 where
  pub part : (m : ℕ) → Contains near m → IsTrue (depends (rows_from 0 ends items) n m)
  pub decides : (over : ℕ → Bool) → IsClosed (rows_from 0 ends items) over → AreAllOver over near → (i : ℕ) (new : Item) → from ≤ i → i < at → slice_get items i ≡ Some new → AreItemsOver items (λ k. over (child_at ends k)) new from

module _ (ends : List ℕ) (items : List Item) (a : AreEnds 0 ends (length items)) (n from to : ℕ) (row : IsRow ends (length items) n from to) where
  pub near_none : (near : List ℕ) → near ≡ [] → AreNearSoFar ends items n from from near
  near_none near none = record {
    part = λ m h. absurd (empty m (subst (λ l. Contains l m) none h));
    decides = λ over closed all i new low high e. absurd (omega (arith, low, high));
  }
    where
      empty : (m : ℕ) → Contains [] m → ⊥
      empty m h = absurd (omega (arith, h.1))

  -- a child with an item before one of these
  before_one : (i m : ℕ) (new : Item) → from ≤ i → i < to → slice_get items i ≡ Some new → HasItemBefore ends items new from m → IsTrue (depends (rows_from 0 ends items) n m)
  before_one i m new low high e h =
      let k = h.0 in
      let at = in_front ends items a (λ j. true) n from to row k i h.1 h.3 low high h.2 in
      let d = related ends items a i k new h.1 e h.3 (omega (arith, at.0, at.1)) h.4 in
      ap₂ (λ x y. depends (rows_from 0 ends items) x y) (sym at.0) (sym h.5) ∙ d

  pub near_more : (at : ℕ) (new : Item) (before after : List ℕ) → from ≤ at → at < to → slice_get items at ≡ Some new → AddsNear ends items new from before after → AreNearSoFar ends items n from at before → AreNearSoFar ends items n from (at + 1) after
  near_more at new before after low high e adds s = record {
    part = λ m h. elim (adds.part m h) [
      | inl q ↦ s.part m q
      | inr q ↦ before_one at m new low high e q
    ];
    decides = λ over closed all i its l t f. elim (cases_lt i at) [
      | inl q ↦ s.decides over closed (λ m h. all m (adds.keeps m h)) i its l q f
      | inr q ↦
          let same : i ≡ at = omega (arith, q, t) in
          let g = same_item items at its new (subst (λ j. slice_get items j ≡ Some its) same f) e in
          subst (λ x. AreItemsOver items (λ k. over (child_at ends k)) x from) g (adds.decides over (items_closed ends items a over closed) all)
    ];
  }

  pub near_all : (near : List ℕ) (at : ℕ) → to ≤ at → AreNearSoFar ends items n from at near → AreNear (rows_from 0 ends items) n near
  near_all near at high s = record {
    part = s.part;
    decides = λ over closed all. all_are ends items a over n from to row (λ i new low h e. s.decides over closed all i new low (omega (arith, h, high)) e);
  }

-- ---- listed by rising ordinal

among_contains : (near : List ℕ) (m : ℕ) → IsTrue (is_among near m) → Contains near m
among_contains near m h =
    let x = any_where (λ k. k == m) near h in
    (x.0, slice_get_within near x.0 x.1 x.2, get_or_from_slice_get near x.0 x.1 m x.2 ∙ eqb-true x.1 m x.3)

contains_among : (near : List ℕ) (m : ℕ) → Contains near m → IsTrue (is_among near m)
contains_among near m h = any_at (λ k. k == m) near h.0 m (slice_get-get_or near h.0 m h.1 ∙ ap Some h.2) (eq-eqb m m refl)

-- only a child is depended on
depends_within : (siblings : List (List Item)) (n m : ℕ) → IsTrue (depends siblings n m) → (1 ≤ m) × (m ≤ length siblings)
depends_within siblings n m h =
    let parts = and_parts (nat_lt m n) (some_meet is_before (items_at siblings n) (items_at siblings m)) h in
    let x = any_where (λ i. list_any (meets is_before i) (items_at siblings m)) (items_at siblings n) parts.1 in
    let y = any_where (meets is_before x.1) (items_at siblings m) x.3 in
    of_child m y.0 y.1 y.2
  where
    of_child : (k j : ℕ) (i : Item) → slice_get (items_at siblings k) j ≡ Some i → (1 ≤ k) × (k ≤ length siblings)
    of_child zero j i e = absurd (nothing j i e)
    of_child (suc k) j i e = elim (cases_lt k (length siblings)) [
      | inl q ↦ (omega arith, q)
      | inr q ↦ absurd (nothing j i (ap (λ r. slice_get r j) (sym (get_or_past siblings k [] q)) ∙ e))
    ]

pub near_listed : (siblings : List (List Item)) (n : ℕ) (near numbers : List ℕ) (len : ℕ) → len ≡ length siblings → numbers ≡ numbers_where (is_among near) len → AreNear siblings n near → AreNear siblings n numbers
near_listed siblings n near numbers len same e a = record {
  part = λ m h. a.part m (among_contains near m ((listed (is_among near) len m).0 (subst (λ l. Contains l m) e h)).2);
  decides = λ over closed all. a.decides over closed (λ m h.
      let w = depends_within siblings n m (a.part m h) in
      let in_list = (listed (is_among near) len m).1 (w.0, subst (λ k. m ≤ k) (sym same) w.1, contains_among near m h) in
      all m (subst (λ l. Contains l m) (sym e) in_list));
}
