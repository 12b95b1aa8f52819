-- Where the last items of one kind are over, so are those in front of them.
use Rattle.std.proofs.Common.{◌≡◌, ◌<◌, ◌≤◌, ◌-◌, ℕ, suc, List, Bool, true, false, ◌&&◌, slice_get, Some, refl, sym, ap, ap₂, ◌∙◌, subst, inl, inr, arith}
use Rattle.std.specs.Prelude.{IsTrue}
use Rattle.std.proofs.lemmas.Bool.{cases_lt, and_parts, false≢true}
use Rattle.tb_model.specs.declared.place.Place.TheVariants.{Cell, All}
use Rattle.tb_model.specs.declared.item.Item.{Item}
use Rattle.tb_model.specs.Items.{relation, is_before, same_place, meets}
use Rattle.tb_depend.specs.Chains.{is_met, IsLast}
use Rattle.tb_depend.specs.Nearness.{AreItemsClosed, AreItemsOver}
use Rattle.tb_depend.proofs.LastLemmas.{met_both, one_kind, kind_turned, behind_all}
use Rattle.tb_depend.proofs.ChainLemmas.{same_item}

-- the items from this index on that come before the new one are over
abbrev pub AreOverFrom : List Item → (ℕ → Bool) → Item → ℕ → ℕ → Type 0
AreOverFrom items over new from at = (k : ℕ) (old : Item) → at ≤ k → k < from → slice_get items k ≡ Some old → IsTrue (meets is_before new old) → IsTrue (over k)

pub met_of : (new old : Item) → IsTrue (meets is_before new old) → IsTrue (is_met new old)
met_of new old t = (and_parts (is_met new old) (is_before (relation new.kind old.kind)) t).0

kinds : (new old : Item) → IsTrue (meets is_before new old) → is_before (relation new.kind old.kind) ≡ true
kinds new old t = (and_parts (is_met new old) (is_before (relation new.kind old.kind)) t).1

both : (new old : Item) → IsTrue (is_met new old) → is_before (relation new.kind old.kind) ≡ true → IsTrue (meets is_before new old)
both new old m b = ap₂ (λ x y. x && y) m b

module _ (items : List Item) (over : ℕ → Bool) (new : Item) (from : ℕ) where
  pub over_last : (at : ℕ) → IsLast (meets is_before new) items from at → AreOverFrom items over new from at
  over_last at l k old low high e t = absurd (omega (arith, low, l.last k old high e t))

  -- one more that is over, or doesn't come before the new one
  pub over_next : (at : ℕ) (here : Item) → AreOverFrom items over new from at → slice_get items (at - 1) ≡ Some here → (IsTrue (meets is_before new here) → IsTrue (over (at - 1))) → AreOverFrom items over new from (at - 1)
  over_next at here all e is k old low high f t = elim (cases_lt k at) [
    | inl q ↦
        let s : k ≡ at - 1 = omega (arith, q, low) in
        let g = same_item items (at - 1) here old e (subst (λ n. slice_get items n ≡ Some old) s f) in
        subst (λ n. IsTrue (over n)) (sym s) (is (subst (λ o. IsTrue (meets is_before new o)) g t))
    | inr q ↦ all k old q high f t
  ]

  -- one that isn't
  pub not_over : (at : ℕ) (here : Item) → at < from → slice_get items at ≡ Some here → IsTrue (meets is_before new here) → over at ≡ false → AreItemsOver items over new from → ⊥
  not_over at here h e t f all = false≢true (sym f ∙ all at here h e t)

  -- one that comes after all
  module _ (closed : AreItemsClosed items over) where
    pub over_all : (at : ℕ) (here : Item) → AreOverFrom items over new from at → slice_get items at ≡ Some here → here.place ≡ All → is_before (relation here.kind here.kind) ≡ true → IsTrue (over at) → AreItemsOver items over new from
    over_all at here all e p b o k old h f t = elim (cases_lt k at) [
      | inl q ↦ closed at k here old q e f (both here old (ap (λ r. same_place r old.place) p) (behind_all here.kind old.kind b)) o
      | inr q ↦ all k old q h f t
    ]

    -- the last one, where it comes after all of its storage location
    pub over_one : (c : ℕ) → new.place ≡ Cell c → (last : ℕ) (its : Item) → IsLast (meets is_before new) items from (suc last) → slice_get items last ≡ Some its → is_before (relation its.kind its.kind) ≡ true → IsTrue (over last) → AreItemsOver items over new from
    over_one c p last its l e b o k old h f t = elim (cases_lt k last) [
      | inl q ↦
          let m = met_of new its (l.passes last its refl e) in
          closed last k its old q e f (both its old (met_both new c p its old m (met_of new old t)) (behind_all its.kind old.kind b)) o
      | inr q ↦
          let w = l.last k old h f t in
          let s : last ≡ k = omega (arith, q, w) in
          subst (λ x. IsTrue (over x)) s o
    ]

    -- the first item of another kind: with the last one, all in front are over
    pub over_run : (c : ℕ) → new.place ≡ Cell c → (last at : ℕ) (its here : Item) → slice_get items last ≡ Some its → IsTrue (is_met new its) → IsTrue (over last) → at - 1 < last → 0 < at →
        slice_get items (at - 1) ≡ Some here → IsTrue (is_met new here) → is_before (relation its.kind here.kind) ≡ true → AreOverFrom items over new from at → AreItemsOver items over new from
    over_run c p last at its here e m o h some f n b all k old l g t = elim (cases_lt k at) [
      | inl q ↦ elim (cases_lt k (at - 1)) [
        | inl r ↦ in_front r (is_before (relation its.kind old.kind)) refl
        | inr r ↦
            let s : at - 1 ≡ k = omega (arith, q, r) in
            subst (λ x. IsTrue (over x)) s here_over
      ]
      | inr q ↦ all k old q l g t
    ]
      where
        met : IsTrue (is_met new old)
        met = (and_parts (is_met new old) (is_before (relation new.kind old.kind)) t).0

        here_over : IsTrue (over (at - 1))
        here_over = closed last (at - 1) its here h e f (both its here (met_both new c p its here m n) b) o

        in_front : k < at - 1 → (x : Bool) → is_before (relation its.kind old.kind) ≡ x → IsTrue (over k)
        in_front r true y = closed last k its old (omega (arith, r, h)) e g (both its old (met_both new c p its old m met) y) o
        in_front r false y =
            let same = one_kind its.kind old.kind y in
            let behind = kind_turned its.kind here.kind b in
            closed (at - 1) k here old r f g (both here old (met_both new c p here old n met) (subst (λ q. is_before (relation here.kind q) ≡ true) same behind)) here_over

-- the last one is the same as the new one, and is over
pub over_alike : (items : List Item) (over : ℕ → Bool) (new its : Item) (from : ℕ) → AreItemsClosed items over → (0 < from) → slice_get items (from - 1) ≡ Some its → its ≡ new → IsTrue (over (from - 1)) →
    AreItemsOver items over new from
over_alike items over new its from closed some e same o k old h f t = elim (cases_lt k (from - 1)) [
  | inl q ↦ closed (from - 1) k its old q e f (subst (λ x. IsTrue (meets is_before x old)) (sym same) t) o
  | inr q ↦
      let s : from - 1 ≡ k = omega (arith, q, h) in
      subst (λ n. IsTrue (over n)) s o
]

-- one of the run comes before the new one, as the last does
pub of_run : (new its here : Item) → IsTrue (meets is_before new its) → IsTrue (is_met new here) → is_before (relation its.kind here.kind) ≡ false → IsTrue (meets is_before new here)
of_run new its here t m b = both new here m (subst (λ q. is_before (relation new.kind q) ≡ true) (one_kind its.kind here.kind b) (kinds new its t))

-- what is after the next one that is met
pub over_met : (items : List Item) (over : ℕ → Bool) (new : Item) (from at next : ℕ) → AreOverFrom items over new from (at - 1) →
    ((k : ℕ) (old : Item) → suc k < at → slice_get items k ≡ Some old → IsTrue (is_met new old) → k < next) → AreOverFrom items over new from next
over_met items over new from at next all none k old low high e t = elim (cases_lt k (at - 1)) [
  | inl q ↦ absurd (omega (arith, low, none k old (omega (arith, q)) e (and_parts (is_met new old) (is_before (relation new.kind old.kind)) t).0))
  | inr q ↦ all k old q high e t
]
