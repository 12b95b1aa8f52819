-- The list of all items with the links of each.
use Rattle.std.proofs.Common.{◌≡◌, ◌<◌, ◌≤◌, ◌-◌, ℕ, suc, List, [], ◌∷◌, ◌++◌, Bool, true, false, ◌&&◌, cond, length, slice_get, Option, Some, None, refl, sym, ap, ap₂, ◌∙◌, subst, inl, inr, arith, is_some, nat_eq, unwrap_or}
use Rattle.std.specs.Prelude.{IsTrue, max}
use Rattle.std.specs.Map.{lookup}
use Rattle.std.proofs.lemmas.Bool.{cases_lt, false≢true, and_parts}
use Rattle.std.proofs.lemmas.List.{length-append}
use Rattle.std.proofs.lemmas.Option.{slice_get_within}
use Rattle.tb_model.specs.declared.place.Place.{Place}
use Rattle.tb_model.specs.declared.place.Place.TheVariants.{Cell, All}
use Rattle.tb_model.specs.declared.item.Item.{Item}
use Rattle.tb_model.specs.Items.{relation, is_before, same_place, meets}
use Rattle.tb_depend.specs.declared.link.Link.{Link}
use Rattle.tb_depend.specs.declared.heads.Heads.{Heads}
use Rattle.tb_depend.specs.Chains.{head, has_head, is_place, is_of, is_met, IsLast, IsLink, AreChained}
use Rattle.tb_depend.proofs.LastLemmas.{get_front, get_behind, get_either, last_all, last_front, last_back, last_is, last_stays, last_stayed, last_either, place_self, place_same, met_by, all_met, met_both, one_kind}

link_front : (items ys : List Item) (n : ℕ) (i : Item) (l : Link) → n ≤ length items → IsLink items n i l → IsLink (items ++ ys) n i l
link_front items ys n i l h k = record {
  same = last_front (is_of i.place) items ys n l.same h k.same;
  meeting = last_front (is_met i) items ys n l.meeting h k.meeting;
  before = last_front (meets is_before i) items ys n l.before h k.before;
}

link_back : (items ys : List Item) (n : ℕ) (i : Item) (l : Link) → n ≤ length items → IsLink (items ++ ys) n i l → IsLink items n i l
link_back items ys n i l h k = record {
  same = last_back (is_of i.place) items ys n l.same h k.same;
  meeting = last_back (is_met i) items ys n l.meeting h k.meeting;
  before = last_back (meets is_before i) items ys n l.before h k.before;
}

long : {A : Type 0} (xs : List A) (x : A) → length (xs ++ x ∷ []) ≡ suc (length xs)
long xs x = omega (arith, length-append xs (x ∷ []))

-- ---- one more item

module _ (items : List Item) (links : List Link) (heads : Heads) (chained : AreChained items links heads) (x : Item) (link : Link) (is : IsLink items (length items) x link) where
  pushed_links : (n : ℕ) (i : Item) (l : Link) → slice_get (items ++ x ∷ []) n ≡ Some i → slice_get (links ++ link ∷ []) n ≡ Some l → IsLink (items ++ x ∷ []) n i l
  pushed_links n i l e f = elim (get_either items x i n e) [
    | inl p ↦ elim (get_either links link l n f) [
      | inl q ↦ link_front items (x ∷ []) n i l (omega (arith, p.0)) (chained.linked n i l p.1 q.1)
      | inr q ↦ absurd (omega (arith, p.0, q.0, chained.count))
    ]
    | inr p ↦ elim (get_either links link l n f) [
      | inl q ↦ absurd (omega (arith, p.0, q.0, chained.count))
      | inr q ↦
          let at_end : IsLink (items ++ x ∷ []) (length items) x link = link_front items (x ∷ []) (length items) x link (omega arith) is in
          rw (p.0, p.1, q.1) at_end
    ]
  ]

  pub pushed_chained : (items2 : List Item) (links2 : List Link) (heads2 : Heads) (end : ℕ) → items2 ≡ items ++ x ∷ [] → links2 ≡ links ++ link ∷ [] → end ≡ length items2 → ((p : Place) → head heads2 p ≡ cond (is_place x.place p) end (head heads p)) → AreChained items2 links2 heads2
  pushed_chained items2 links2 heads2 end i l n s = rw (i, l) (record {
    count = long links link ∙ ap suc chained.count ∙ sym (long items x);
    linked = pushed_links;
    headed = λ p. rw (long items x) (at p (is_place x.place p) refl (s p));
  })
    where
      last : end ≡ suc (length items)
      last = n ∙ ap length i ∙ long items x

      at : (p : Place) (b : Bool) → is_place x.place p ≡ b → head heads2 p ≡ cond (is_place x.place p) end (head heads p) → IsLast (is_of p) (items ++ x ∷ []) (suc (length items)) (head heads2 p)
      at p true e h = subst (IsLast (is_of p) (items ++ x ∷ []) (suc (length items))) (sym (h ∙ ap (λ b. cond b end (head heads p)) e ∙ last)) (last_is (is_of p) items x e)
      at p false e h = subst (IsLast (is_of p) (items ++ x ∷ []) (suc (length items))) (sym (h ∙ ap (λ b. cond b end (head heads p)) e)) (last_stays (is_of p) items x (head heads p) e (chained.headed p))

-- ---- one item less

module _ (items items2 : List Item) (links links2 : List Link) (heads heads2 : Heads) (x : Item) (link : Link) (i : items ≡ items2 ++ x ∷ []) (l : links ≡ links2 ++ link ∷ []) (chained : AreChained items links heads) where
  count2 : length links2 ≡ length items2
  count2 =
      let n : length (links2 ++ link ∷ []) ≡ length (items2 ++ x ∷ []) = sym (ap length l) ∙ chained.count ∙ ap length i in
      omega (arith, n, long links2 link, long items2 x)

  last_item : slice_get items (length items2) ≡ Some x
  last_item = ap (λ xs. slice_get xs (length items2)) i ∙ get_behind items2 x

  last_link : slice_get links (length items2) ≡ Some link
  last_link = ap (λ xs. slice_get xs (length items2)) l ∙ ap (slice_get (links2 ++ link ∷ [])) (sym count2) ∙ get_behind links2 link

  its_link : IsLink (items2 ++ x ∷ []) (length items2) x link
  its_link = subst (λ xs. IsLink xs (length items2) x link) i (chained.linked (length items2) x link last_item last_link)

  pub popped_named : has_head heads x.place ≡ true
  popped_named =
      let short : length items2 < length items = omega (arith, ap length i, long items2 x) in
      named x.place ((chained.headed x.place).last (length items2) x short last_item (place_self x.place))
    where
      some : (o : Option ℕ) → length items2 < unwrap_or o 0 → is_some o ≡ true
      some None h = absurd (omega (arith, h))
      some (Some n) h = refl

      named : (p : Place) → length items2 < head heads p → has_head heads p ≡ true
      named (Cell c) h = some (lookup (nat_eq c) heads.cells.entries) h
      named All h = refl

  pub popped_chained : ((p : Place) → head heads2 p ≡ cond (is_place x.place p) link.same (head heads p)) → AreChained items2 links2 heads2
  popped_chained s = record {
    count = count2;
    linked = λ n y k e f.
        let within = slice_get_within items2 n y e in
        let e2 : slice_get items n ≡ Some y = ap (λ xs. slice_get xs n) i ∙ get_front items2 (x ∷ []) n within ∙ e in
        let f2 : slice_get links n ≡ Some k = ap (λ xs. slice_get xs n) l ∙ get_front links2 (link ∷ []) n (omega (arith, within, count2)) ∙ f in
        link_back items2 (x ∷ []) n y k (omega (arith, within)) (subst (λ xs. IsLink xs n y k) i (chained.linked n y k e2 f2));
    headed = λ p. at p (is_place x.place p) refl (s p);
  }
    where
      was : (p : Place) → IsLast (is_of p) (items2 ++ x ∷ []) (suc (length items2)) (head heads p)
      was p = subst (λ n. IsLast (is_of p) (items2 ++ x ∷ []) n (head heads p)) (long items2 x) (subst (λ xs. IsLast (is_of p) xs (length xs) (head heads p)) i (chained.headed p))

      at : (p : Place) (b : Bool) → is_place x.place p ≡ b → head heads2 p ≡ cond (is_place x.place p) link.same (head heads p) → IsLast (is_of p) items2 (length items2) (head heads2 p)
      at p true e h =
          let back : IsLast (is_of x.place) items2 (length items2) link.same = last_back (is_of x.place) items2 (x ∷ []) (length items2) link.same (omega arith) its_link.same in
          let here : IsLast (is_of p) items2 (length items2) link.same = subst (λ q. IsLast (is_of q) items2 (length items2) link.same) (place_same x.place p e) back in
          subst (IsLast (is_of p) items2 (length items2)) (sym (h ∙ ap (λ b. cond b link.same (head heads p)) e)) here
      at p false e h =
          subst (IsLast (is_of p) items2 (length items2)) (sym (h ∙ ap (λ b. cond b link.same (head heads p)) e))
          (last_stayed (is_of p) items2 x (head heads p) e (was p))

-- ---- the links of a new item

module _ (items : List Item) (links : List Link) (heads : Heads) (chained : AreChained items links heads) (new : Item) where
  pub meeting_cell : (c : ℕ) → new.place ≡ Cell c → IsLast (is_met new) items (length items) (max (head heads (Cell c)) (head heads All))
  meeting_cell c e = last_either (is_of (Cell c)) (is_of All) (is_met new) items (length items) (head heads (Cell c)) (head heads All) (met_by new c e) (chained.headed (Cell c)) (chained.headed All)

  pub meeting_all : new.place ≡ All → IsLast (is_met new) items (length items) (length items)
  meeting_all e = last_all (is_met new) items (length items) (all_met new e)

-- what comes before is met
pub before_met : (new : Item) (items : List Item) (n meeting r : ℕ) → IsLast (is_met new) items n meeting → IsLast (meets is_before new) items meeting r → IsLast (meets is_before new) items n r
before_met new items n meeting r m b = record {
  within = omega (arith, m.within, b.within);
  last = λ k i h e t. b.last k i (m.last k i h e (and_parts (is_met new i) (is_before (relation new.kind i.kind)) t).0) e t;
  passes = b.passes;
}

-- ---- a step towards the front

-- none after this index comes before the new one
abbrev pub AreNoneLater : (Item → Bool) → List Item → ℕ → ℕ → Type 0
AreNoneLater test items from at = (k : ℕ) (i : Item) → k < from → slice_get items k ≡ Some i → IsTrue (test i) → k < at

pub same_item : (items : List Item) (k : ℕ) (i j : Item) → slice_get items k ≡ Some i → slice_get items k ≡ Some j → j ≡ i
same_item items k i j e f = some_same (sym f ∙ e)
  where
    some_same : {x y : Item} → Some x ≡ Some y → x ≡ y
    some_same g = cc

module _ (test : Item → Bool) (items : List Item) (from at : ℕ) (i : Item) where
  -- over one that fails
  pub over_one : AreNoneLater test items from at → slice_get items (at - 1) ≡ Some i → test i ≡ false → AreNoneLater test items from (at - 1)
  over_one none e fails k j h f t = elim (cases_lt k (at - 1)) [
    | inl q ↦ q
    | inr q ↦
        let w = none k j h f t in
        let s : k ≡ at - 1 = omega (arith, q, w) in
        let g = same_item items (at - 1) i j e (subst (λ n. slice_get items n ≡ Some j) s f) in
        absurd (false≢true (sym fails ∙ subst (λ x. test x ≡ true) g t))
  ]

  -- and over those in front of it, to the last that passes
  pub over_more : (next : ℕ) → AreNoneLater test items from at → slice_get items (at - 1) ≡ Some i → test i ≡ false → IsLast test items (at - 1) next → AreNoneLater test items from next
  over_more next none e fails l k j h f t = l.last k j (over_one none e fails k j h f t) f t

  -- to one that passes
  pub stops_at : at ≤ from → AreNoneLater test items from at → slice_get items (at - 1) ≡ Some i → IsTrue (test i) → IsLast test items from at
  stops_at w none e t = record {
    within = w;
    last = none;
    passes = λ k j n f.
        let s : at - 1 ≡ k = omega (arith, n) in
        let g = same_item items k i j (subst (λ m. slice_get items m ≡ Some i) s e) f in
        subst (λ x. IsTrue (test x)) (sym g) t;
  }

-- two items of one location, of which the new one doesn't come after the other, are the same
pub one_item : (new old : Item) → is_place new.place old.place ≡ true → meets is_before new old ≡ false → old ≡ new
one_item new old p e = ap₂ (λ k q. record { kind = k; place = q }) (sym (one_kind new.kind old.kind (at (is_before (relation new.kind old.kind)) refl))) (sym same)
  where
    same : new.place ≡ old.place
    same = place_same new.place old.place p

    met : (q : Place) → same_place q q ≡ true
    met (Cell c) = place_self (Cell c)
    met All = refl

    at : (b : Bool) → is_before (relation new.kind old.kind) ≡ b → is_before (relation new.kind old.kind) ≡ false
    at false f = f
    at true f = absurd (false≢true (sym e ∙ ap₂ (λ a b. a && b) (subst (λ q. same_place new.place q ≡ true) same (met new.place)) f))

-- from a cell's item to the next that names its storage location
pub next_of : (items : List Item) (new old : Item) (c at next : ℕ) → new.place ≡ Cell c → IsTrue (is_met new old) → IsLast (is_met old) items (at - 1) next →
    (k : ℕ) (i : Item) → suc k < at → slice_get items k ≡ Some i → IsTrue (is_met new i) → k < next
next_of items new old c at next e m l k i h f n = l.last k i (omega (arith, h)) f (met_both new c e old i m n)
