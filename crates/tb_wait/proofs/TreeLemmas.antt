-- What the nodes of the tree know of their children stays right.
use Rattle.std.proofs.Common.{◌≡◌, ◌≢◌, ℕ, zero, suc, ◌<◌, ◌≤◌, List, [], ◌∷◌, Bool, true, false, not, cond, ◌||◌, ◌==◌, Some, length, slice_get, get_or, refl, sym, ap, ◌∙◌, subst, arith, eqb-true, eq-eqb, ap₂, ◌++◌, ◌⊎◌, inl, inr, ⊎_elim, nat_lt, length-append}
use Rattle.std.proofs.Math.ListN.{get_or-eq_default}
use Rattle.std.proofs.lemmas.Bool.Decides.{nat_tests}
use Rattle.std.proofs.lemmas.List.{get_or_default}
use Rattle.std.proofs.lemmas.Option.{slice_get_within}
use Rattle.std.proofs.lemmas.Bool.{false≢true}
use Rattle.tb_wait.specs.Numbers.{has, is_empty, IsPut}
use Rattle.tb_wait.specs.Tree.{Node, Nodes, leaf, node, is_live, IsPlace, IsLinked, AreChildren, KnowsUnendedBut, KnowsLiveBut, IsTree, SameLinks, SameButLive, SameButUnended, SameButPending, AddsNode, SameButRoom}

pub shown : (nodes : Nodes) (i : ℕ) (n : Node) → i < length nodes → n ≡ get_or nodes i n → n ≡ node nodes i
shown nodes i n l e = e ∙ get_or_default nodes i n (leaf 0 0) l

-- ---- a node and its owner

module _ (nodes : Nodes) (l : IsLinked nodes) (at : ℕ) (b : 0 < at) (w : at < length nodes) where
  pub owner_before : (owner : ℕ) → owner ≡ (node nodes at).owner → owner < at
  owner_before owner e = let up = l.up at b w in omega (arith, l.before (node nodes at).owner up.0 at up.2, e)

  pub owner_within : (owner : ℕ) → owner ≡ (node nodes at).owner → owner < length nodes
  owner_within owner e = omega (arith, owner_before owner e, w)

  pub number_from_one : (number : ℕ) → number ≡ (node nodes at).number → 0 < number
  number_from_one number e = let up = l.up at b w in omega (arith, up.1, e)

  pub number_within : (owner number : ℕ) → owner ≡ (node nodes at).owner → number ≡ (node nodes at).number → number ≤ length (node nodes owner).places
  number_within owner number o e =
      let up = l.up at b w in
      let s = slice_get_within (node nodes (node nodes at).owner).places up.0 at up.2 in
      subst (λ j. number ≤ length (node nodes j).places) (sym o) (omega (arith, up.1, e, s))

  -- the index of a child is its own
  pub only_place : (j k i : ℕ) → IsPlace nodes j k i → j ≡ (node nodes at).owner → suc k ≡ (node nodes at).number → i ≡ at
  only_place j k i p o e =
      let up = l.up at b w in
      let same : k ≡ up.0 = omega (arith, up.1, e) in
      let there : slice_get (node nodes j).places k ≡ Some at = subst (λ x. slice_get (node nodes j).places x ≡ Some at) (sym same) (subst (λ x. IsPlace nodes x up.0 at) (sym o) up.2) in
      some (sym p ∙ there)
    where
      some : {x y : ℕ} → Some x ≡ Some y → x ≡ y
      some e = cc

-- ---- what a change of one flag or one set leaves

pub links_live : (old new : Nodes) → SameButLive old new → SameLinks old new
links_live old new s = record {
  len = s.len;
  owner = λ i. ap (λ n. n.owner) (s.same i);
  number = λ i. ap (λ n. n.number) (s.same i);
  places = λ i. ap (λ n. n.places) (s.same i);
  room = λ i. ap (λ n. n.room) (s.same i);
}

pub links_unended : (old new : Nodes) → SameButUnended old new → SameLinks old new
links_unended old new s = record {
  len = s.len;
  owner = λ i. ap (λ n. n.owner) (s.same i);
  number = λ i. ap (λ n. n.number) (s.same i);
  places = λ i. ap (λ n. n.places) (s.same i);
  room = λ i. ap (λ n. n.room) (s.same i);
}

pub links_pending : (old new : Nodes) → SameButPending old new → SameLinks old new
links_pending old new s = record {
  len = s.len;
  owner = λ i. ap (λ n. n.owner) (s.same i);
  number = λ i. ap (λ n. n.number) (s.same i);
  places = λ i. ap (λ n. n.places) (s.same i);
  room = λ i. ap (λ n. n.room) (s.same i);
}

pub links_along : (a b c : Nodes) → SameLinks a b → SameLinks b c → SameLinks a c
links_along a b c x y = record {
  len = y.len ∙ x.len;
  owner = λ i. y.owner i ∙ x.owner i;
  number = λ i. y.number i ∙ x.number i;
  places = λ i. y.places i ∙ x.places i;
  room = λ i. y.room i ∙ x.room i;
}

pub place_back : (old new : Nodes) → SameLinks old new → (j k i : ℕ) → IsPlace new j k i → IsPlace old j k i
place_back old new s j k i p = sym (ap (λ ps. slice_get ps k) (s.places j)) ∙ p

pub place_on : (old new : Nodes) → SameLinks old new → (j k i : ℕ) → IsPlace old j k i → IsPlace new j k i
place_on old new s j k i p = ap (λ ps. slice_get ps k) (s.places j) ∙ p

pub linked_same : (old new : Nodes) → SameLinks old new → IsLinked old → IsLinked new
linked_same old new s l = record {
  root = omega (arith, l.root, s.len);
  up = λ i b w.
      let up = l.up i b (omega (arith, w, s.len)) in
      (up.0, s.number i ∙ up.1, subst (λ o. IsPlace new o up.0 i) (sym (s.owner i)) (place_on old new s (node old i).owner up.0 i up.2));
  before = λ j k i p. l.before j k i (place_back old new s j k i p);
  within = λ j k i p. omega (arith, l.within j k i (place_back old new s j k i p), s.len);
  owner = λ j k i p. s.owner i ∙ l.owner j k i (place_back old new s j k i p);
  number = λ j k i p. s.number i ∙ l.number j k i (place_back old new s j k i p);
}

-- ---- the set of live children of the owner

module _ (old new : Nodes) (l : IsLinked old) (at : ℕ) (b : 0 < at) (w : at < length old) (owner number : ℕ) (o : owner ≡ (node old at).owner) (n : number ≡ (node old at).number) where
  -- only children stay counted
  put_children : (xs ys : List ℕ) (t : Bool) (len : ℕ) → IsPut xs number t ys → 0 < number → number ≤ len
      → ((m : ℕ) → has xs m ≡ true → (0 < m) × (m ≤ len)) → (m : ℕ) → has ys m ≡ true → (0 < m) × (m ≤ len)
  put_children xs ys t len p a c f m h = by (number == m) refl
    where
      by : (x : Bool) → (number == m) ≡ x → (0 < m) × (m ≤ len)
      by true e = let same : number ≡ m = eqb-true number m e in (omega (arith, a), omega (arith, c))
      by false e = f m (sym (p m ∙ ap (λ y. cond y t (has xs m)) e) ∙ h)

  pub children_live : (t : Bool) → SameButLive old new → IsPut (node old owner).live number t (node new owner).live
      → ((i : ℕ) → i ≢ owner → (node new i).live ≡ (node old i).live) → AreChildren old → AreChildren new
  children_live t s p f c = record {
    unended = λ j m h.
        let is = c.unended j m (sym (ap (λ x. has x.unended m) (s.same j)) ∙ h) in
        subst (λ ps. (0 < m) × (m ≤ length ps)) (sym (ap (λ x. x.places) (s.same j))) is;
    live = λ j m h. subst (λ ps. (0 < m) × (m ≤ length ps)) (sym (ap (λ x. x.places) (s.same j))) (by j m h (j == owner) refl);
  }
    where
      by : (j m : ℕ) → has (node new j).live m ≡ true → (x : Bool) → (j == owner) ≡ x → (0 < m) × (m ≤ length (node old j).places)
      by j m h true e =
          let same : owner ≡ j = sym (eqb-true j owner e) in
          subst (λ i. (0 < m) × (m ≤ length (node old i).places)) same
          (put_children (node old owner).live (node new owner).live t (length (node old owner).places) p (number_from_one old l at b w number n) (number_within old l at b w owner number o n) (λ k. c.live owner k) m (subst (λ i. has (node new i).live m ≡ true) (sym same) h))
      by j m h false e = c.live j m (sym (ap (λ x. has x m) (f j (λ y. false≢true (sym e ∙ eq-eqb j owner y)))) ∙ h)

  pub children_unended : (t : Bool) → SameButUnended old new → IsPut (node old owner).unended number t (node new owner).unended
      → ((i : ℕ) → i ≢ owner → (node new i).unended ≡ (node old i).unended) → AreChildren old → AreChildren new
  children_unended t s p f c = record {
    live = λ j m h.
        let is = c.live j m (sym (ap (λ x. has x.live m) (s.same j)) ∙ h) in
        subst (λ ps. (0 < m) × (m ≤ length ps)) (sym (ap (λ x. x.places) (s.same j))) is;
    unended = λ j m h. subst (λ ps. (0 < m) × (m ≤ length ps)) (sym (ap (λ x. x.places) (s.same j))) (by j m h (j == owner) refl);
  }
    where
      by : (j m : ℕ) → has (node new j).unended m ≡ true → (x : Bool) → (j == owner) ≡ x → (0 < m) × (m ≤ length (node old j).places)
      by j m h true e =
          let same : owner ≡ j = sym (eqb-true j owner e) in
          subst (λ i. (0 < m) × (m ≤ length (node old i).places)) same
          (put_children (node old owner).unended (node new owner).unended t (length (node old owner).places) p (number_from_one old l at b w number n) (number_within old l at b w owner number o n) (λ k. c.unended owner k) m (subst (λ i. has (node new i).unended m ≡ true) (sym same) h))
      by j m h false e = c.unended j m (sym (ap (λ x. has x m) (f j (λ y. false≢true (sym e ∙ eq-eqb j owner y)))) ∙ h)

  pub unended_step : SameButUnended old new → IsPut (node old owner).unended number (node old at).pending (node new owner).unended
      → ((i : ℕ) → i ≢ owner → (node new i).unended ≡ (node old i).unended) → KnowsUnendedBut old at → KnowsUnendedBut new 0
  unended_step s p f h j k i q z = by (j == owner) refl
    where
      r : IsPlace old j k i
      r = place_back old new (links_unended old new s) j k i q

      same : (node new i).pending ≡ (node old i).pending
      same = ap (λ x. x.pending) (s.same i)

      by : (x : Bool) → (j == owner) ≡ x → has (node new j).unended (suc k) ≡ (node new i).pending
      by true e =
          let jo : j ≡ owner = eqb-true j owner e in
          subst (λ x. has (node new x).unended (suc k) ≡ (node new i).pending) (sym jo) (here (number == suc k) refl)
        where
          here : (x : Bool) → (number == suc k) ≡ x → has (node new owner).unended (suc k) ≡ (node new i).pending
          here true g =
              let jo : j ≡ owner = eqb-true j owner e in
              let nk : number ≡ suc k = eqb-true number (suc k) g in
              let it : i ≡ at = only_place old l at b w j k i r (jo ∙ o) (sym nk ∙ n) in
              p (suc k) ∙ ap (λ c. cond c (node old at).pending (has (node old owner).unended (suc k))) g ∙ ap (λ x. (node old x).pending) (sym it) ∙ sym same
          here false g =
              let jo : j ≡ owner = eqb-true j owner e in
              let other : i ≢ at = λ y. false≢true (sym g ∙ eq-eqb number (suc k) (n ∙ ap (λ x. (node old x).number) (sym y) ∙ l.number j k i r)) in
              p (suc k) ∙ ap (λ c. cond c (node old at).pending (has (node old owner).unended (suc k))) g
              ∙ ap (λ x. has (node old x).unended (suc k)) (sym jo) ∙ h j k i r other ∙ sym same
      by false e =
          let other : i ≢ at = λ y. false≢true (sym e ∙ eq-eqb j owner (sym (l.owner j k i r) ∙ ap (λ x. (node old x).owner) y ∙ sym o)) in
          ap (λ x. has x (suc k)) (f j (λ y. false≢true (sym e ∙ eq-eqb j owner y))) ∙ h j k i r other ∙ sym same

  pub live_step : SameButLive old new → IsPut (node old owner).live number (is_live (node old at)) (node new owner).live
      → ((i : ℕ) → i ≢ owner → (node new i).live ≡ (node old i).live) → KnowsLiveBut old at → KnowsLiveBut new (node old at).owner
  live_step s p f h j k i q ne = by (j == owner) refl
    where
      r : IsPlace old j k i
      r = place_back old new (links_live old new s) j k i q

      -- the child itself is as it was
      same : is_live (node new i) ≡ is_live (node old i)
      same = ap₂ (λ x y. x || not (is_empty y)) (ap (λ x. x.pending) (s.same i)) (f i (λ e. ne (e ∙ o)))

      by : (x : Bool) → (j == owner) ≡ x → has (node new j).live (suc k) ≡ is_live (node new i)
      by true e =
          let jo : j ≡ owner = eqb-true j owner e in
          subst (λ x. has (node new x).live (suc k) ≡ is_live (node new i)) (sym jo) (here (number == suc k) refl)
        where
          here : (x : Bool) → (number == suc k) ≡ x → has (node new owner).live (suc k) ≡ is_live (node new i)
          here true g =
              let jo : j ≡ owner = eqb-true j owner e in
              let nk : number ≡ suc k = eqb-true number (suc k) g in
              let it : i ≡ at = only_place old l at b w j k i r (jo ∙ o) (sym nk ∙ n) in
              p (suc k) ∙ ap (λ c. cond c (is_live (node old at)) (has (node old owner).live (suc k))) g ∙ ap (λ x. is_live (node old x)) (sym it) ∙ sym same
          here false g =
              let jo : j ≡ owner = eqb-true j owner e in
              let other : i ≢ at = λ y. false≢true (sym g ∙ eq-eqb number (suc k) (n ∙ ap (λ x. (node old x).number) (sym y) ∙ l.number j k i r)) in
              p (suc k) ∙ ap (λ c. cond c (is_live (node old at)) (has (node old owner).live (suc k))) g
              ∙ ap (λ x. has (node old x).live (suc k)) (sym jo) ∙ h j k i r other ∙ sym same
      by false e =
          let other : i ≢ at = λ y. false≢true (sym e ∙ eq-eqb j owner (sym (l.owner j k i r) ∙ ap (λ x. (node old x).owner) y ∙ sym o)) in
          ap (λ x. has x (suc k)) (f j (λ y. false≢true (sym e ∙ eq-eqb j owner y))) ∙ h j k i r other ∙ sym same

  -- an owner that hasn't ended itself is live before and after
  pub live_settled : SameButLive old new → IsPut (node old owner).live number (is_live (node old at)) (node new owner).live
      → ((i : ℕ) → i ≢ owner → (node new i).live ≡ (node old i).live) → (node old owner).pending ≡ true → KnowsLiveBut old at → KnowsLiveBut new 0
  live_settled s p f own h j k i q z = by (i == owner) refl
    where
      r : IsPlace old j k i
      r = place_back old new (links_live old new s) j k i q

      alive : (nodes : Nodes) → (node nodes owner).pending ≡ true → is_live (node nodes owner) ≡ true
      alive nodes e = ap (λ x. x || not (is_empty (node nodes owner).live)) e

      by : (x : Bool) → (i == owner) ≡ x → has (node new j).live (suc k) ≡ is_live (node new i)
      by true e =
          let it : i ≡ owner = eqb-true i owner e in
          let before : j < i = l.before j k i r in
          let above : owner < at = owner_before old l at b w owner o in
          ap (λ x. has x (suc k)) (f j (λ y. omega (arith, before, it, y))) ∙ h j k i r (λ y. omega (arith, above, it, y))
          ∙ ap (λ x. is_live (node old x)) it ∙ alive old own ∙ sym (alive new (ap (λ x. x.pending) (s.same owner) ∙ own)) ∙ ap (λ x. is_live (node new x)) (sym it)
      by false e = live_step s p f h j k i q (λ y. false≢true (sym e ∙ eq-eqb i owner (y ∙ sym o)))

  pub live_done : has (node old owner).live number ≡ is_live (node old at) → KnowsLiveBut old at → KnowsLiveBut old 0
  live_done g h j k i r z = by (i == at) refl
    where
      by : (x : Bool) → (i == at) ≡ x → has (node old j).live (suc k) ≡ is_live (node old i)
      by true e =
          let it : i ≡ at = eqb-true i at e in
          let jo : j ≡ owner = sym (l.owner j k i r) ∙ ap (λ x. (node old x).owner) it ∙ sym o in
          let kn : suc k ≡ number = sym (l.number j k i r) ∙ ap (λ x. (node old x).number) it ∙ sym n in
          ap₂ (λ x m. has (node old x).live m) jo kn ∙ g ∙ ap (λ x. is_live (node old x)) (sym it)
      by false e = h j k i r (λ y. false≢true (sym e ∙ eq-eqb i at y))

-- ---- a flag that is set

module _ (old new : Nodes) (tree : IsTree old) (at : ℕ) (s : SameButPending old new) (f : (i : ℕ) → i ≢ at → (node new i).pending ≡ (node old i).pending) where
  child_not_first : (j k i : ℕ) → IsPlace old j k i → i ≢ 0
  child_not_first j k i p z = let b = tree.linked.before j k i p in absurd (omega arith)

  pub flag_linked : IsLinked new
  flag_linked = linked_same old new (links_pending old new s) tree.linked

  pub flag_children : AreChildren new
  flag_children = record {
    unended = λ j m h.
        subst (λ ps. (0 < m) × (m ≤ length ps)) (sym (ap (λ x. x.places) (s.same j))) (tree.children.unended j m (sym (ap (λ x. has x.unended m) (s.same j)) ∙ h));
    live = λ j m h.
        subst (λ ps. (0 < m) × (m ≤ length ps)) (sym (ap (λ x. x.places) (s.same j))) (tree.children.live j m (sym (ap (λ x. has x.live m) (s.same j)) ∙ h));
  }

  pub flag_unended : KnowsUnendedBut new at
  flag_unended j k i q ne =
      let r = place_back old new (links_pending old new s) j k i q in
      ap (λ x. has x.unended (suc k)) (s.same j) ∙ tree.unended j k i r (child_not_first j k i r) ∙ sym (f i ne)

  pub flag_live : KnowsLiveBut new at
  flag_live j k i q ne =
      let r = place_back old new (links_pending old new s) j k i q in
      ap (λ x. has x.live (suc k)) (s.same j) ∙ tree.live j k i r (child_not_first j k i r)
      ∙ ap₂ (λ x y. x || not (is_empty y)) (sym (f i ne)) (sym (ap (λ x. x.live) (s.same i)))

-- the whole change: the flag, and what the owners know of it
pub live_keeps_unended : (old new : Nodes) → SameButLive old new → KnowsUnendedBut old 0 → KnowsUnendedBut new 0
live_keeps_unended old new s u j k i q z =
    ap (λ x. has x.unended (suc k)) (s.same j) ∙ u j k i (place_back old new (links_live old new s) j k i q) z ∙ sym (ap (λ x. x.pending) (s.same i))

pub unended_keeps_live : (old new : Nodes) (x : ℕ) → SameButUnended old new → KnowsLiveBut old x → KnowsLiveBut new x
unended_keeps_live old new x s h j k i q z =
    ap (λ y. has y.live (suc k)) (s.same j) ∙ h j k i (place_back old new (links_unended old new s) j k i q) z ∙ sym (ap is_live (s.same i))

abbrev with_live : List ℕ → Node → Node
with_live l n = record n { live = l }

pub live_along : (a b c : Nodes) → SameButLive a b → SameButLive b c → SameButLive a c
live_along a b c x y = record {
  len = y.len ∙ x.len;
  same = λ i. y.same i ∙ ap (with_live (node c i).live) (x.same i);
}

pub after_refresh : (told new : Nodes) → IsLinked new → AreChildren new → KnowsLiveBut new 0 → KnowsUnendedBut told 0 → SameButLive told new → IsTree new
after_refresh told new l c k u s = record { linked = l; children = c; unended = live_keeps_unended told new s u; live = k }

-- ---- one more node

slice_get-last : (xs : List ℕ) (y : ℕ) → slice_get (xs ++ y ∷ []) (length xs) ≡ Some y
slice_get-last [] y = refl
slice_get-last (x ∷ xs) y = slice_get-last xs y

slice_get-front : (xs : List ℕ) (y k i : ℕ) → slice_get xs k ≡ Some i → slice_get (xs ++ y ∷ []) k ≡ Some i
slice_get-front [] y k i e = cc
slice_get-front (x ∷ xs) y zero i e = e
slice_get-front (x ∷ xs) y (suc k) i e = slice_get-front xs y k i e

slice_get-either : (xs : List ℕ) (y k i : ℕ) → slice_get (xs ++ y ∷ []) k ≡ Some i → (slice_get xs k ≡ Some i) ⊎ ((k ≡ length xs) × (i ≡ y))
slice_get-either [] y zero i e = inr (refl, cc)
slice_get-either [] y (suc k) i e = cc
slice_get-either (x ∷ xs) y zero i e = inl e
slice_get-either (x ∷ xs) y (suc k) i e = ⊎_elim (λ a. inl a) (λ a. inr (ap suc a.0, a.1)) (slice_get-either xs y k i e)

module _ (old new : Nodes) (owner : ℕ) (linked : IsLinked old) (within : owner < length old) (c : AddsNode old owner new) where
  -- what holds of a node of before holds of it now, unless it is the owner
  node_else : (P : Node → Node → Type 0) (i : ℕ) → i < length old → P (node old owner) (node new owner) → ((n : Node) → P n n) → P (node old i) (node new i)
  node_else P i w above same = by (i == owner) refl
    where
      by : (b : Bool) → (i == owner) ≡ b → P (node old i) (node new i)
      by true e = subst (λ j. P (node old j) (node new j)) (sym (eqb-true i owner e)) above
      by false e = subst (P (node old i)) (sym (c.others i (λ y. absurd (omega (arith, w, y))) (λ y. false≢true (sym e ∙ eq-eqb i owner y)))) (same (node old i))

  -- past the old nodes there is the new one, and nothing
  parent_within : (j k i : ℕ) → IsPlace new j k i → j < length old
  parent_within j k i p = by (nat_lt j (length old)) refl (j == length old) refl
    where
      by : (a : Bool) → nat_lt j (length old) ≡ a → (b : Bool) → (j == length old) ≡ b → j < length old
      by true e b g = grind (arith, nat_tests)
      by false e true g =
          let none : slice_get [] k ≡ Some i = subst (λ n. slice_get n.places k ≡ Some i) (ap (node new) (eqb-true j (length old) g) ∙ c.here) p in cc
      by false e false g =
          let far : length new ≤ j = grind (arith, nat_tests, c.len) in
          let none : slice_get [] k ≡ Some i = subst (λ n. slice_get n.places k ≡ Some i) (get_or-eq_default new (leaf 0 0) far) p in cc

  pub place_either : (j k i : ℕ) → IsPlace new j k i → IsPlace old j k i ⊎ ((j ≡ owner) × (k ≡ length (node old owner).places) × (i ≡ length old))
  place_either j k i p = by (j == owner) refl
    where
      w : j < length old
      w = parent_within j k i p

      by : (b : Bool) → (j == owner) ≡ b → IsPlace old j k i ⊎ ((j ≡ owner) × (k ≡ length (node old owner).places) × (i ≡ length old))
      by true e =
          let is : j ≡ owner = eqb-true j owner e in
          let q : slice_get ((node old owner).places ++ length old ∷ []) k ≡ Some i = subst (λ n. slice_get n.places k ≡ Some i) (ap (node new) is ∙ c.above) p in
          ⊎_elim (λ a. inl (subst (λ x. IsPlace old x k i) (sym is) a)) (λ a. inr (is, a.0, a.1)) (slice_get-either (node old owner).places (length old) k i q)
      by false e =
          inl (subst (λ n. slice_get n.places k ≡ Some i) (c.others j (λ y. absurd (omega (arith, w, y))) (λ y. false≢true (sym e ∙ eq-eqb j owner y))) p)

  place_stays : (j k i : ℕ) → IsPlace old j k i → IsPlace new j k i
  place_stays j k i p = by (nat_lt j (length old)) refl
    where
      by : (b : Bool) → nat_lt j (length old) ≡ b → IsPlace new j k i
      by true e = node_else (λ m n. slice_get m.places k ≡ Some i → slice_get n.places k ≡ Some i) j (grind (arith, nat_tests))
          (λ q. subst (λ n. slice_get n.places k ≡ Some i) (sym c.above) (slice_get-front (node old owner).places (length old) k i q)) (λ n q. q) p
      by false e =
          let none : slice_get [] k ≡ Some i = subst (λ n. slice_get n.places k ≡ Some i) (get_or-eq_default old (leaf 0 0) (grind (arith, nat_tests))) p in cc

  number_stays : (i : ℕ) → i < length old → (node new i).number ≡ (node old i).number
  number_stays i w = node_else (λ m n. n.number ≡ m.number) i w (ap (λ n. n.number) c.above) (λ n. refl)

  owner_stays : (i : ℕ) → i < length old → (node new i).owner ≡ (node old i).owner
  owner_stays i w = node_else (λ m n. n.owner ≡ m.owner) i w (ap (λ n. n.owner) c.above) (λ n. refl)

  pub add_linked : IsLinked new
  add_linked = record {
    root = omega (arith, linked.root, c.len);
    up = λ i b w. by i b w (i == length old) refl;
    before = λ j k i p. ⊎_elim (λ q. linked.before j k i q) (λ q. omega (arith, q.0, q.2, within)) (place_either j k i p);
    within = λ j k i p. ⊎_elim (λ q. omega (arith, c.len, linked.within j k i q)) (λ q. omega (arith, q.2, c.len)) (place_either j k i p);
    owner = λ j k i p. ⊎_elim (λ q. owner_stays i (linked.within j k i q) ∙ linked.owner j k i q) (λ q. ap (λ x. (node new x).owner) q.2 ∙ ap (λ n. n.owner) c.here ∙ sym q.0) (place_either j k i p);
    number = λ j k i p. ⊎_elim (λ q. number_stays i (linked.within j k i q) ∙ linked.number j k i q)
        (λ q. ap (λ x. (node new x).number) q.2 ∙ ap (λ n. n.number) c.here ∙ ap suc (sym q.1)) (place_either j k i p);
  }
    where
      by : (i : ℕ) → 0 < i → i < length new → (b : Bool) → (i == length old) ≡ b → (k : ℕ) × ((node new i).number ≡ suc k) × IsPlace new (node new i).owner k i
      by i b w true e =
          let is : i ≡ length old = eqb-true i (length old) e in
          let last : IsPlace new owner (length (node old owner).places) (length old) = subst (λ n. slice_get n.places (length (node old owner).places) ≡ Some (length old)) (sym c.above) (slice_get-last (node old owner).places (length old)) in (
            length (node old owner).places,
            ap (λ x. (node new x).number) is ∙ ap (λ n. n.number) c.here,
            subst (λ x. IsPlace new (node new x).owner (length (node old owner).places) x) (sym is) (subst (λ x. IsPlace new x (length (node old owner).places) (length old)) (sym (ap (λ n. n.owner) c.here)) last),
          )
      by i b w false e =
          let apart : i ≢ length old = λ y. false≢true (sym e ∙ eq-eqb i (length old) y) in
          let l : i < length old = near i w apart in
          let up = linked.up i b l in
          (up.0, number_stays i l ∙ up.1, subst (λ x. IsPlace new x up.0 i) (sym (owner_stays i l)) (place_stays (node old i).owner up.0 i up.2))
        where
          near : (i : ℕ) → i < length new → i ≢ length old → i < length old
          near i w n = near_by (nat_lt i (length old)) refl
            where
              near_by : (b : Bool) → nat_lt i (length old) ≡ b → i < length old
              near_by true g = grind (arith, nat_tests)
              near_by false g = absurd (n (grind (arith, nat_tests, c.len)))

  -- a set of the node that isn't its indexes or its capacity
  unended_stays : (j m : ℕ) → j < length old → has (node new j).unended m ≡ has (node old j).unended m
  unended_stays j m w = node_else (λ p q. has q.unended m ≡ has p.unended m) j w (ap (λ n. has n.unended m) c.above) (λ n. refl)

  live_stays : (j m : ℕ) → j < length old → has (node new j).live m ≡ has (node old j).live m
  live_stays j m w = node_else (λ p q. has q.live m ≡ has p.live m) j w (ap (λ n. has n.live m) c.above) (λ n. refl)

  pub add_tree : IsTree old → IsTree new
  add_tree tree = record {
    linked = add_linked;
    children = record {
      unended = λ j m h. counted (λ n. n.unended) j m (λ w. sym (unended_stays j m w)) (ap (λ n. n.unended) c.here) refl (tree.children.unended j m) h;
      live = λ j m h. counted (λ n. n.live) j m (λ w. sym (live_stays j m w)) (ap (λ n. n.live) c.here) refl (tree.children.live j m) h;
    };
    unended = λ j k i p z. ⊎_elim
        (λ q. let w = tree.linked.within j k i q in
        unended_stays j (suc k) (parent_within j k i p) ∙ tree.unended j k i q z ∙ node_else (λ m n. m.pending ≡ n.pending) i w (sym (ap (λ n. n.pending) c.above)) (λ n. refl))
        (λ q. unended_stays j (suc k) (parent_within j k i p) ∙ not_yet (has (node old j).unended (suc k)) (λ h. too_many j k (tree.children.unended j (suc k) h).1 q.0 q.1)
        ∙ sym (ap (λ x. (node new x).pending) q.2 ∙ ap (λ n. n.pending) c.here)) (place_either j k i p);
    live = λ j k i p z. ⊎_elim
        (λ q. let w = tree.linked.within j k i q in
        live_stays j (suc k) (parent_within j k i p) ∙ tree.live j k i q z ∙ node_else (λ m n. is_live m ≡ is_live n) i w (sym (ap is_live c.above)) (λ n. refl))
        (λ q. live_stays j (suc k) (parent_within j k i p) ∙ not_yet (has (node old j).live (suc k)) (λ h. too_many j k (tree.children.live j (suc k) h).1 q.0 q.1)
        ∙ sym (ap (λ x. is_live (node new x)) q.2 ∙ ap is_live c.here)) (place_either j k i p);
  }
    where
      too_many : (j k : ℕ) → suc k ≤ length (node old j).places → j ≡ owner → k ≡ length (node old owner).places → ⊥
      too_many j k l e f = omega (arith, l, f, ap (λ x. length (node old x).places) e)

      not_yet : (b : Bool) → (b ≡ true → ⊥) → b ≡ false
      not_yet true f = absurd (f refl)
      not_yet false f = refl

      longer : (j : ℕ) → j < length old → length (node old j).places ≤ length (node new j).places
      longer j w = node_else (λ m n. length m.places ≤ length n.places) j w (omega (arith, ap (λ n. length n.places) c.above, length-append (node old owner).places (length old ∷ []))) (λ n. omega arith)

      counted : (field : Node → List ℕ) (j m : ℕ) → (j < length old → has (field (node old j)) m ≡ has (field (node new j)) m) → field (node new (length old)) ≡ [] → field (leaf 0 0) ≡ []
          → (has (field (node old j)) m ≡ true → (0 < m) × (m ≤ length (node old j).places)) → has (field (node new j)) m ≡ true → (0 < m) × (m ≤ length (node new j).places)
      counted field j m same none blank was h = by (nat_lt j (length old)) refl (j == length old) refl
        where
          by : (a : Bool) → nat_lt j (length old) ≡ a → (b : Bool) → (j == length old) ≡ b → (0 < m) × (m ≤ length (node new j).places)
          by true e b g =
              let w : j < length old = grind (arith, nat_tests) in
              let is = was (same w ∙ h) in
              (is.0, omega (arith, is.1, longer j w))
          by false e true g =
              absurd (false≢true (sym (ap (λ xs. has xs m) (ap (λ x. field (node new x)) (eqb-true j (length old) g) ∙ none)) ∙ h))
          by false e false g =
              let far : length new ≤ j = grind (arith, nat_tests, c.len) in
              absurd (false≢true (sym (ap (λ xs. has xs m) (ap field (get_or-eq_default new (leaf 0 0) far) ∙ blank)) ∙ h))

-- ---- capacity

pub linked_room : (old new : Nodes) → SameButRoom old new → IsLinked old → IsLinked new
linked_room old new s linked = record {
  root = omega (arith, linked.root, s.len);
  up = λ i b w.
      let up = linked.up i b (omega (arith, w, s.len)) in
      (up.0, ap (λ n. n.number) (s.same i) ∙ up.1, subst (λ o. IsPlace new o up.0 i) (sym (ap (λ n. n.owner) (s.same i))) (on (node old i).owner up.0 i up.2));
  before = λ j k i p. linked.before j k i (back j k i p);
  within = λ j k i p. omega (arith, linked.within j k i (back j k i p), s.len);
  owner = λ j k i p. ap (λ n. n.owner) (s.same i) ∙ linked.owner j k i (back j k i p);
  number = λ j k i p. ap (λ n. n.number) (s.same i) ∙ linked.number j k i (back j k i p);
}
  where
    back : (j k i : ℕ) → IsPlace new j k i → IsPlace old j k i
    back j k i p = sym (ap (λ n. slice_get n.places k) (s.same j)) ∙ p

    on : (j k i : ℕ) → IsPlace old j k i → IsPlace new j k i
    on j k i p = ap (λ n. slice_get n.places k) (s.same j) ∙ p

pub links_room : (old new : Nodes) → SameButRoom old new → IsTree old → IsTree new
links_room old new s tree = record {
  linked = linked_room old new s tree.linked;
  children = record {
    unended = λ j m h. subst (λ ps. (0 < m) × (m ≤ length ps)) (sym (ap (λ n. n.places) (s.same j))) (tree.children.unended j m (sym (ap (λ n. has n.unended m) (s.same j)) ∙ h));
    live = λ j m h. subst (λ ps. (0 < m) × (m ≤ length ps)) (sym (ap (λ n. n.places) (s.same j))) (tree.children.live j m (sym (ap (λ n. has n.live m) (s.same j)) ∙ h));
  };
  unended = λ j k i p z. ap (λ n. has n.unended (suc k)) (s.same j) ∙ tree.unended j k i (back j k i p) z ∙ sym (ap (λ n. n.pending) (s.same i));
  live = λ j k i p z. ap (λ n. has n.live (suc k)) (s.same j) ∙ tree.live j k i (back j k i p) z ∙ sym (ap is_live (s.same i));
}
  where
    back : (j k i : ℕ) → IsPlace new j k i → IsPlace old j k i
    back j k i p = sym (ap (λ n. slice_get n.places k) (s.same j)) ∙ p

-- ---- the root alone

pub root_places : (j k i : ℕ) → IsPlace (record (leaf 0 0) { pending = true } ∷ []) j k i → ⊥
root_places zero k i p = cc
root_places (suc j) k i p = cc

pub root_tree : IsTree (record (leaf 0 0) { pending = true } ∷ [])
root_tree = record {
  linked = record {
    root = omega arith;
    up = λ i b w. absurd (omega (arith, b, w));
    before = λ j k i p. absurd (root_places j k i p);
    within = λ j k i p. absurd (root_places j k i p);
    owner = λ j k i p. absurd (root_places j k i p);
    number = λ j k i p. absurd (root_places j k i p);
  };
  children = record { unended = λ j n h. absurd (nobody j n h); live = λ j n h. absurd (nobody_live j n h) };
  unended = λ j k i p z. absurd (root_places j k i p);
  live = λ j k i p z. absurd (root_places j k i p);
}
  where
    nobody : (j n : ℕ) → has (node (record (leaf 0 0) { pending = true } ∷ []) j).unended n ≡ true → ⊥
    nobody zero n h = cc
    nobody (suc j) n h = cc

    nobody_live : (j n : ℕ) → has (node (record (leaf 0 0) { pending = true } ∷ []) j).live n ≡ true → ⊥
    nobody_live zero n h = cc
    nobody_live (suc j) n h = cc
