-- The search in the tree finds the least name.
use Rattle.std.proofs.Common.{◌≡◌, ◌≢◌, ℕ, zero, suc, ◌-◌, ◌<◌, ◌≤◌, List, [], ◌∷◌, ◌++◌, Bool, true, false, not, ◌||◌, ◌==◌, nat_lt, Option, Some, None, length, slice_get, refl, sym, ap, ap₂, ◌∙◌, subst, arith, eq-eqb, append_assoc, ◌⊎◌, inl, inr, ⊎_elim}
use Rattle.std.proofs.lemmas.Bool.{false≢true, or_left, or_right}
use Rattle.std.proofs.lemmas.Bool.Decides.{nat_tests}
use Rattle.tb_model.specs.Names.{Name}
use Rattle.tb_model.specs.LeastNames.{IsAtMost}
use Rattle.tb_model.proofs.OrderLemmas.{at_most_below, at_most_later}
use Rattle.tb_wait.specs.Numbers.{has, is_empty, IsNextAbove}
use Rattle.tb_wait.specs.Kin.{Slot}
use Rattle.tb_wait.specs.Rows.{key, Fits, IsFirstWithin}
use Rattle.tb_wait.specs.Tree.{Node, Nodes, node, is_live, is_own, IsPlace, IsTree, KnowsLiveBut, IsFirstPlace, IsNextNumber}

pub some_is : {x y : ℕ} → Some x ≡ Some y → x ≡ y
some_is e = cc

-- ---- the first child that passes

slice_get-within : (xs : List ℕ) (k : ℕ) → k < length xs → (i : ℕ) × (slice_get xs k ≡ Some i)
slice_get-within [] k l = absurd (omega (arith, l))
slice_get-within (x ∷ xs) zero l = (x, refl)
slice_get-within (x ∷ xs) (suc k) l = slice_get-within xs k (omega (arith, l))

-- a set of the node that knows which children pass
module _ (nodes : Nodes) (j low : ℕ) (test : Node → Bool) (set : List ℕ) (knows : (k i : ℕ) → IsPlace nodes j k i → has set (suc k) ≡ test (node nodes i))
    (counted : (n : ℕ) → has set n ≡ true → (0 < n) × (n ≤ length (node nodes j).places)) where
  pub first_of_some : (n : ℕ) (o : Option ℕ) → IsNextAbove set low (Some n) → o ≡ slice_get (node nodes j).places (n - 1) → IsFirstPlace nodes j low test o
  first_of_some n o a e =
      let it = a.found n refl in
      let in_range = counted n it.1 in
      let there = slice_get-within (node nodes j).places (n - 1) (omega (arith, in_range.0, in_range.1)) in
      let is : o ≡ Some there.0 = e ∙ there.1 in
      let number : suc (n - 1) ≡ n = omega (arith, in_range.0) in
      record {
        found = λ i s. let same : there.0 ≡ i = some_is (sym is ∙ s) in (
          n - 1,
          omega (arith, it.0),
          there.1 ∙ ap Some same,
          sym (knows (n - 1) i (there.1 ∙ ap Some same)) ∙ ap (has set) number ∙ it.1,
        );
        least = λ k i l p t. let m = a.least (suc k) (omega (arith, l)) (knows k i p ∙ t) in
            let same : n ≡ m.0 = some_is m.1 in
            (n - 1, there.0, is, there.1, omega (arith, m.2, same, in_range.0));
      }

  pub first_of_none : IsNextAbove set low None → IsFirstPlace nodes j low test None
  first_of_none a = record {
    found = λ i s. cc;
    least = λ k i l p t. let m = a.least (suc k) (omega (arith, l)) (knows k i p ∙ t) in cc;
  }

-- ---- names below a task

-- a way down that isn't empty begins with a child
pub from_child : (x : Name) → (x ≡ []) ⊎ ((y : Name) × (n : ℕ) × (x ≡ y ++ n ∷ []))
from_child [] = inl refl
from_child (m ∷ x) = inr (⊎_elim (λ e. ([], m, ap (λ z. m ∷ z) e)) (λ h. (m ∷ h.0, h.1, ap (λ z. m ∷ z) h.2)) (from_child x))

pub tail_is : {m n : ℕ} {s t : Name} → m ∷ s ≡ n ∷ t → s ≡ t
tail_is e = cc

pub head_is : {m n : ℕ} {s t : Name} → m ∷ s ≡ n ∷ t → m ≡ n
head_is e = cc

module _ (names : List Name) (slots : List Slot) (nodes : Nodes) (f : Fits names slots nodes) where
  -- what is named as a child isn't the root, and is below its parent
  pub record Above (j : ℕ) (t : Name) (n : ℕ) : Type 0 where
    pub parent : ℕ
    pub place : ℕ
    pub is_place : IsPlace nodes parent place j
    pub named : key names parent ≡ t
    pub numbered : suc place ≡ n
    pub within : parent < length names

  pub above : (j : ℕ) (t : Name) (n : ℕ) → j < length names → key names j ≡ n ∷ t → Above j t n
  above j t n w e = by j refl
    where
      by : (i : ℕ) → j ≡ i → Above j t n
      by zero z = let clash : n ∷ t ≡ [] = sym e ∙ ap (key names) z ∙ f.root in cc
      by (suc i) z =
          let up = f.linked.up j (omega (arith, z)) (omega (arith, w, f.nodes_len)) in
          let is = sym (f.child (node nodes j).owner up.0 j up.2) ∙ e in
          let b = f.linked.before (node nodes j).owner up.0 j up.2 in
          record { parent = (node nodes j).owner; place = up.0; is_place = up.2; named = tail_is is; numbered = head_is is; within = omega (arith, b, w) }

  -- each ancestor of a name that is there is there
  pub ancestor : (x s : Name) (j : ℕ) → j < length names → key names j ≡ x ++ s → (i : ℕ) × (i < length names) × (key names i ≡ s)
  ancestor [] s j w e = (j, w, e)
  ancestor (m ∷ x) s j w e = let a = above j (x ++ s) m w e in ancestor x s a.parent a.within a.named

  not_empty : (xs : List ℕ) (n : ℕ) → has xs n ≡ true → not (is_empty xs) ≡ true
  not_empty [] n h = cc
  not_empty (x ∷ xs) n h = refl

  child_not_first : (j k i : ℕ) → IsPlace nodes j k i → i ≢ 0
  child_not_first j k i p z = let b = f.linked.before j k i p in absurd (omega (arith, b, z))

  -- what is live makes all above it live
  pub live_above : KnowsLiveBut nodes 0 → (x : Name) (j i : ℕ) → j < length names → i < length names → key names j ≡ x ++ key names i → is_live (node nodes j) ≡ true → is_live (node nodes i) ≡ true
  live_above knows [] j i w v e h = subst (λ k. is_live (node nodes k) ≡ true) (f.distinct j i w v e) h
  live_above knows (m ∷ x) j i w v e h =
      let a = above j (x ++ key names i) m w e in
      let known = knows a.parent a.place j a.is_place (child_not_first a.parent a.place j a.is_place) ∙ h in
      live_above knows x a.parent i a.within v a.named (or_right (node nodes a.parent).pending _ (not_empty (node nodes a.parent).live (suc a.place) known))

  -- below a task, but not itself: within one of its children
  pub record Through (at j n : ℕ) : Type 0 where
    pub child : ℕ
    pub number : ℕ
    pub is_place : IsPlace nodes at number child
    pub way : Name
    pub below : key names j ≡ way ++ key names child
    pub live : is_live (node nodes child) ≡ true
    pub numbered : suc number ≡ n

  pub through_child : KnowsLiveBut nodes 0 → (at j n : ℕ) (y : Name) → at < length names → j < length names → key names j ≡ y ++ n ∷ key names at → is_live (node nodes j) ≡ true → Through at j n
  through_child knows at j n y v w e h =
      let c = ancestor y (n ∷ key names at) j w e in
      let a = above c.0 (key names at) n c.1 c.2 in
      let same : a.parent ≡ at = f.distinct a.parent at a.within v a.named in
      record {
        child = c.0;
        number = a.place;
        is_place = subst (λ x. IsPlace nodes x a.place c.0) same a.is_place;
        way = y;
        below = e ∙ ap (λ s. y ++ s) (sym c.2);
        live = live_above knows y j c.0 w c.1 (e ∙ ap (λ s. y ++ s) (sym c.2)) h;
        numbered = a.numbered;
      }

  -- so far: each task within `start` that hasn't ended is within the one at `at`, or comes after
  -- all of that
  abbrev pub IsSoFar : ℕ → ℕ → Type 0
  IsSoFar start at = (j : ℕ) (x : Name) → j < length names → key names j ≡ x ++ key names start → (node nodes j).pending ≡ true
      → ((y : Name) × (key names j ≡ y ++ key names at)) ⊎ ((y : Name) → IsAtMost (y ++ key names at) (key names j))

  split_at : (y : Name) (n : ℕ) (t : Name) → (y ++ n ∷ []) ++ t ≡ y ++ n ∷ t
  split_at y n t = append_assoc y (n ∷ []) t

  pub so_far_step : KnowsLiveBut nodes 0 → (start at c : ℕ) → at < length names → (node nodes at).pending ≡ false → (o : Option ℕ) → IsFirstPlace nodes at 0 is_live o → o ≡ Some c → IsSoFar start at → IsSoFar start c
  so_far_step knows start at c v own o first e h j x w b p = ⊎_elim within behind (h j x w b p)
    where
      it : (k : ℕ) × (0 ≤ k) × IsPlace nodes at k c × (is_live (node nodes c) ≡ true)
      it = first.found c e

      named : key names c ≡ suc it.0 ∷ key names at
      named = f.child at it.0 c it.2

      behind : ((y : Name) → IsAtMost (y ++ key names at) (key names j)) → ((y : Name) × (key names j ≡ y ++ key names c)) ⊎ ((y : Name) → IsAtMost (y ++ key names c) (key names j))
      behind g = inr (λ y. subst (λ s. IsAtMost s (key names j)) (split_at y (suc it.0) (key names at) ∙ ap (λ s. y ++ s) (sym named)) (g (y ++ suc it.0 ∷ [])))

      through : (n : ℕ) → Through at j n → ((y : Name) × (key names j ≡ y ++ key names c)) ⊎ ((y : Name) → IsAtMost (y ++ key names c) (key names j))
      through n t = by (nat_lt m.0 t.number) refl
        where
          m : (k d : ℕ) × (o ≡ Some d) × IsPlace nodes at k d × (k ≤ t.number)
          m = first.least t.number t.child (omega arith) t.is_place t.live

          same : m.1 ≡ c
          same = some_is (sym m.2 ∙ e)

          number : m.0 ≡ it.0
          number = let one = head_is (sym (f.child at m.0 m.1 m.3) ∙ ap (key names) same ∙ named) in omega (arith, one)

          by : (b : Bool) → nat_lt m.0 t.number ≡ b → ((y : Name) × (key names j ≡ y ++ key names c)) ⊎ ((y : Name) → IsAtMost (y ++ key names c) (key names j))
          by true l = inr (λ y. subst (λ s. IsAtMost s (key names j)) (ap (λ s. y ++ s) (sym named))
              (subst (IsAtMost (y ++ suc it.0 ∷ key names at)) (ap (λ s. t.way ++ s) (sym (f.child at t.number t.child t.is_place)) ∙ sym t.below)
              (at_most_later (key names at) y t.way (suc it.0) (suc t.number) (grind (arith, nat_tests, number)))))
          by false l =
              let equal : t.number ≡ m.0 = grind (arith, nat_tests, m.4) in
              let child : t.child ≡ c = some_is (sym t.is_place ∙ ap (slice_get (node nodes at).places) equal ∙ m.3) ∙ same in
              inl (t.way, t.below ∙ ap (λ i. t.way ++ key names i) child)

      within : (y : Name) × (key names j ≡ y ++ key names at) → ((y : Name) × (key names j ≡ y ++ key names c)) ⊎ ((y : Name) → IsAtMost (y ++ key names c) (key names j))
      within g = ⊎_elim
          (λ none. let same : j ≡ at = f.distinct j at w v (g.1 ∙ ap (λ y. y ++ key names at) none) in
          absurd (false≢true (sym own ∙ ap (λ i. (node nodes i).pending) (sym same) ∙ p)))
          (λ some. through some.1 (through_child knows at j some.1 some.0 v w (g.1 ∙ ap (λ y. y ++ key names at) some.2 ∙ split_at some.0 some.1 (key names at)) (or_left (node nodes j).pending _ p)))
          (from_child g.0)

  pub so_far_begins : (start : ℕ) → IsSoFar start start
  so_far_begins start j x w b p = inl (x, b)

  pub so_far_ends : (start at : ℕ) → (x : Name) × (key names at ≡ x ++ key names start) → IsSoFar start at → IsFirstWithin names nodes start at
  so_far_ends start at b h = record {
    below = b;
    least = λ j x w e p. ⊎_elim (λ g. subst (IsAtMost (key names at)) (sym g.1) (at_most_below (key names at) g.0)) (λ g. g []) (h j x w e p);
  }

-- a live node whose own task is over has a live child
pub some_live : (nodes : Nodes) (at : ℕ) → IsTree nodes → is_live (node nodes at) ≡ true → (node nodes at).pending ≡ false → IsFirstPlace nodes at 0 is_live None → ⊥
some_live nodes at tree live own first = by (node nodes at).live refl
  where
    by : (xs : List ℕ) → (node nodes at).live ≡ xs → ⊥
    by [] e = false≢true (sym (ap₂ (λ x y. x || not (is_empty y)) own e) ∙ live)
    by (x ∷ xs) e =
        let h : has (node nodes at).live x ≡ true = ap (λ ys. has ys x) e ∙ or_left (x == x) (has xs x) (eq-eqb x x refl) in
        let range = tree.children.live at x h in
        let there = slice_get-within (node nodes at).places (x - 1) (omega (arith, range.0, range.1)) in
        let number : suc (x - 1) ≡ x = omega (arith, range.0) in
        let not_first : there.0 ≢ 0 = λ z. let b = tree.linked.before at (x - 1) there.0 there.1 in absurd (omega (arith, b, z)) in
        let l = first.least (x - 1) there.0 (omega arith) there.1 (sym (tree.live at (x - 1) there.0 there.1 not_first) ∙ ap (has (node nodes at).live) number ∙ h) in
        cc

-- ---- in the words of the code

no_root : (nodes : Nodes) (at : ℕ) → IsTree nodes → (k i : ℕ) → IsPlace nodes at k i → i ≢ 0
no_root nodes at tree k i p z = let b = tree.linked.before at k i p in absurd (omega (arith, b, z))

pub number_one : (nodes : Nodes) (at low n : ℕ) (m : Node) (set : Node → List ℕ) → m ≡ node nodes at → IsNextAbove (set m) low (Some n) → 0 < n
number_one nodes at low n m set e a = omega (arith, (a.found n refl).0)

pub found_live : (nodes : Nodes) (at low n : ℕ) (m : Node) (o : Option ℕ) → IsTree nodes → m ≡ node nodes at → IsNextAbove m.live low (Some n) → o ≡ slice_get m.places (n - 1) → IsFirstPlace nodes at low is_live o
found_live nodes at low n m o tree e a p =
    first_of_some nodes at low is_live (node nodes at).live (λ k i q. tree.live at k i q (no_root nodes at tree k i q)) (tree.children.live at) n o
    (subst (λ x. IsNextAbove x.live low (Some n)) e a) (p ∙ ap (λ x. slice_get x.places (n - 1)) e)

pub no_live : (nodes : Nodes) (at low : ℕ) (m : Node) → IsTree nodes → m ≡ node nodes at → IsNextAbove m.live low None → IsFirstPlace nodes at low is_live None
no_live nodes at low m tree e a =
    first_of_none nodes at low is_live (node nodes at).live (λ k i q. tree.live at k i q (no_root nodes at tree k i q)) (tree.children.live at)
    (subst (λ x. IsNextAbove x.live low None) e a)

pub found_unended : (nodes : Nodes) (at low n : ℕ) (m : Node) (o : Option ℕ) → IsTree nodes → m ≡ node nodes at → IsNextAbove m.unended low (Some n) → o ≡ slice_get m.places (n - 1) → IsFirstPlace nodes at low is_own o
found_unended nodes at low n m o tree e a p =
    first_of_some nodes at low is_own (node nodes at).unended (λ k i q. tree.unended at k i q (no_root nodes at tree k i q)) (tree.children.unended at) n o
    (subst (λ x. IsNextAbove x.unended low (Some n)) e a) (p ∙ ap (λ x. slice_get x.places (n - 1)) e)

pub no_unended : (nodes : Nodes) (at low : ℕ) (m : Node) → IsTree nodes → m ≡ node nodes at → IsNextAbove m.unended low None → IsFirstPlace nodes at low is_own None
no_unended nodes at low m tree e a =
    first_of_none nodes at low is_own (node nodes at).unended (λ k i q. tree.unended at k i q (no_root nodes at tree k i q)) (tree.children.unended at)
    (subst (λ x. IsNextAbove x.unended low None) e a)

pub next_number : (nodes : Nodes) (at low : ℕ) (m : Node) (o : Option ℕ) → IsTree nodes → m ≡ node nodes at → IsNextAbove m.unended low o → IsNextNumber nodes at low is_own o
next_number nodes at low m o tree e b = record {
  found = λ n g.
      let it = a.found n g in
      let range = tree.children.unended at n it.1 in
      let there = slice_get-within (node nodes at).places (n - 1) (omega (arith, range.0, range.1)) in
      let number : suc (n - 1) ≡ n = omega (arith, range.0) in (
        n - 1,
        there.0,
        sym number,
        omega (arith, it.0),
        there.1,
        sym (tree.unended at (n - 1) there.0 there.1 (no_root nodes at tree (n - 1) there.0 there.1)) ∙ ap (has (node nodes at).unended) number ∙ it.1,
      );
  least = λ k i l p t. a.least (suc k) (omega (arith, l)) (tree.unended at k i p (no_root nodes at tree k i p) ∙ t);
}
  where
    a : IsNextAbove (node nodes at).unended low o
    a = subst (λ x. IsNextAbove x.unended low o) e b

-- one step down
pub below_step : (names : List Name) (slots : List Slot) (nodes : Nodes) (f : Fits names slots nodes) (start at c : ℕ) (o : Option ℕ) → IsFirstPlace nodes at 0 is_live o → o ≡ Some c
    → (x : Name) × (key names at ≡ x ++ key names start) → (x : Name) × (key names c ≡ x ++ key names start)
below_step names slots nodes f start at c o first e b =
    let it = first.found c e in
    (suc it.0 ∷ b.0, f.child at it.0 c it.2 ∙ ap (λ t. suc it.0 ∷ t) b.1)
