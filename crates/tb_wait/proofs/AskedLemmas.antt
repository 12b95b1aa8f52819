-- What is found of a task in the table, by its name.
use Rattle.std.proofs.Common.{◌≡◌, ℕ, zero, suc, ◌-◌, ◌<◌, ◌≤◌, List, [], ◌∷◌, ◌++◌, Bool, true, false, not, ◌&&◌, nat_lt, Option, Some, None, length, slice_get, refl, sym, ap, ◌∙◌, subst, arith, ⊎_elim}
use Rattle.std.specs.List.{zip, position, list_any}
use Rattle.std.specs.Option.{option_map_or}
use Rattle.std.proofs.lemmas.Bool.{or_cases, or_left, or_right, and_parts, and_from}
use Rattle.std.proofs.lemmas.Bool.Decides.{nat_tests}
use Rattle.tb_model.specs.Names.{Name, same_name, is_child}
use Rattle.tb_model.specs.Siblings.{is_later}
use Rattle.tb_model.specs.LeastNames.{IsAtMost, IsLeastName}
use Rattle.tb_model.proofs.TestLemmas.{same_true, same_refl}
use Rattle.tb_model.proofs.OrderLemmas.{at_most_below, at_most_later}
use Rattle.tb_wait.specs.Kin.{Kin, Slot, Table, slot, kin, kin_in, IsUnended, IsUnendedChild, IsNextUnended, IsUnendedMember, first_of}
use Rattle.tb_wait.specs.Rows.{key, slot_at, is_pending, groups_of, Fits, IsFirstWithin}
use Rattle.tb_wait.specs.Tree.{Nodes, node, is_live, is_own, IsPlace, KnowsLiveBut, IsFirstPlace, IsNextNumber}
use Rattle.tb_wait.proofs.RowLemmas.{slot_of_key, key_of_slot, no_slot}
use Rattle.tb_wait.proofs.WaitLemmas.{at_key, none_any}
use Rattle.tb_wait.proofs.SearchLemmas.{Through, some_is, head_is, above, through_child}

-- ---- names

is_pending_kin : (k : Option Kin) (q : Kin) → k ≡ Some q → q.over ≡ false → is_pending k ≡ true
is_pending_kin k q e o = ap is_pending e ∙ ap not o

kin_pending : (k : Option Kin) → is_pending k ≡ true → (q : Kin) × (k ≡ Some q) × (q.over ≡ false)
kin_pending None h = cc
kin_pending (Some q) h = (q, refl, no q.over h)
  where
    no : (b : Bool) → not b ≡ true → b ≡ false
    no false e = refl
    no true e = cc

child_split : (t u : Name) → is_child t u ≡ true → (n : ℕ) × (u ≡ n ∷ t)
child_split t [] h = cc
child_split t (n ∷ u) h = (n, ap (λ s. n ∷ s) (same_true u t h))

later_split : (t : Name) (g : ℕ) (u : Name) → is_later t g u ≡ true → (x : Name) × (n : ℕ) × (g < n) × (u ≡ x ++ n ∷ t)
later_split t g [] h = cc
later_split t g (n ∷ u) h = ⊎_elim
    (λ a. let p = and_parts (nat_lt g n) (same_name t u) a in ([], n, grind (arith, nat_tests, p.0), ap (λ s. n ∷ s) (sym (same_true t u p.1))))
    (λ b. let r = later_split t g u b in (n ∷ r.0, r.1, r.2, ap (λ s. n ∷ s) r.3))
    (or_cases (nat_lt g n && same_name t u) (is_later t g u) h)

later_from : (t : Name) (g : ℕ) (x : Name) (n : ℕ) → g < n → is_later t g (x ++ n ∷ t) ≡ true
later_from t g [] n l = or_left (nat_lt g n && same_name t t) _ (and_from (nat_lt g n) (same_name t t) (grind (arith, nat_tests)) (same_refl t))
later_from t g (m ∷ x) n l = or_right (nat_lt g m && same_name t (x ++ n ∷ t)) _ (later_from t g x n l)

module _ (table : Table) (names : List Name) (slots : List Slot) (nodes : Nodes) (room : ℕ) (v : record { tasks = zip names slots; room = room } ≡ table) (f : Fits names slots nodes) where
  -- who is there and isn't over has a node that says so
  record Stands (u : Name) : Type 0 where
    index : ℕ
    within : index < length names
    named : key names index ≡ u
    pending : (node nodes index).pending ≡ true

  stands : (u : Name) → IsUnended table.tasks u → Stands u
  stands u h = by (slot (zip names slots) u) refl
    where
      k : kin (zip names slots) u ≡ Some h.0
      k = subst (λ b. kin b.tasks u ≡ Some h.0) (sym v) h.1

      by : (o : Option Slot) → slot (zip names slots) u ≡ o → Stands u
      by None e = let clash : None ≡ Some h.0 = sym (ap kin_in e) ∙ k in cc
      by (Some s) e =
          let is = key_of_slot u names slots s e in
          let own : (slot_at slots is.index).kin ≡ Some h.0 = ap (λ x. x.kin) is.holds ∙ sym (ap kin_in e) ∙ k in
          record { index = is.index; within = is.within; named = is.named; pending = f.pending is.index ∙ is_pending_kin (slot_at slots is.index).kin h.0 own h.2 }

  unended : (i : ℕ) → i < length names → (node nodes i).pending ≡ true → IsUnended table.tasks (key names i)
  unended i w p =
      let q = kin_pending (slot_at slots i).kin (sym (f.pending i) ∙ p) in
      (q.0, subst (λ b. kin b.tasks (key names i) ≡ Some q.0) v (ap kin_in (slot_of_key (key names i) names slots i f.distinct f.slots_len w refl) ∙ q.1), q.2)

  module _ (t : Name) (at : ℕ) (w : at < length names) (named : key names at ≡ t) where
    place_in : (k i : ℕ) → IsPlace nodes at k i → i < length names
    place_in k i p = omega (arith, f.linked.within at k i p, f.nodes_len)

    place_name : (k i : ℕ) → IsPlace nodes at k i → key names i ≡ suc k ∷ t
    place_name k i p = f.child at k i p ∙ ap (λ s. suc k ∷ s) named

    order : (m k : ℕ) (x y : Name) → m < k → IsAtMost (x ++ suc m ∷ t) (y ++ suc k ∷ t)
    order m k x y l = at_most_later t x y (suc m) (suc k) (omega (arith, l))

    child_at : (u : Name) (n : ℕ) → u ≡ n ∷ t → IsUnended table.tasks u → (k j : ℕ) × (suc k ≡ n) × IsPlace nodes at k j × ((node nodes j).pending ≡ true)
    child_at u n e h =
        let s = stands u h in
        let a = above names slots nodes f s.index t n s.within (s.named ∙ e) in
        let same : a.parent ≡ at = f.distinct a.parent at a.within w (a.named ∙ sym named) in
        (a.place, s.index, a.numbered, subst (λ x. IsPlace nodes x a.place s.index) same a.is_place, s.pending)

    pub child_some : (i : ℕ) → IsFirstPlace nodes at 0 is_own (Some i) → IsLeastName (IsUnendedChild table.tasks t) (Some (key names i))
    child_some i first = record {
      found = λ u e. let it = first.found i refl in
          let is : key names i ≡ u = cc in
          subst (IsUnendedChild table.tasks t) is (ap (is_child t) (place_name it.0 i it.2) ∙ same_refl t, unended i (place_in it.0 i it.2) it.3);
      least = λ u h. let c = child_split t u h.0 in
          let s = child_at u c.0 c.1 h.1 in
          let l = first.least s.0 s.1 (omega arith) s.3 s.4 in
          (key names i, refl, at_most u c.0 c.1 s.0 s.2 l.0 l.1 l.2 l.3 l.4);
    }
      where
        at_most : (u : Name) (n : ℕ) → u ≡ n ∷ t → (k : ℕ) → suc k ≡ n → (m c : ℕ) → Some i ≡ Some c → IsPlace nodes at m c → m ≤ k → IsAtMost (key names i) u
        at_most u n e k q m c s p l =
            let mine : key names i ≡ suc m ∷ t = ap (key names) (some_is s) ∙ place_name m c p in
            let theirs : u ≡ suc k ∷ t = e ∙ ap (λ x. x ∷ t) (sym q) in
            subst (λ x. IsAtMost x u) (sym mine) (subst (IsAtMost (suc m ∷ t)) (sym theirs) (by (nat_lt m k) refl))
          where
            by : (b : Bool) → nat_lt m k ≡ b → IsAtMost (suc m ∷ t) (suc k ∷ t)
            by true g = order m k [] [] (grind (arith, nat_tests))
            by false g = let same : m ≡ k = grind (arith, nat_tests) in subst (λ x. IsAtMost (suc m ∷ t) (suc x ∷ t)) same (at_most_below (suc m ∷ t) [])

    pub child_none : IsFirstPlace nodes at 0 is_own None → IsLeastName (IsUnendedChild table.tasks t) None
    child_none first = record {
      found = λ u e. cc;
      least = λ u h. let c = child_split t u h.0 in
          let s = child_at u c.0 c.1 h.1 in
          let l = first.least s.0 s.1 (omega arith) s.3 s.4 in cc;
    }

    pub next_child : (low : ℕ) (o : Option ℕ) → IsNextNumber nodes at low is_own o → IsNextUnended table.tasks t low o
    next_child low o a = record {
      found = λ n e. let it = a.found n e in
          (omega (arith, it.2, it.3), (same_refl t, subst (IsUnended table.tasks) (place_name it.0 it.1 it.4 ∙ ap (λ m. m ∷ t) (sym it.2)) (unended it.1 (place_in it.0 it.1 it.4) it.5)));
      least = λ n l h.
          let s = child_at (n ∷ t) n refl h.1 in
          let m = a.least s.0 s.1 (omega (arith, l, s.2)) s.3 s.4 in
          (m.0, m.1, omega (arith, m.2, s.2));
    }

    -- whether the child of one ordinal is there and isn't over
    abbrev asked : ℕ → Bool
    asked m = option_map_or (λ i. (node nodes i).pending) (slice_get (node nodes at).places m) false

    abbrev asked_as : (o : Option ℕ) → Bool
    asked_as o = option_map_or (λ i. (node nodes i).pending) o false

    pub child_pending : (n : ℕ) → 0 < n → asked (n - 1) ≡ true → IsUnendedChild table.tasks t (n ∷ t)
    child_pending zero l e = absurd (omega (arith, l))
    child_pending (suc k) l e = by (slice_get (node nodes at).places k) refl
      where
        index : suc k - 1 ≡ k
        index = omega arith

        by : (o : Option ℕ) → slice_get (node nodes at).places k ≡ o → IsUnendedChild table.tasks t (suc k ∷ t)
        by None is = let clash : false ≡ true = sym (ap asked_as is) ∙ ap asked (sym index) ∙ e in cc
        by (Some i) is = (same_refl t, subst (IsUnended table.tasks) (place_name k i is) (unended i (place_in k i is) (sym (ap asked_as is) ∙ ap asked (sym index) ∙ e)))

    pub child_over : (n : ℕ) → 0 < n → asked (n - 1) ≡ false → IsUnendedChild table.tasks t (n ∷ t) → ⊥
    child_over zero l e h = absurd (omega (arith, l))
    child_over (suc k) l e h =
        let s = child_at (suc k ∷ t) (suc k) refl h.1 in
        let same : s.0 ≡ suc k - 1 = omega (arith, s.2) in
        let here : slice_get (node nodes at).places (suc k - 1) ≡ Some s.1 = ap (slice_get (node nodes at).places) (sym same) ∙ s.3 in
        let clash : true ≡ false = sym s.4 ∙ sym (ap asked_as here) ∙ e in cc

    -- ---- members of the innermost open group

    kin_here : kin table.tasks t ≡ (slot_at slots at).kin
    kin_here = sym (ap (λ b. kin b.tasks t) v) ∙ ap kin_in (slot_of_key t names slots at f.distinct f.slots_len w named)

    group_here : (m : Name) (h : IsUnendedMember table.tasks t m) → first_of (groups_of (slot_at slots at).kin) ≡ Some h.1
    group_here m h = ap (λ k. first_of (groups_of k)) (sym kin_here ∙ h.2) ∙ h.3

    pub member_no_group : first_of (groups_of (slot_at slots at).kin) ≡ None → IsLeastName (IsUnendedMember table.tasks t) None
    member_no_group e = record { found = λ u g. cc; least = λ u h. let is = group_here u h in let clash : None ≡ Some h.1 = sym e ∙ is in cc }

    module _ (g : ℕ) (is_group : first_of (groups_of (slot_at slots at).kin) ≡ Some g) (knows : KnowsLiveBut nodes 0) where
      -- a member that is there and isn't over is within a child of t with an ordinal above the
      -- group's
      record Member (m : Name) : Type 0 where
        index : ℕ
        within : index < length names
        is_named : key names index ≡ m
        pending : (node nodes index).pending ≡ true
        number : ℕ
        after : g < number
        through : Through names slots nodes f at index number

      member : (m : Name) → IsUnendedMember table.tasks t m → Member m
      member m h =
          let same : h.1 ≡ g = some_is (sym (group_here m h) ∙ is_group) in
          let l = later_split t h.1 m h.4.0 in
          let s = stands m h.4.1 in
          record {
            index = s.index;
            within = s.within;
            is_named = s.named;
            pending = s.pending;
            number = l.1;
            after = omega (arith, l.2, same);
            through = through_child names slots nodes f knows at s.index l.1 l.0 w s.within (s.named ∙ l.3 ∙ ap (λ y. l.0 ++ l.1 ∷ y) (sym named)) (or_left (node nodes s.index).pending _ s.pending);
          }

      pub member_none : IsFirstPlace nodes at g is_live None → IsLeastName (IsUnendedMember table.tasks t) None
      member_none first = record {
        found = λ u e. cc;
        least = λ u h. let m = member u h in
            let l = first.least m.through.number m.through.child (omega (arith, m.after, m.through.numbered)) m.through.is_place m.through.live in cc;
      }

      pub member_some : (c i : ℕ) → IsFirstPlace nodes at g is_live (Some c) → i < length names → (node nodes i).pending ≡ true → IsFirstWithin names nodes c i
          → IsLeastName (IsUnendedMember table.tasks t) (Some (key names i))
      member_some c i first in_names own inner = record {
        found = λ u e. let is : key names i ≡ u = cc in subst (IsUnendedMember table.tasks t) is is_member;
        least = λ u h. (key names i, refl, at_most u (member u h));
      }
        where
          it : (k : ℕ) × (g ≤ k) × IsPlace nodes at k c × (is_live (node nodes c) ≡ true)
          it = first.found c refl

          named_i : key names i ≡ inner.below.0 ++ suc it.0 ∷ t
          named_i = inner.below.1 ∙ ap (λ s. inner.below.0 ++ s) (place_name it.0 c it.2)

          is_member : IsUnendedMember table.tasks t (key names i)
          is_member = by (slot_at slots at).kin refl
            where
              later : is_later t g (key names i) ≡ true
              later = subst (λ s. is_later t g s ≡ true) (sym named_i) (later_from t g inner.below.0 (suc it.0) (omega (arith, it.1)))

              by : (k : Option Kin) → (slot_at slots at).kin ≡ k → IsUnendedMember table.tasks t (key names i)
              by None e = let clash : None ≡ Some g = sym (ap (λ k. first_of (groups_of k)) e) ∙ is_group in cc
              by (Some k) e = (k, g, kin_here ∙ e, sym (ap (λ x. first_of (groups_of x)) e) ∙ is_group, (later, unended i in_names own))

          at_most : (u : Name) → Member u → IsAtMost (key names i) u
          at_most u m = by (nat_lt l.0 m.through.number) refl
            where
              l : (k d : ℕ) × (Some c ≡ Some d) × IsPlace nodes at k d × (k ≤ m.through.number)
              l = first.least m.through.number m.through.child (omega (arith, m.after, m.through.numbered)) m.through.is_place m.through.live

              same : l.1 ≡ c
              same = some_is (sym l.2)

              theirs : u ≡ m.through.way ++ suc m.through.number ∷ t
              theirs = sym m.is_named ∙ m.through.below ∙ ap (λ s. m.through.way ++ s) (place_name m.through.number m.through.child m.through.is_place)

              number : l.0 ≡ it.0
              number = let one = head_is (sym (place_name l.0 l.1 l.3) ∙ ap (key names) same ∙ place_name it.0 c it.2) in omega (arith, one)

              by : (b : Bool) → nat_lt l.0 m.through.number ≡ b → IsAtMost (key names i) u
              by true q = subst (λ s. IsAtMost s u) (sym named_i) (subst (IsAtMost (inner.below.0 ++ suc it.0 ∷ t)) (sym theirs) (order it.0 m.through.number inner.below.0 m.through.way (grind (arith, nat_tests, number))))
              by false q =
                  let equal : m.through.number ≡ l.0 = grind (arith, nat_tests, l.4) in
                  let child : m.through.child ≡ c = some_is (sym m.through.is_place ∙ ap (slice_get (node nodes at).places) equal ∙ l.3) ∙ same in
                  subst (IsAtMost (key names i)) m.is_named (inner.least m.index m.through.way m.within (m.through.below ∙ ap (λ x. m.through.way ++ key names x) child) m.pending)

  -- ---- where the task was never generated
  pub child_absent : (t : Name) → slot (zip names slots) t ≡ None → IsLeastName (IsUnendedChild table.tasks t) None
  child_absent t e = record {
    found = λ u g. cc;
    least = λ u h. let c = child_split t u h.0 in
        let s = stands u h.1 in
        let a = above names slots nodes f s.index t c.0 s.within (s.named ∙ c.1) in
        let clash : Some (slot_at slots a.parent) ≡ None = sym (slot_of_key t names slots a.parent f.distinct f.slots_len a.within a.named) ∙ e in cc;
  }

  pub next_absent : (t : Name) (low : ℕ) → slot (zip names slots) t ≡ None → IsNextUnended table.tasks t low None
  next_absent t low e = record {
    found = λ n s. cc;
    least = λ n l h. let c = (child_absent t e).least (n ∷ t) h in let clash : None ≡ Some c.0 = c.1 in cc;
  }

  pub member_absent : (t : Name) → slot (zip names slots) t ≡ None → IsLeastName (IsUnendedMember table.tasks t) None
  member_absent t e = record {
    found = λ u g. cc;
    least = λ u h. let clash : None ≡ Some h.0 = sym (ap kin_in e) ∙ ap (λ b. kin b.tasks t) v ∙ h.2 in cc;
  }

  pub no_row : (t : Name) → false ≡ list_any (same_name t) names → slot (zip names slots) t ≡ None
  no_row t h = no_slot t names slots (none_any t names (sym h))

  pub kin_of_row : (t : Name) (at : ℕ) → Some at ≡ position (same_name t) names → kin table.tasks t ≡ (slot_at slots at).kin
  kin_of_row t at e = let k = at_key t names at e in kin_here t at k.0 k.1

  pub kin_of_none : (t : Name) → false ≡ list_any (same_name t) names → kin table.tasks t ≡ None
  kin_of_none t h = sym (ap (λ b. kin b.tasks t) v) ∙ ap kin_in (no_row t h)

-- the name at an index
pub slice_get-key : (names : List Name) (i : ℕ) → i < length names → slice_get names i ≡ Some (key names i)
slice_get-key [] i w = absurd (omega (arith, w))
slice_get-key (n ∷ names) zero w = refl
slice_get-key (n ∷ names) (suc i) w = slice_get-key names i (omega (arith, w))
