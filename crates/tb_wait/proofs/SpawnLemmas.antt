-- A child that comes to be, or is no longer there, by name.
use Rattle.std.proofs.Common.{◌≡◌, ◌≢◌, ℕ, zero, suc, ◌+◌, ◌-◌, ◌<◌, ◌≤◌, List, [], ◌∷◌, ◌++◌, Bool, true, false, not, cond, ◌&&◌, ◌==◌, nat_lt, Option, Some, None, is_some, IsTrue, ◌↔◌, option_map, length, slice_get, get_or, refl, sym, ap, ap₂, ◌∙◌, subst, arith, eqb-true, eq-eqb, length-append, ◌⊎◌, inl, inr, ⊎_elim, Result, Ok, Err, OnOk, IfOk}
use Rattle.std.specs.Map.{keys_of}
use Rattle.std.specs.List.{zip, position, list_any}
use Rattle.std.proofs.lemmas.Map.Made.{keys_of-zip}
use Rattle.std.proofs.lemmas.Bool.{false≢true}
use Rattle.std.proofs.lemmas.Bool.Decides.{nat_tests}
use Rattle.std.proofs.lemmas.Option.{slice_get_within, slice_get-get_or}
use Rattle.std.proofs.Math.ListN.{get_or-eq_default}
use Rattle.tb_model.specs.Names.{Name, same_name, is_child}
use Rattle.tb_model.proofs.TestLemmas.{same_true}
use Rattle.tb_wait.specs.Kin.{Kin, Slot, Tasks, Table, slot, kin, kin_in, is_known, Adds, Drops, IsNext, IsLast, IsSame, KeepsRoom, HasSameNames, names_with, with_children, one_more, one_less, fresh, is_fresh, is_none}
use Rattle.tb_wait.specs.Rows.{blank, key, slot_at, is_pending, children_of, ChangesSlot, SetsStanding, Fits}
use Rattle.tb_wait.specs.Tree.{Nodes, node, leaf, IsPlace, SetsPending, AddsNode}
use Rattle.tb_wait.proofs.RowLemmas.{IsAt, slot_of_key, key_of_slot, two_kins, two_rooms, same_names}
use Rattle.tb_wait.proofs.WaitLemmas.{at_key, here_slot, fits_standing, known_any}
use Rattle.tb_wait.proofs.TreeLemmas.{place_either, add_linked}

head_is : {m n : ℕ} {s t : Name} → m ∷ s ≡ n ∷ t → m ≡ n
head_is e = cc

tail_is : {m n : ℕ} {s t : Name} → m ∷ s ≡ n ∷ t → s ≡ t
tail_is e = cc

some_kin : {j k : Kin} → Some j ≡ Some k → j ≡ k
some_kin e = cc

-- ---- the child's index in the tree

module _ (before : Table) (names : List Name) (old : List Slot) (nodes : Nodes) (room : ℕ) (v : record { tasks = zip names old; room = room } ≡ before) (f : Fits names old nodes)
    (p c : Name) (at n : ℕ) (within : at < length names) (named : key names at ≡ c) (child : c ≡ suc n ∷ p) where
  pub not_first : 0 < at
  not_first = by at refl
    where
      by : (i : ℕ) → at ≡ i → 0 < at
      by zero e = let clash : suc n ∷ p ≡ [] = sym child ∙ sym named ∙ ap (key names) e ∙ f.root in cc
      by (suc i) e = omega (arith, e)

  pub in_nodes : at < length nodes
  in_nodes = omega (arith, within, f.nodes_len)

  owner_name : key names (node nodes at).owner ≡ p
  owner_name =
      let up = f.linked.up at not_first in_nodes in
      tail_is (sym (f.child (node nodes at).owner up.0 at up.2) ∙ named ∙ child)

  pub number_is : (node nodes at).number ≡ suc n
  number_is =
      let up = f.linked.up at not_first in_nodes in
      up.1 ∙ head_is (sym (f.child (node nodes at).owner up.0 at up.2) ∙ named ∙ child)

  pub child_place : IsPlace nodes (node nodes at).owner n at
  child_place =
      let up = f.linked.up at not_first in_nodes in
      let same : up.0 ≡ n = omega (arith, sym up.1 ∙ number_is) in
      subst (λ k. IsPlace nodes (node nodes at).owner k at) same up.2

  pub owner_below : (node nodes at).owner < at
  owner_below = f.linked.before (node nodes at).owner n at child_place

  owner_in : (node nodes at).owner < length names
  owner_in = omega (arith, owner_below, within)

  pub owner_kin : (slot_at old (node nodes at).owner).kin ≡ kin before.tasks p
  owner_kin = sym (ap kin_in (slot_of_key p names old (node nodes at).owner f.distinct f.slots_len owner_in owner_name)) ∙ ap (λ b. kin b.tasks p) v

  pub child_kin : (slot_at old at).kin ≡ kin before.tasks c
  child_kin = sym (ap kin_in (slot_of_key c names old at f.distinct f.slots_len within named)) ∙ ap (λ b. kin b.tasks c) v

  module _ (parent : Kin) (is_parent : kin before.tasks p ≡ Some parent) where
    -- the next child isn't there yet
    pub next_is_absent : parent.children ≡ n → (slot_at old at).kin ≡ None
    next_is_absent e = by (slot_at old at).kin refl
      where
        count : children_of (slot_at old (node nodes at).owner).kin ≡ n
        count = ap children_of (owner_kin ∙ is_parent) ∙ e

        by : (o : Option Kin) → (slot_at old at).kin ≡ o → (slot_at old at).kin ≡ None
        by None h = h
        by (Some k) h =
            let s = sym (ap is_some h) ∙ f.standing (node nodes at).owner n at child_place ∙ ap (nat_lt n) count in
            absurd (grind (arith, nat_tests))

    in_places : n < length (node nodes (node nodes at).owner).places
    in_places = slice_get_within (node nodes (node nodes at).owner).places n at child_place

    module _ (new : List Slot) (k : Option Kin) (children : ℕ) (s : SetsStanding old at (node nodes at).owner k children new) where
      kins : (u : Name) → kin (zip names new) u ≡ cond (same_name c u) k (cond (same_name p u) (option_map (with_children children) (kin before.tasks u)) (kin before.tasks u))
      kins u =
          two_kins names old new f.distinct f.slots_len at (node nodes at).owner within owner_in k children s u
          ∙ ap₂ (λ a b. cond (same_name a u) k (cond (same_name b u) (option_map (with_children children) (kin (zip names old) u)) (kin (zip names old) u))) named owner_name
          ∙ ap (λ x. cond (same_name c u) k (cond (same_name p u) (option_map (with_children children) (kin x.tasks u)) (kin x.tasks u))) v

      -- where the count of children is what the change of the parent makes it
      by_change : (g : Kin → Kin) → with_children children parent ≡ g parent → (u : Name) → cond (same_name p u) (option_map (with_children children) (kin before.tasks u)) (kin before.tasks u)
          ≡ cond (same_name p u) (option_map g (kin before.tasks u)) (kin before.tasks u)
      by_change g e u = by (same_name p u) refl
        where
          by : (b : Bool) → same_name p u ≡ b → cond b (option_map (with_children children) (kin before.tasks u)) (kin before.tasks u) ≡ cond b (option_map g (kin before.tasks u)) (kin before.tasks u)
          by true h =
              let is : kin before.tasks u ≡ Some parent = subst (λ x. kin before.tasks x ≡ Some parent) (same_true p u h) is_parent in
              ap (option_map (with_children children)) is ∙ ap Some e ∙ sym (ap (option_map g) is)
          by false h = refl

      pub adds_child : k ≡ Some fresh → children ≡ suc n → parent.children ≡ n → Adds before.tasks p c (zip names new)
      adds_child e m q u =
          kins u ∙ ap (λ x. cond (same_name c u) k x) (by_change one_more (ap (λ x. with_children x parent) (m ∙ ap suc (sym q))) u)
          ∙ ap (λ x. cond (same_name c u) x (cond (same_name p u) (option_map one_more (kin before.tasks u)) (kin before.tasks u))) e

      pub drops_child : k ≡ None → children ≡ n → parent.children ≡ suc n → Drops before.tasks p c (zip names new)
      drops_child e m q u =
          kins u ∙ ap (λ x. cond (same_name c u) k x) (by_change one_less (ap (λ x. with_children x parent) (omega (arith, m, q))) u)
          ∙ ap (λ x. cond (same_name c u) x (cond (same_name p u) (option_map one_less (kin before.tasks u)) (kin before.tasks u))) e

      pub drops_room : KeepsRoom before (record { tasks = zip names new; room = room })
      drops_room = subst (λ x. KeepsRoom x (record { tasks = zip names new; room = room })) v
          (two_rooms names old new f.distinct f.slots_len at (node nodes at).owner within owner_in k children s room)

      pub adds_names : HasSameNames before.tasks (zip names new)
      adds_names = subst (λ x. HasSameNames x.tasks (zip names new)) v (same_names names old new f.slots_len (s.len ∙ f.slots_len))

      pub adds_fits : (after : Nodes) → k ≡ Some fresh → children ≡ suc n → parent.children ≡ n → SetsPending nodes at true after → Fits names new after
      adds_fits after e m q sets =
          fits_standing names old new nodes after f at (node nodes at).owner n k children child_place s true (ap is_some e) (ap is_pending e) (ap children_of e)
          (ap children_of (next_is_absent q)) parent (owner_kin ∙ is_parent)
          (record { one = grind (arith, nat_tests, m); others = λ x d. other x d }) (omega (arith, m, in_places)) sets
        where
          other : (x : ℕ) → x ≢ n → nat_lt x children ≡ nat_lt x parent.children
          other x d = by (nat_lt x n) refl
            where
              by : (b : Bool) → nat_lt x n ≡ b → nat_lt x children ≡ nat_lt x parent.children
              by true h = grind (arith, nat_tests, m, q)
              by false h = let more : n < x = over (nat_lt n x) refl in grind (arith, nat_tests, m, q)
                where
                  over : (b : Bool) → nat_lt n x ≡ b → n < x
                  over true g = grind (arith, nat_tests)
                  over false g = absurd (d (grind (arith, nat_tests)))

      pub drops_fits : (after : Nodes) → k ≡ None → children ≡ n → parent.children ≡ suc n → kin before.tasks c ≡ Some fresh → SetsPending nodes at false after → Fits names new after
      drops_fits after e m q h sets =
          fits_standing names old new nodes after f at (node nodes at).owner n k children child_place s false (ap is_some e) (ap is_pending e) (ap children_of e)
          (ap children_of (child_kin ∙ h)) parent (owner_kin ∙ is_parent)
          (record { one = grind (arith, nat_tests, m); others = λ x d. other x d }) (omega (arith, m, in_places)) sets
        where
          other : (x : ℕ) → x ≢ n → nat_lt x children ≡ nat_lt x parent.children
          other x d = by (nat_lt x n) refl
            where
              by : (b : Bool) → nat_lt x n ≡ b → nat_lt x children ≡ nat_lt x parent.children
              by true h = grind (arith, nat_tests, m, q)
              by false h = let more : n < x = over (nat_lt n x) refl in grind (arith, nat_tests, m, q)
                where
                  over : (b : Bool) → nat_lt n x ≡ b → n < x
                  over true g = grind (arith, nat_tests)
                  over false g = absurd (d (grind (arith, nat_tests)))

pub unknown_slot : (tasks : Tasks) (t : Name) → slot tasks t ≡ None → is_known tasks t ≡ true → ⊥
unknown_slot tasks t e h = false≢true (sym (ap is_some e) ∙ h)

-- ---- an index for a name that was never there

get_or-front : {A : Type 0} (xs : List A) (y d : A) (i : ℕ) → i < length xs → get_or (xs ++ y ∷ []) i d ≡ get_or xs i d
get_or-front [] y d i w = absurd (omega (arith, w))
get_or-front (x ∷ xs) y d zero w = refl
get_or-front (x ∷ xs) y d (suc i) w = get_or-front xs y d i (omega (arith, w))

get_or-last : {A : Type 0} (xs : List A) (y d : A) (i : ℕ) → i ≡ length xs → get_or (xs ++ y ∷ []) i d ≡ y
get_or-last [] y d i e = ap (λ j. get_or (y ∷ []) j d) e
get_or-last (x ∷ xs) y d zero e = absurd (omega (arith, e))
get_or-last (x ∷ xs) y d (suc i) e = get_or-last xs y d i (omega (arith, e))

pub length-push : {A : Type 0} (xs : List A) (y : A) → length (xs ++ y ∷ []) ≡ length xs + 1
length-push xs y = length-append xs (y ∷ [])

module _ (names : List Name) (old : List Slot) (nodes : Nodes) (f : Fits names old nodes) (p c : Name) (owner : ℕ) (within : owner < length names) (named : key names owner ≡ p)
    (unknown : slot (zip names old) c ≡ None) (parent : Kin) (is_parent : (slot_at old owner).kin ≡ Some parent) (child : c ≡ suc parent.children ∷ p) where
  -- no index has the child's name
  nowhere : (i : ℕ) → i < length names → key names i ≡ c → ⊥
  nowhere i w e = let is : Some (slot_at old i) ≡ None = sym (slot_of_key c names old i f.distinct f.slots_len w e) ∙ unknown in cc

  -- so the parent's children are those that are there
  all_stand : parent.children ≡ length (node nodes owner).places
  all_stand = by (nat_lt parent.children (length (node nodes owner).places)) refl
    where
      le : parent.children ≤ length (node nodes owner).places
      le = omega (arith, f.enough owner, ap children_of is_parent)

      found : (o : Option ℕ) → slice_get (node nodes owner).places parent.children ≡ o → parent.children < length (node nodes owner).places → ⊥
      found None e l = past (node nodes owner).places parent.children l e
        where
          past : (xs : List ℕ) (k : ℕ) → k < length xs → slice_get xs k ≡ None → ⊥
          past [] k l e = omega (arith, l)
          past (x ∷ xs) zero l e = cc
          past (x ∷ xs) (suc k) l e = past xs k (omega (arith, l)) e
      found (Some i) e l =
          nowhere i (omega (arith, f.linked.within owner parent.children i e, f.nodes_len)) (f.child owner parent.children i e ∙ ap (λ x. suc parent.children ∷ x) named ∙ sym child)

      by : (b : Bool) → nat_lt parent.children (length (node nodes owner).places) ≡ b → parent.children ≡ length (node nodes owner).places
      by true e = absurd (found (slice_get (node nodes owner).places parent.children) refl (grind (arith, nat_tests)))
      by false e = let ge : length (node nodes owner).places ≤ parent.children = grind (arith, nat_tests) in omega (arith, ge, le)

  pub next_number : (number : ℕ) → number ≡ suc parent.children → number ≡ suc (length (node nodes owner).places)
  next_number number e = e ∙ ap suc all_stand

  module _ (mid : List Slot) (after : Nodes) (room : ℕ) (m : ChangesSlot old owner (record (slot_at old owner) { child_room = room - 1 }) mid) (was_room : room ≡ (slot_at old owner).child_room)
      (a : AddsNode nodes owner after) where
    abbrev names' : List Name
    names' = names ++ c ∷ []

    abbrev new : List Slot
    new = mid ++ blank ∷ []

    mid_len : length mid ≡ length names
    mid_len = m.len ∙ f.slots_len

    key_front : (i : ℕ) → i < length names → key names' i ≡ key names i
    key_front i w = get_or-front names c [] i w

    slot_front : (i : ℕ) → i < length names → slot_at new i ≡ slot_at mid i
    slot_front i w = get_or-front mid blank blank i (omega (arith, w, mid_len))

    slot_last : slot_at new (length names) ≡ blank
    slot_last = get_or-last mid blank blank (length names) (sym mid_len)

    -- a row is as before, but for the capacity of the owner's
    kin_mid : (i : ℕ) → (slot_at mid i).kin ≡ (slot_at old i).kin
    kin_mid i = by (i == owner) refl
      where
        by : (b : Bool) → (i == owner) ≡ b → (slot_at mid i).kin ≡ (slot_at old i).kin
        by true e = let is = eqb-true i owner e in ap (λ x. (slot_at mid x).kin) is ∙ ap (λ s. s.kin) m.here ∙ ap (λ x. (slot_at old x).kin) (sym is)
        by false e = ap (λ s. s.kin) (m.others i (λ y. false≢true (sym e ∙ eq-eqb i owner y)))

    kin_front : (i : ℕ) → i < length names → (slot_at new i).kin ≡ (slot_at old i).kin
    kin_front i w = ap (λ s. s.kin) (slot_front i w) ∙ kin_mid i

    -- the rows past the end are blank
    kin_past : (i : ℕ) → length names ≤ i → (slot_at new i).kin ≡ None
    kin_past i l = by (i == length names) refl
      where
        by : (b : Bool) → (i == length names) ≡ b → (slot_at new i).kin ≡ None
        by true e = ap (λ x. (slot_at new x).kin) (eqb-true i (length names) e) ∙ ap (λ s. s.kin) slot_last
        by false e =
            let apart : i ≢ length names = λ y. false≢true (sym e ∙ eq-eqb i (length names) y) in
            ap (λ s. s.kin) (get_or-eq_default new blank (far i l apart))
          where
            far : (i : ℕ) → length names ≤ i → i ≢ length names → length new ≤ i
            far i l d = over (nat_lt (length names) i) refl
              where
                over : (b : Bool) → nat_lt (length names) i ≡ b → length new ≤ i
                over true g = let more : length names < i = grind (arith, nat_tests) in omega (arith, more, length-push mid blank, mid_len)
                over false g = let le : i ≤ length names = grind (arith, nat_tests) in absurd (d (omega (arith, le, l)))

    within_by : (i : ℕ) → (b : Bool) → nat_lt i (length names) ≡ b → (i < length names) ⊎ (length names ≤ i)
    within_by i true e = inl (grind (arith, nat_tests))
    within_by i false e = inr (grind (arith, nat_tests))

    owner_node : owner < length nodes
    owner_node = omega (arith, within, f.nodes_len)

    abbrev PlaceOf : ℕ → ℕ → ℕ → Type 0
    PlaceOf j k i = IsPlace nodes j k i ⊎ ((j ≡ owner) × (k ≡ length (node nodes owner).places) × (i ≡ length nodes))

    either : (j k i : ℕ) → IsPlace after j k i → PlaceOf j k i
    either j k i q = place_either nodes after owner f.linked owner_node a j k i q

    parent_in : (j k i : ℕ) → IsPlace nodes j k i → j < length names
    parent_in j k i q = omega (arith, f.linked.before j k i q, f.linked.within j k i q, f.nodes_len)

    child_in : (j k i : ℕ) → IsPlace nodes j k i → i < length names
    child_in j k i q = omega (arith, f.linked.within j k i q, f.nodes_len)

    distinct' : (i j : ℕ) → i < length names' → j < length names' → key names' i ≡ key names' j → i ≡ j
    distinct' i j w x e = ⊎_elim
        (λ l. ⊎_elim (λ r. f.distinct i j l r (sym (key_front i l) ∙ e ∙ key_front j r))
        (λ r. absurd (nowhere i l (sym (key_front i l) ∙ e ∙ get_or-last names c [] j (last j x r)))) (within_by j (nat_lt j (length names)) refl))
        (λ l. ⊎_elim (λ r. absurd (nowhere j r (sym (key_front j r) ∙ sym e ∙ get_or-last names c [] i (last i w l))))
        (λ r. omega (arith, last i w l, last j x r)) (within_by j (nat_lt j (length names)) refl))
        (within_by i (nat_lt i (length names)) refl)
      where
        last : (i : ℕ) → i < length names' → length names ≤ i → i ≡ length names
        last i w l = omega (arith, w, l, length-push names c)

    node_kept : (P : ℕ → Type 0) → ((i : ℕ) → i < length names → i ≢ owner → P i) → P owner → P (length names) → ((i : ℕ) → length names < i → P i) → (i : ℕ) → P i
    node_kept P front own last past i = by (i == owner) refl (i == length names) refl (nat_lt i (length names)) refl
      where
        by : (x : Bool) → (i == owner) ≡ x → (y : Bool) → (i == length names) ≡ y → (z : Bool) → nat_lt i (length names) ≡ z → P i
        by true e y g z h = subst P (sym (eqb-true i owner e)) own
        by false e true g z h = subst P (sym (eqb-true i (length names) g)) last
        by false e false g true h = front i (grind (arith, nat_tests)) (λ y. false≢true (sym e ∙ eq-eqb i owner y))
        by false e false g false h = past i (grind (arith, nat_tests))

    node_last : node after (length names) ≡ leaf owner (suc (length (node nodes owner).places))
    node_last = ap (node after) (sym f.nodes_len) ∙ a.here

    node_past : (i : ℕ) → length names < i → node after i ≡ leaf 0 0
    node_past i w = get_or-eq_default after (leaf 0 0) (omega (arith, w, a.len, f.nodes_len))

    node_front : (i : ℕ) → i < length names → i ≢ owner → node after i ≡ node nodes i
    node_front i w d = a.others i (λ y. absurd (omega (arith, w, y, f.nodes_len))) d

    pub fits_pushed : 0 < room → Fits names' new after
    fits_pushed some = record {
      slots_len = length-push mid blank ∙ ap (λ x. x + 1) mid_len ∙ sym (length-push names c);
      nodes_len = a.len ∙ ap (λ x. x + 1) f.nodes_len ∙ sym (length-push names c);
      linked = add_linked nodes after owner f.linked owner_node a;
      root = key_front 0 (omega (arith, within)) ∙ f.root;
      child = λ j k i q. ⊎_elim
          (λ o. key_front i (child_in j k i o) ∙ f.child j k i o ∙ ap (λ x. suc k ∷ x) (sym (key_front j (parent_in j k i o))))
          (λ o. get_or-last names c [] i (o.2 ∙ f.nodes_len) ∙ child ∙ ap₂ (λ x y. suc x ∷ y) (all_stand ∙ sym o.1) (sym named ∙ sym (key_front owner within) ∙ ap (key names') (sym o.0)))
          (either j k i q);
      distinct = distinct';
      pending = node_kept (λ i. (node after i).pending ≡ is_pending (slot_at new i).kin)
          (λ i w d. ap (λ n. n.pending) (node_front i w d) ∙ f.pending i ∙ ap is_pending (sym (kin_front i w)))
          (ap (λ n. n.pending) a.above ∙ f.pending owner ∙ ap is_pending (sym (kin_front owner within)))
          (ap (λ n. n.pending) node_last ∙ ap is_pending (sym (kin_past (length names) (omega arith))))
          (λ i w. ap (λ n. n.pending) (node_past i w) ∙ ap is_pending (sym (kin_past i (omega (arith, w)))));
      standing = λ j k i q. ⊎_elim
          (λ o. ap is_some (kin_front i (child_in j k i o)) ∙ f.standing j k i o ∙ ap (λ x. nat_lt k (children_of x)) (sym (kin_front j (parent_in j k i o))))
          (λ o. ap is_some (kin_past i (omega (arith, o.2, f.nodes_len))) ∙ not_below k (o.1 ∙ sym all_stand)
          ∙ ap (nat_lt k) (sym (ap (λ x. children_of (slot_at new x).kin) o.0 ∙ ap children_of (kin_front owner within ∙ is_parent))))
          (either j k i q);
      enough = node_kept (λ j. children_of (slot_at new j).kin ≤ length (node after j).places)
          (λ j w d. omega (arith, ap children_of (kin_front j w), f.enough j, ap (λ n. length n.places) (node_front j w d)))
          (omega (arith, ap children_of (kin_front owner within), f.enough owner, ap (λ n. length n.places) a.above, length-push (node nodes owner).places (length nodes)))
          (omega (arith, ap children_of (kin_past (length names) (omega arith))))
          (λ j w. omega (arith, ap children_of (kin_past j (omega (arith, w)))));
      rooms = node_kept (λ i. (slot_at new i).child_room ≤ (node after i).room)
          (λ i w d. omega (arith, ap (λ s. s.child_room) (slot_front i w ∙ m.others i d), f.rooms i, ap (λ n. n.room) (node_front i w d)))
          (omega (arith, ap (λ s. s.child_room) (slot_front owner within ∙ m.here), f.rooms owner, ap (λ n. n.room) a.above, was_room, some))
          (omega (arith, ap (λ s. s.child_room) slot_last))
          (λ i w. let far : length new ≤ i = omega (arith, w, length-push mid blank, mid_len) in omega (arith, ap (λ s. s.child_room) (get_or-eq_default new blank far)));
    }
      where
        not_below : (k : ℕ) → k ≡ parent.children → false ≡ nat_lt k parent.children
        not_below k e = grind (arith, nat_tests, e)

    -- what is stored of each task is as before
    pub pushed_kin : (u : Name) → kin (zip names' new) u ≡ kin (zip names old) u
    pushed_kin u = by (slot (zip names old) u) refl
      where
        len' : length new ≡ length names'
        len' = length-push mid blank ∙ ap (λ x. x + 1) mid_len ∙ sym (length-push names c)

        by : (o : Option Slot) → slot (zip names old) u ≡ o → kin (zip names' new) u ≡ kin (zip names old) u
        by (Some s) e =
            let is = key_of_slot u names old s e in
            ap kin_in (slot_of_key u names' new is.index distinct' len' (omega (arith, is.within, length-push names c)) (key_front is.index is.within ∙ is.named))
            ∙ kin_front is.index is.within ∙ sym (ap kin_in (slot_of_key u names old is.index f.distinct f.slots_len is.within is.named))
        by None e = now (slot (zip names' new) u) refl ∙ sym (ap kin_in e)
          where
            now : (o : Option Slot) → slot (zip names' new) u ≡ o → kin (zip names' new) u ≡ None
            now None g = ap kin_in g
            now (Some r) g =
                let is = key_of_slot u names' new r g in
                ⊎_elim
                (λ w. let clash : Some (slot_at old is.index) ≡ None = sym (slot_of_key u names old is.index f.distinct f.slots_len w (sym (key_front is.index w) ∙ is.named)) ∙ e in absurd cc)
                (λ l. ap kin_in g ∙ sym (ap (λ s. s.kin) is.holds) ∙ kin_past is.index l)
                (within_by is.index (nat_lt is.index (length names)) refl)

    pub pushed_key : key names' (length names) ≡ c
    pushed_key = get_or-last names c [] (length names) refl

-- a name that isn't there goes last
pub inserted : (names after : List Name) (c : Name) → list_any (same_name c) names ≡ false → after ≡ cond (list_any (same_name c) names) names (names ++ c ∷ []) → after ≡ names ++ c ∷ []
inserted names after c h e = e ∙ ap (λ b. cond b names (names ++ c ∷ [])) h

pub none_known : (names : List Name) (slots : List Slot) (c : Name) → length slots ≡ length names → slot (zip names slots) c ≡ None → list_any (same_name c) names ≡ false
none_known names slots c l e = known_any c names slots l ∙ ap is_some e

-- a table with the same tasks comes to be as the other
pub adds_after : (a b d : Tasks) (p c : Name) → IsSame a b → Adds b p c d → Adds a p c d
adds_after a b d p c s h u = h u ∙ ap (λ k. cond (same_name c u) (Some fresh) (cond (same_name p u) (option_map one_more k) k)) (s u)

pub all_ok : {X E : Type 0} (P : Type 0) (r : Result X E) → IfOk r (λ _. P) → OnOk r P
all_ok P (Ok x) h = h
all_ok P (Err e) h = tt

module _ (before : Table) (names : List Name) (old : List Slot) (nodes : Nodes) (room : ℕ) (v : record { tasks = zip names old; room = room } ≡ before) (f : Fits names old nodes) where
  pub same_before : (after : Tasks) → IsSame (zip names old) after → IsSame before.tasks after
  same_before after s = subst (λ b. IsSame b.tasks after) v s

  -- a name that isn't there comes last
  pub names_more : (more : List Name) (slots : List Slot) (c : Name) → length slots ≡ length more → more ≡ names ++ c ∷ [] → is_known before.tasks c ≡ false → keys_of (zip more slots) ≡ names_with before.tasks c
  names_more more slots c l e unknown =
      keys_of-zip more slots l ∙ e ∙ ap (λ ks. ks ++ c ∷ []) (sym (keys_of-zip names old f.slots_len) ∙ ap (λ (b : Table). keys_of b.tasks) v)
      ∙ sym (ap (λ b. cond b (keys_of before.tasks) (keys_of before.tasks ++ c ∷ [])) unknown)

  pub next_here : (p c : Name) (owner : ℕ) → Some owner ≡ position (same_name p) names → IsNext before.tasks p c → (k : Kin) × ((slot_at old owner).kin ≡ Some k) × (c ≡ suc k.children ∷ key names owner)
  next_here p c owner e n =
      (n.0, sym (ap kin_in (here_slot before names old nodes room v f p owner e)) ∙ n.1, n.2 ∙ ap (λ t. suc n.0.children ∷ t) (sym (at_key p names owner e).1))

-- ---- what a task that is there says of its children

pub kin_from_children : (o : Option Kin) (n : ℕ) → Some n ≡ option_map (λ (k : Kin). k.children) o → (k : Kin) × (o ≡ Some k) × (k.children ≡ n)
kin_from_children None n e = cc
kin_from_children (Some k) n e = (k, refl, cc)

-- the child after the last is the next
pub next_from_children : (tasks : Tasks) (p c : Name) (n : ℕ) → Some n ≡ option_map (λ (k : Kin). k.children) (kin tasks p) → c ≡ (n + 1) ∷ p → IsNext tasks p c
next_from_children tasks p c n e h =
    let k = kin_from_children (kin tasks p) n e in
    let number : n + 1 ≡ suc k.0.children = omega (arith, k.2) in
    (k.0, k.1, h ∙ ap (λ m. m ∷ p) number)

-- a task of which nothing is retained is a fresh one
pub fresh_is : (o : Option Kin) → is_fresh o ≡ true → o ≡ Some fresh
fresh_is None e = cc
fresh_is (Some k) e = by k.over (k.children == 0) refl k.groups k.shut e
  where
    by : (a b : Bool) → (k.children == 0) ≡ b → (gs ss : List ℕ) → ((not a && b) && (is_none gs && is_none ss)) ≡ true
        → Some (record { over = a; children = k.children; groups = gs; shut = ss }) ≡ Some fresh
    by false true z [] [] g = ap (λ n. Some (record { over = false; children = n; groups = []; shut = [] })) (eqb-true k.children 0 z)
    by true b z gs ss g = cc
    by false false z gs ss g = cc
    by false true z (x ∷ gs) ss g = cc
    by false true z [] (x ∷ ss) g = cc

pub last_from_children : (tasks : Tasks) (p c : Name) (n : ℕ) → Some n ≡ option_map (λ (k : Kin). k.children) (kin tasks p) → n ≢ 0 → c ≡ n ∷ p → is_fresh (kin tasks c) ≡ true → IsLast tasks p c
last_from_children tasks p c n e z h g =
    let k = kin_from_children (kin tasks p) n e in
    let pos : 0 < n = by n refl z in
    let number : suc (n - 1) ≡ n = omega (arith, pos) in
    (k.0, n - 1, k.1, omega (arith, k.2, number), h ∙ ap (λ m. m ∷ p) (sym number), fresh_is (kin tasks c) g)
  where
    by : (m : ℕ) → n ≡ m → (n ≢ 0) → 0 < n
    by zero e z = absurd (z e)
    by (suc m) e z = omega (arith, e)

-- ---- whether a child was ever generated, by its ordinal

module _ (before : Table) (names : List Name) (old : List Slot) (nodes : Nodes) (room : ℕ) (v : record { tasks = zip names old; room = room } ≡ before) (f : Fits names old nodes)
    (p c : Name) (owner n : ℕ) (within : owner < length names) (named : key names owner ≡ p) (child : c ≡ n ∷ p) where
  abbrev HasPlace : ℕ → Type 0
  HasPlace m = (0 < m) × (m ≤ length (node nodes owner).places)

  -- the child at an index is known
  placed : (k : ℕ) → n ≡ suc k → HasPlace n → is_some (slot (zip names old) c) ≡ true
  placed k e h =
      let places = (node nodes owner).places in
      let i = get_or places k 0 in
      let less : k < length places = omega (arith, e, h.1) in
      let place : IsPlace nodes owner k i = slice_get-get_or places k 0 less in
      let there : i < length names = omega (arith, f.linked.within owner k i place, f.nodes_len) in
      let name : key names i ≡ c = f.child owner k i place ∙ ap₂ (λ m q. m ∷ q) (sym e) named ∙ sym child in
      ap is_some (slot_of_key c names old i f.distinct f.slots_len there name)

  -- and one that is known has its index
  has_place : (s : Slot) → slot (zip names old) c ≡ Some s → HasPlace n
  has_place s e = by (key_of_slot c names old s e) n refl
    where
      by : (is : IsAt c names old s) (m : ℕ) → n ≡ m → HasPlace n
      by is zero z =
          let clash : c ≡ 0 ∷ p = child ∙ ap (λ m. m ∷ p) z in
          let up = f.linked.up is.index (root_not is.index refl) (omega (arith, is.within, f.nodes_len)) in
          absurd (no_zero up.0 (sym (f.child (node nodes is.index).owner up.0 is.index up.2) ∙ is.named ∙ clash))
        where
          no_zero : (k : ℕ) {q : Name} → suc k ∷ q ≡ 0 ∷ p → ⊥
          no_zero k h = cc

          root_not : (i : ℕ) → is.index ≡ i → 0 < is.index
          root_not zero h = let no : n ∷ p ≡ [] = sym child ∙ sym is.named ∙ ap (key names) h ∙ f.root in cc
          root_not (suc i) h = omega (arith, h)
      by is (suc k) z =
          let named_child : c ≡ suc k ∷ p = child ∙ ap (λ m. m ∷ p) z in
          let place = child_place before names old nodes room v f p c is.index k is.within is.named named_child in
          let same = f.distinct (node nodes is.index).owner owner (owner_in before names old nodes room v f p c is.index k is.within is.named named_child) within
          (owner_name before names old nodes room v f p c is.index k is.within is.named named_child ∙ sym named) in
          let less = slice_get_within (node nodes owner).places k is.index (subst (λ j. IsPlace nodes j k is.index) same place) in
          (omega (arith, z), omega (arith, z, less))

  pub known_by_place : (b : Bool) → IsTrue b ↔ HasPlace n → b ≡ is_known before.tasks c
  known_by_place b t = subst (λ x. b ≡ is_known x.tasks c) v (by (slot (zip names old) c) refl b refl)
    where
      by : (o : Option Slot) → slot (zip names old) c ≡ o → (d : Bool) → b ≡ d → b ≡ is_known (zip names old) c
      by (Some s) e d q = t.1 (has_place s e) ∙ sym (ap is_some e)
      by None e false q = q ∙ sym (ap is_some e)
      by None e true q = absurd (none n refl (t.0 q))
        where
          none : (m : ℕ) → n ≡ m → HasPlace n → ⊥
          none zero z h = omega (arith, z, h.0)
          none (suc k) z h = false≢true (sym (ap is_some e) ∙ placed k z h)

-- the ordinal of a task's child
pub child_number : (t u : Name) → is_child t u ≡ true → (n : ℕ) × (u ≡ n ∷ t)
child_number t [] h = absurd (false≢true h)
child_number t (n ∷ q) h = (n, ap (λ w. n ∷ w) (same_true q t h))
