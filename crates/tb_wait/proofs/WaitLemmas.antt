-- What a change of one task leaves of the table.
use Rattle.std.proofs.Common.{◌≡◌, ◌≢◌, ℕ, zero, suc, ◌<◌, ◌≤◌, List, [], ◌∷◌, Bool, true, false, not, cond, ◌||◌, ◌==◌, Option, Some, None, is_some, option_map, length, refl, sym, ap, ◌∙◌, subst, arith, eqb-true, eq-eqb, OnOk, OnErr, Ok, Err, Result, nat_lt, slice_get, ap₂}
use Rattle.std.specs.List.{zip, position, list_any}
use Rattle.std.proofs.lemmas.List.Quantifiers.{position-Some}
use Rattle.std.proofs.lemmas.Map.Made.{keys_of-zip}
use Rattle.std.proofs.lemmas.Bool.{false≢true, or_left}
use Rattle.tb_model.specs.Names.{Name, same_name}
use Rattle.tb_model.proofs.TestLemmas.{same_true, same_refl}
use Rattle.tb_wait.specs.Kin.{Kin, Slot, Table, place, slot, kin, kin_in, is_known, Changes, IsSame, KeepsRoom, HasSameNames, HasGroupRoom, HasOpenGroup, HasChildRoom, with_over, with_children, fresh}
use Rattle.tb_wait.specs.Rows.{blank, key, slot_at, is_pending, children_of, groups_of, ChangesSlot, SetsStanding, Fits}
use Rattle.tb_wait.specs.Tree.{Nodes, node, leaf, IsPlace, SameLinks, SetsPending}
use Rattle.tb_wait.proofs.TreeLemmas.{linked_same, root_places, root_tree}
use Rattle.tb_wait.proofs.RowLemmas.{slot_of_key, no_slot, kin_changes, room_changes, no_changes, IsLike, fits_change, slot_changes, same_names}
pub use Rattle.tb_wait.proofs.RowLemmas.{here_slot_of}

-- ---- a name is looked up

some_is : {x y : ℕ} → Some x ≡ Some y → x ≡ y
some_is e = cc

pub at_key : (t : Name) (names : List Name) (i : ℕ) → Some i ≡ position (same_name t) names → (i < length names) × (key names i ≡ t)
at_key t names i e =
    let p = position-Some (same_name t) names i [] (sym e) in
    (p.0, sym (same_true t (key names i) p.1))

pub none_any : (t : Name) (names : List Name) → list_any (same_name t) names ≡ false → (i : ℕ) → i < length names → key names i ≡ t → ⊥
none_any t [] h i w e = absurd (omega (arith, w))
none_any t (n ∷ names) h zero w e = false≢true (sym h ∙ or_left (same_name t n) _ (subst (λ x. same_name t x ≡ true) (sym e) (same_refl t)))
none_any t (n ∷ names) h (suc i) w e = none_any t names (rest (same_name t n) _ h) i (omega (arith, w)) e
  where
    rest : (a b : Bool) → (a || b) ≡ false → b ≡ false
    rest true b g = cc
    rest false b g = g

-- ---- rows that count as before

pub like_map : (f : Kin → Kin) → ((k : Kin) → (f k).children ≡ k.children) → (s r : Slot) → r.kin ≡ option_map f s.kin → r.child_room ≡ s.child_room → IsLike s r
like_map f c s r e room = record { stands = ap is_some e ∙ some s.kin; children = ap children_of e ∙ many s.kin; child_room = room }
  where
    some : (o : Option Kin) → is_some (option_map f o) ≡ is_some o
    some None = refl
    some (Some k) = refl

    many : (o : Option Kin) → children_of (option_map f o) ≡ children_of o
    many None = refl
    many (Some k) = c k

pending_map : (f : Kin → Kin) → ((k : Kin) → (f k).over ≡ k.over) → (o : Option Kin) → is_pending (option_map f o) ≡ is_pending o
pending_map f c None = refl
pending_map f c (Some k) = ap not (c k)

links_all : (nodes : Nodes) → SameLinks nodes nodes
links_all nodes = record { len = refl; owner = λ i. refl; number = λ i. refl; places = λ i. refl; room = λ i. refl }

module _ (before : Table) (names : List Name) (old : List Slot) (nodes : Nodes) (room : ℕ) (v : record { tasks = zip names old; room = room } ≡ before) (f : Fits names old nodes) (t : Name) where
  -- its index among all names
  pub here_place : position (same_name t) names ≡ place before.tasks t
  here_place = ap (position (same_name t)) (sym (keys_of-zip names old f.slots_len)) ∙ ap (λ b. place b.tasks t) v

  -- ---- where the task was never generated
  pub absent_slot : false ≡ list_any (same_name t) names → slot before.tasks t ≡ None
  absent_slot h = subst (λ b. slot b.tasks t ≡ None) v (no_slot t names old (none_any t names (sym h)))

  pub absent_changes : (g : Kin → Kin) → false ≡ list_any (same_name t) names → Changes before.tasks t g before.tasks
  absent_changes g h = subst (λ b. Changes b.tasks t g b.tasks) v (no_changes names old t g (no_slot t names old (none_any t names (sym h))))

  -- ---- where it is at this index
  module _ (at : ℕ) (is : Some at ≡ position (same_name t) names) where
    pub here_slot : slot before.tasks t ≡ Some (slot_at old at)
    here_slot = let k = at_key t names at is in subst (λ b. slot b.tasks t ≡ Some (slot_at old at)) v (slot_of_key t names old at f.distinct f.slots_len k.0 k.1)

    pub group_room_here : HasGroupRoom before.tasks t → 0 < (slot_at old at).group_room
    group_room_here h = h (slot_at old at) here_slot

    pub open_here : HasOpenGroup before.tasks t → groups_of (slot_at old at).kin ≢ []
    open_here h e =
        let same : (slot_at old at).kin ≡ Some h.0 = sym (ap kin_in here_slot) ∙ h.1 in
        h.2 (sym (ap groups_of same) ∙ e)

    module _ (new : List Slot) (s : Slot) (c : ChangesSlot old at s new) where
      pub here_changes : (g : Kin → Kin) → s.kin ≡ option_map g (slot_at old at).kin → Changes before.tasks t g (zip names new)
      here_changes g e = let k = at_key t names at is in
          subst (λ b. Changes b.tasks t g (zip names new)) v (kin_changes names old new f.distinct f.slots_len at k.0 s c t g k.1 e)

      pub here_same : s.kin ≡ (slot_at old at).kin → IsSame before.tasks (zip names new)
      here_same e u = let k = at_key t names at is in
          subst (λ b. kin (zip names new) u ≡ kin b.tasks u) v
          (ap kin_in (slot_changes names old new f.distinct f.slots_len at k.0 s c t u k.1) ∙ by k.0 k.1 (same_name t u) refl)
        where
          by : at < length names → key names at ≡ t → (b : Bool) → same_name t u ≡ b → kin_in (cond b (Some s) (slot (zip names old) u)) ≡ kin (zip names old) u
          by w n true h = e ∙ ap kin_in (sym (slot_of_key u names old at f.distinct f.slots_len w (n ∙ same_true t u h)))
          by w n false h = refl

      pub here_room : (slot_at old at).child_room ≤ s.child_room → (slot_at old at).group_room ≤ s.group_room → KeepsRoom before (record { tasks = zip names new; room = room })
      here_room a b = let k = at_key t names at is in
          subst (λ x. KeepsRoom x (record { tasks = zip names new; room = room })) v (room_changes names old new f.distinct f.slots_len at k.0 s c room a b)

      pub here_names : HasSameNames before.tasks (zip names new)
      here_names = subst (λ b. HasSameNames b.tasks (zip names new)) v (same_names names old new f.slots_len (c.len ∙ f.slots_len))

      pub here_group_room : 0 < s.group_room → HasGroupRoom (zip names new) t
      here_group_room h q e =
          let k = at_key t names at is in
          let same : Some s ≡ Some q = sym (ap Some c.here) ∙ sym (slot_of_key t names new at f.distinct (c.len ∙ f.slots_len) k.0 k.1) ∙ e in
          let one : s ≡ q = cc in
          subst (λ x. 0 < x.group_room) one h

      -- the rows fit the nodes as before
      pub here_fits : (g : Kin → Kin) → s.kin ≡ option_map g (slot_at old at).kin → s.child_room ≡ (slot_at old at).child_room
          → ((k : Kin) → (g k).children ≡ k.children) → ((k : Kin) → (g k).over ≡ k.over) → Fits names new nodes
      here_fits g e r many over = fits_change names old new nodes nodes at s f c (like_map g many (slot_at old at) s e r) (links_all nodes) pending
        where
          pending : (i : ℕ) → (node nodes i).pending ≡ is_pending (slot_at new i).kin
          pending i = by (i == at) refl
            where
              by : (b : Bool) → (i == at) ≡ b → (node nodes i).pending ≡ is_pending (slot_at new i).kin
              by true h =
                  let same : slot_at new i ≡ s = ap (slot_at new) (eqb-true i at h) ∙ c.here in
                  f.pending i ∙ ap (λ j. is_pending (slot_at old j).kin) (eqb-true i at h) ∙ sym (pending_map g over (slot_at old at).kin) ∙ sym (ap is_pending e) ∙ ap (λ x. is_pending x.kin) (sym same)
              by false h = f.pending i ∙ ap (λ x. is_pending x.kin) (sym (c.others i (λ y. false≢true (sym h ∙ eq-eqb i at y))))

      pub here_fits_over : (b p : Bool) (after : Nodes) → s.kin ≡ option_map (with_over b) (slot_at old at).kin → s.child_room ≡ (slot_at old at).child_room
          → p ≡ is_pending (slot_at new at).kin → SetsPending nodes at p after → Fits names new after
      here_fits_over b p after e r is_p sets =
          fits_change names old new nodes after at s f c (like_map (with_over b) (λ k. refl) (slot_at old at) s e r) sets.links pending
        where
          pending : (i : ℕ) → (node after i).pending ≡ is_pending (slot_at new i).kin
          pending i = by (i == at) refl
            where
              by : (x : Bool) → (i == at) ≡ x → (node after i).pending ≡ is_pending (slot_at new i).kin
              by true h = subst (λ j. (node after j).pending ≡ is_pending (slot_at new j).kin) (sym (eqb-true i at h)) (sets.set ∙ is_p)
              by false h =
                  let other = λ (y : i ≡ at). false≢true (sym h ∙ eq-eqb i at y) in
                  sets.others i other ∙ f.pending i ∙ ap (λ x. is_pending x.kin) (sym (c.others i other))

pub on_ok_from : {X E : Type 0} {P Q : Type 0} (r : Result X E) → (P → Q) → OnOk r P → OnOk r Q
on_ok_from (Ok x) f h = f h
on_ok_from (Err e) f h = tt

pub on_err_from : {X E : Type 0} {P Q : Type 0} (r : Result X E) → (P → Q) → OnErr r P → OnErr r Q
on_err_from (Ok x) f h = tt
on_err_from (Err e) f h = f h

-- what follows from either, follows
pub on_either : {X E : Type 0} {P Q R : Type 0} (r : Result X E) → OnOk r P → OnErr r Q → (P → R) → (Q → R) → R
on_either (Ok x) p q f g = f p
on_either (Err e) p q f g = g q

pub kin_same : (o : Option Kin) → option_map (λ k. k) o ≡ o
kin_same None = refl
kin_same (Some k) = refl

-- ---- a task that comes to be, or is no longer there

-- the count of children changes by the one child with this index alone
pub record CountsOne (place before after : ℕ) (stands : Bool) : Type 0 where
  pub one : nat_lt place after ≡ stands
  pub others : (k : ℕ) → k ≢ place → nat_lt k after ≡ nat_lt k before

module _ (names : List Name) (old new : List Slot) (nodes after : Nodes) (f : Fits names old nodes) (at owner place : ℕ) (k : Option Kin) (children : ℕ)
    (is_place : IsPlace nodes owner place at) (c : SetsStanding old at owner k children new) where
  owner_not_at : owner ≢ at
  owner_not_at e = let b = f.linked.before owner place at is_place in omega (arith, e)

  -- what each row has become
  row_else : (P : Slot → Slot → Type 0) (i : ℕ) → (i ≡ at → P (slot_at old at) (slot_at new at)) → (i ≡ owner → P (slot_at old owner) (slot_at new owner))
      → ((s : Slot) → P s s) → P (slot_at old i) (slot_at new i)
  row_else P i here above same = by (i == at) refl (i == owner) refl
    where
      by : (a : Bool) → (i == at) ≡ a → (b : Bool) → (i == owner) ≡ b → P (slot_at old i) (slot_at new i)
      by true e b g = let is : i ≡ at = eqb-true i at e in subst (λ j. P (slot_at old j) (slot_at new j)) (sym is) (here is)
      by false e true g = let is : i ≡ owner = eqb-true i owner g in subst (λ j. P (slot_at old j) (slot_at new j)) (sym is) (above is)
      by false e false g =
          subst (P (slot_at old i)) (sym (c.others i (λ y. false≢true (sym e ∙ eq-eqb i at y)) (λ y. false≢true (sym g ∙ eq-eqb i owner y)))) (same (slot_at old i))

  module _ (stands : Bool) (is_stands : is_some k ≡ stands) (pending_k : is_pending k ≡ stands) (no_children : children_of k ≡ 0) (had_none : children_of (slot_at old at).kin ≡ 0)
      (parent : Kin) (is_parent : (slot_at old owner).kin ≡ Some parent) (counts : CountsOne place parent.children children stands)
      (within : children ≤ length (node nodes owner).places) (sets : SetsPending nodes at stands after) where
    now_children : children_of (slot_at new owner).kin ≡ children
    now_children = ap (λ s. children_of s.kin) c.above ∙ ap (λ o. children_of (option_map (with_children children) o)) is_parent

    place_back' : (j n i : ℕ) → IsPlace after j n i → IsPlace nodes j n i
    place_back' j n i p = sym (ap (λ ps. slice_get ps n) (sets.links.places j)) ∙ p

    here_children : children_of (slot_at new at).kin ≡ children_of (slot_at old at).kin
    here_children = ap (λ s. children_of s.kin) c.here ∙ no_children ∙ sym had_none

    standing_of : (j n i : ℕ) → IsPlace nodes j n i → is_some (slot_at new i).kin ≡ nat_lt n (children_of (slot_at new j).kin)
    standing_of j n i p = by (i == at) refl
      where
        -- the count of the row above, where it isn't the owner's, is as before
        by_row : i ≢ at → nat_lt n (children_of (slot_at old j).kin) ≡ nat_lt n (children_of (slot_at new j).kin)
        by_row ne = row_else (λ s r. nat_lt n (children_of s.kin) ≡ nat_lt n (children_of r.kin)) j
            (λ e. ap (nat_lt n) (sym here_children))
            (λ e.
            let apart : n ≢ place = λ q. ne (some_is (sym p ∙ ap₂ (λ x y. slice_get (node nodes x).places y) e q ∙ is_place)) in
            ap (nat_lt n) (ap children_of is_parent) ∙ sym (counts.others n apart) ∙ ap (nat_lt n) (sym now_children))
            (λ s. refl)

        stays : i ≢ at → is_some (slot_at new i).kin ≡ is_some (slot_at old i).kin
        stays ne = row_else (λ s r. is_some r.kin ≡ is_some s.kin) i (λ e. absurd (ne e))
            (λ e. ap (λ s. is_some s.kin) c.above ∙ ap (λ o. is_some (option_map (with_children children) o)) is_parent ∙ sym (ap is_some is_parent))
            (λ s. refl)

        by : (b : Bool) → (i == at) ≡ b → is_some (slot_at new i).kin ≡ nat_lt n (children_of (slot_at new j).kin)
        by true e =
            let is : i ≡ at = eqb-true i at e in
            let own : j ≡ owner = sym (f.linked.owner j n i p) ∙ ap (λ x. (node nodes x).owner) is ∙ f.linked.owner owner place at is_place in
            let nth : suc n ≡ suc place = sym (f.linked.number j n i p) ∙ ap (λ x. (node nodes x).number) is ∙ f.linked.number owner place at is_place in
            let same : n ≡ place = omega (arith, nth) in
            ap (λ x. is_some (slot_at new x).kin) is ∙ ap (λ s. is_some s.kin) c.here ∙ is_stands ∙ sym counts.one
            ∙ ap₂ (λ x y. nat_lt x y) (sym same) (sym now_children) ∙ ap (λ x. nat_lt n (children_of (slot_at new x).kin)) (sym own)
        by false e =
            let ne = λ (y : i ≡ at). false≢true (sym e ∙ eq-eqb i at y) in
            stays ne ∙ f.standing j n i p ∙ by_row ne

    pub fits_standing : Fits names new after
    fits_standing = record {
      slots_len = c.len ∙ f.slots_len;
      nodes_len = sets.links.len ∙ f.nodes_len;
      linked = linked_same nodes after sets.links f.linked;
      root = f.root;
      child = λ j n i p. f.child j n i (place_back' j n i p);
      distinct = f.distinct;
      pending = pending;
      standing = λ j n i p. standing_of j n i (place_back' j n i p);
      enough = λ j. omega (arith, enough j, ap length (sets.links.places j));
      rooms = λ i. omega (arith, rooms i, f.rooms i, sets.links.room i);
    }
      where
        enough : (j : ℕ) → children_of (slot_at new j).kin ≤ length (node nodes j).places
        enough j = by (j == owner) refl
          where
            by : (b : Bool) → (j == owner) ≡ b → children_of (slot_at new j).kin ≤ length (node nodes j).places
            by true e = subst (λ x. children_of (slot_at new x).kin ≤ length (node nodes x).places) (sym (eqb-true j owner e)) (omega (arith, now_children, within))
            by false e = row_else (λ s r. children_of s.kin ≤ length (node nodes j).places → children_of r.kin ≤ length (node nodes j).places) j
                (λ y h. omega (arith, h, here_children)) (λ y. absurd (false≢true (sym e ∙ eq-eqb j owner y))) (λ s h. h) (f.enough j)

        rooms : (i : ℕ) → (slot_at new i).child_room ≤ (slot_at old i).child_room
        rooms i = row_else (λ s r. r.child_room ≤ s.child_room) i (λ e. omega (arith, ap (λ s. s.child_room) c.here)) (λ e. omega (arith, ap (λ s. s.child_room) c.above)) (λ s. omega arith)

        pending : (i : ℕ) → (node after i).pending ≡ is_pending (slot_at new i).kin
        pending i = by (i == at) refl
          where
            by : (b : Bool) → (i == at) ≡ b → (node after i).pending ≡ is_pending (slot_at new i).kin
            by true e =
                let is : i ≡ at = eqb-true i at e in
                subst (λ j. (node after j).pending ≡ is_pending (slot_at new j).kin) (sym is) (sets.set ∙ sym pending_k ∙ sym (ap (λ s. is_pending s.kin) c.here))
            by false e =
                let ne = λ (y : i ≡ at). false≢true (sym e ∙ eq-eqb i at y) in
                sets.others i ne ∙ f.pending i ∙ row_else (λ s r. is_pending s.kin ≡ is_pending r.kin) i (λ y. absurd (ne y))
                (λ y. ap is_pending is_parent ∙ sym (ap (λ s. is_pending s.kin) c.above ∙ ap (λ o. is_pending (option_map (with_children children) o)) is_parent))
                (λ s. refl)

-- ---- the root alone, and what is known

pub known_any : (t : Name) (names : List Name) (slots : List Slot) → length slots ≡ length names → list_any (same_name t) names ≡ is_known (zip names slots) t
known_any t [] slots l = refl
known_any t (n ∷ names) [] l = absurd (omega (arith, l))
known_any t (n ∷ names) (s ∷ slots) l = by (same_name t n) (known_any t names slots (omega (arith, l)))
  where
    by : (b : Bool) → list_any (same_name t) names ≡ is_known (zip names slots) t → (b || list_any (same_name t) names) ≡ is_some (cond b (Some s) (slot (zip names slots) t))
    by true h = refl
    by false h = h

pub fits_root : Fits ([] ∷ []) (record blank { kin = Some fresh } ∷ []) (record (leaf 0 0) { pending = true } ∷ [])
fits_root = record {
  slots_len = refl;
  nodes_len = refl;
  linked = root_tree.linked;
  root = refl;
  child = λ j k i p. absurd (root_places j k i p);
  distinct = λ i j a b e. omega (arith, a, b);
  pending = pending;
  standing = λ j k i p. absurd (root_places j k i p);
  enough = enough;
  rooms = rooms;
}
  where
    pending : (i : ℕ) → (node (record (leaf 0 0) { pending = true } ∷ []) i).pending ≡ is_pending (slot_at (record blank { kin = Some fresh } ∷ []) i).kin
    pending zero = refl
    pending (suc i) = refl

    enough : (j : ℕ) → children_of (slot_at (record blank { kin = Some fresh } ∷ []) j).kin ≤ length (node (record (leaf 0 0) { pending = true } ∷ []) j).places
    enough zero = omega arith
    enough (suc j) = omega arith

    rooms : (i : ℕ) → (slot_at (record blank { kin = Some fresh } ∷ []) i).child_room ≤ (node (record (leaf 0 0) { pending = true } ∷ []) i).room
    rooms zero = omega arith
    rooms (suc i) = omega arith

-- ---- capacity for one more child

module _ (before : Table) (names : List Name) (old : List Slot) (nodes : Nodes) (room : ℕ) (v : record { tasks = zip names old; room = room } ≡ before) (f : Fits names old nodes) (t : Name)
    (at : ℕ) (is : Some at ≡ position (same_name t) names) where
  pub child_room_here : HasChildRoom before.tasks t → 0 < (slot_at old at).child_room
  child_room_here h = h (slot_at old at) (here_slot before names old nodes room v f t at is)

  pub had_child_room : 0 < (slot_at old at).child_room → HasChildRoom before.tasks t
  had_child_room h q e =
      let same : Some (slot_at old at) ≡ Some q = sym (here_slot before names old nodes room v f t at is) ∙ e in
      let one : slot_at old at ≡ q = cc in
      subst (λ x. 0 < x.child_room) one h

  pub has_child_room : (new : List Slot) (s : Slot) → ChangesSlot old at s new → 0 < s.child_room → HasChildRoom (zip names new) t
  has_child_room new s c h q e =
      let k = at_key t names at is in
      let same : Some s ≡ Some q = sym (ap Some c.here) ∙ sym (slot_of_key t names new at f.distinct (c.len ∙ f.slots_len) k.0 k.1) ∙ e in
      let one : s ≡ q = cc in
      subst (λ x. 0 < x.child_room) one h
