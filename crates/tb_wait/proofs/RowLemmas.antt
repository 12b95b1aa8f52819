-- The rows, by index and by name.
use Rattle.std.proofs.Common.{◌≡◌, ◌≢◌, ℕ, zero, suc, ◌<◌, ◌≤◌, List, [], ◌∷◌, Bool, true, false, cond, ◌==◌, nat_lt, Option, Some, None, is_some, option_map, length, slice_get, get_or, refl, sym, ap, ◌∙◌, subst, arith, eqb-true, eq-eqb, ne_eqb, reverse, eqb, ◌++◌, append_assoc}
use Rattle.std.specs.List.{zip}
use Rattle.std.specs.Map.{keys_of}
use Rattle.std.proofs.lemmas.List.{get_or_default, length-reverse, append-nil}
use Rattle.std.proofs.lemmas.Map.Made.{keys_of-zip}
use Rattle.std.proofs.lemmas.Bool.{false≢true}
use Rattle.tb_model.specs.Names.{Name, same_name}
use Rattle.tb_model.proofs.TestLemmas.{same_true, same_refl}
use Rattle.tb_wait.specs.Kin.{Kin, Slot, Tasks, slot, kin, kin_in, is_known, names_with, Changes, KeepsRoom, KeepsNames, HasSameNames, IsRoomIn, with_children, is_none}
use Rattle.tb_wait.specs.Rows.{blank, key, slot_at, is_pending, children_of, ChangesSlot, SetsStanding, Fits}
use Rattle.tb_wait.specs.Tree.{Nodes, node, IsPlace, SameLinks, SameButRoom}
use Rattle.tb_wait.proofs.TreeLemmas.{linked_same, linked_room}

pub shown : (slots : List Slot) (i : ℕ) (s : Slot) → i < length slots → s ≡ get_or slots i s → s ≡ slot_at slots i
shown slots i s l e = e ∙ get_or_default slots i s blank l

-- ---- a name and its index

abbrev AreDistinct : List Name → Type 0
AreDistinct names = (i j : ℕ) → i < length names → j < length names → key names i ≡ key names j → i ≡ j

-- the row of the first index with the name
first_slot : (t : Name) (names : List Name) (slots : List Slot) (i : ℕ) → length slots ≡ length names → i < length names → key names i ≡ t
    → ((k : ℕ) → k < i → same_name t (key names k) ≡ false) → slot (zip names slots) t ≡ Some (slot_at slots i)
first_slot t [] slots i l w e f = absurd (omega (arith, w))
first_slot t (n ∷ names) [] i l w e f = absurd (omega (arith, l))
first_slot t (n ∷ names) (s ∷ slots) zero l w e f =
    ap (λ b. cond b (Some s) (slot (zip names slots) t)) (subst (λ x. same_name t x ≡ true) (sym e) (same_refl t))
first_slot t (n ∷ names) (s ∷ slots) (suc i) l w e f =
    ap (λ b. cond b (Some s) (slot (zip names slots) t)) (f 0 (omega arith))
    ∙ first_slot t names slots i (omega (arith, l)) (omega (arith, w)) e (λ k a. f (suc k) (omega (arith, a)))

pub slot_of_key : (t : Name) (names : List Name) (slots : List Slot) (i : ℕ) → AreDistinct names → length slots ≡ length names → i < length names → key names i ≡ t
    → slot (zip names slots) t ≡ Some (slot_at slots i)
slot_of_key t names slots i d l w e = first_slot t names slots i l w e front
  where
    front : (k : ℕ) → k < i → same_name t (key names k) ≡ false
    front k a = by (same_name t (key names k)) refl
      where
        by : (b : Bool) → same_name t (key names k) ≡ b → same_name t (key names k) ≡ false
        by false h = h
        by true h = let same : i ≡ k = d i k w (omega (arith, a, w)) (e ∙ same_true t (key names k) h) in absurd (omega (arith, same, a))

-- where a name has a row, it is at an index
pub record IsAt (t : Name) (names : List Name) (slots : List Slot) (s : Slot) : Type 0 where
  pub index : ℕ
  pub within : index < length names
  pub named : key names index ≡ t
  pub holds : slot_at slots index ≡ s

pub key_of_slot : (t : Name) (names : List Name) (slots : List Slot) (s : Slot) → slot (zip names slots) t ≡ Some s → IsAt t names slots s
key_of_slot t [] slots s e = cc
key_of_slot t (n ∷ names) [] s e = cc
key_of_slot t (n ∷ names) (r ∷ slots) s e = by (λ f. key_of_slot t names slots s f) (same_name t n) refl
  where
    by : (slot (zip names slots) t ≡ Some s → IsAt t names slots s) → (b : Bool) → same_name t n ≡ b → IsAt t (n ∷ names) (r ∷ slots) s
    by rest true h =
        let here : Some r ≡ Some s = sym (ap (λ b. cond b (Some r) (slot (zip names slots) t)) h) ∙ e in
        record { index = 0; within = omega arith; named = sym (same_true t n h); holds = cc }
    by rest false h =
        let there = rest (sym (ap (λ b. cond b (Some r) (slot (zip names slots) t)) h) ∙ e) in
        record { index = suc there.index; within = omega (arith, there.within); named = there.named; holds = there.holds }

-- a name without an index has no row
pub no_slot : (t : Name) (names : List Name) (slots : List Slot) → ((i : ℕ) → i < length names → key names i ≡ t → ⊥) → slot (zip names slots) t ≡ None
no_slot t names slots f = by (slot (zip names slots) t) refl
  where
    by : (o : Option Slot) → slot (zip names slots) t ≡ o → slot (zip names slots) t ≡ None
    by None e = e
    by (Some s) e = let is = key_of_slot t names slots s e in absurd (f is.index is.within is.named)

-- ---- one row that changes

-- the names are the same where only rows change
pub same_names : (names : List Name) (old new : List Slot) → length old ≡ length names → length new ≡ length names → HasSameNames (zip names old) (zip names new)
same_names names old new l m = keys_of-zip names new m ∙ sym (keys_of-zip names old l)

pub keep_names : (tasks : Tasks) → KeepsNames tasks tasks
keep_names tasks = ([], sym (append-nil (keys_of tasks)))

-- the very names retain their indexes, and so they do where one comes last
pub names_kept : (a b : Tasks) → HasSameNames a b → KeepsNames a b
names_kept a b e = ([], e ∙ sym (append-nil (keys_of a)))

pub names_gained : (a b : Tasks) (c : Name) → keys_of b ≡ names_with a c → KeepsNames a b
names_gained a b c e = by (is_known a c) refl
  where
    by : (x : Bool) → is_known a c ≡ x → KeepsNames a b
    by true h = names_kept a b (e ∙ ap (λ y. cond y (keys_of a) (keys_of a ++ c ∷ [])) h)
    by false h = (c ∷ [], e ∙ ap (λ y. cond y (keys_of a) (keys_of a ++ c ∷ [])) h)

pub names_along : (a b d : Tasks) → KeepsNames a b → KeepsNames b d → KeepsNames a d
names_along a b d x y = (x.0 ++ y.0, y.1 ∙ ap (λ l. l ++ y.0) x.1 ∙ append_assoc (keys_of a) x.0 y.0)

module _ (names : List Name) (old new : List Slot) (d : AreDistinct names) (l : length old ≡ length names) (at : ℕ) (w : at < length names) (s : Slot) (c : ChangesSlot old at s new) where
  pub slot_changes : (t u : Name) → key names at ≡ t → slot (zip names new) u ≡ cond (same_name t u) (Some s) (slot (zip names old) u)
  slot_changes t u e = by (same_name t u) refl
    where
      m : length new ≡ length names
      m = c.len ∙ l

      rest : (same_name t u ≡ false) → (o : Option Slot) → slot (zip names old) u ≡ o → slot (zip names new) u ≡ slot (zip names old) u
      rest h None n =
          no_slot u names new (λ i a k. let is : Some (slot_at old i) ≡ None = sym (slot_of_key u names old i d l a k) ∙ n in cc) ∙ sym n
      rest h (Some r) n =
          let is = key_of_slot u names old r n in
          let other : is.index ≢ at = λ x. false≢true (sym h ∙ subst (λ y. same_name t y ≡ true) (sym e ∙ ap (key names) (sym x) ∙ is.named) (same_refl t)) in
          slot_of_key u names new is.index d m is.within is.named ∙ ap Some (c.others is.index other) ∙ sym (slot_of_key u names old is.index d l is.within is.named)

      by : (b : Bool) → same_name t u ≡ b → slot (zip names new) u ≡ cond b (Some s) (slot (zip names old) u)
      by true h = slot_of_key u names new at d m w (e ∙ same_true t u h) ∙ ap Some c.here
      by false h = rest h (slot (zip names old) u) refl

  pub kin_changes : (t : Name) (f : Kin → Kin) → key names at ≡ t → s.kin ≡ option_map f (slot_at old at).kin → Changes (zip names old) t f (zip names new)
  kin_changes t f e k u =
      ap kin_in (slot_changes t u e) ∙ by (same_name t u) refl
    where
      by : (b : Bool) → same_name t u ≡ b → kin_in (cond b (Some s) (slot (zip names old) u)) ≡ cond b (option_map f (kin (zip names old) u)) (kin (zip names old) u)
      by true h = k ∙ ap (λ o. option_map f (kin_in o)) (sym (slot_of_key u names old at d l w (e ∙ same_true t u h)))
      by false h = refl

  pub room_changes : (r : ℕ) → (slot_at old at).child_room ≤ s.child_room → (slot_at old at).group_room ≤ s.group_room
      → KeepsRoom (record { tasks = zip names old; room = r }) (record { tasks = zip names new; room = r })
  room_changes r a b = record {
    names = same_names names old new l (c.len ∙ l);
    room = omega arith;
    slots = λ t q e. let is = key_of_slot t names old q e in
        subst (IsRoomIn q) (sym (slot_of_key t names new is.index d (c.len ∙ l) is.within is.named)) (by q is.index is.holds (is.index == at) refl);
  }
    where
      by : (q : Slot) (i : ℕ) → slot_at old i ≡ q → (x : Bool) → (i == at) ≡ x → (q.child_room ≤ (slot_at new i).child_room) × (q.group_room ≤ (slot_at new i).group_room)
      by q i e true h =
          let same : slot_at new i ≡ s = ap (slot_at new) (eqb-true i at h) ∙ c.here in
          let was : slot_at old at ≡ q = ap (slot_at old) (sym (eqb-true i at h)) ∙ e in (
            omega (arith, ap (λ z. z.child_room) same, ap (λ z. z.child_room) was, a),
            omega (arith, ap (λ z. z.group_room) same, ap (λ z. z.group_room) was, b),
          )
      by q i e false h =
          let same : slot_at new i ≡ q = c.others i (λ y. false≢true (sym h ∙ eq-eqb i at y)) ∙ e in
          (omega (arith, ap (λ z. z.child_room) same), omega (arith, ap (λ z. z.group_room) same))

-- a name that isn't there changes nothing
pub no_changes : (names : List Name) (slots : List Slot) (t : Name) (f : Kin → Kin) → slot (zip names slots) t ≡ None → Changes (zip names slots) t f (zip names slots)
no_changes names slots t f n u = by (same_name t u) refl
  where
    by : (b : Bool) → same_name t u ≡ b → kin (zip names slots) u ≡ cond b (option_map f (kin (zip names slots) u)) (kin (zip names slots) u)
    by false h = refl
    by true h =
        let none : kin (zip names slots) u ≡ None = subst (λ x. kin (zip names slots) x ≡ None) (same_true t u h) (ap kin_in n) in
        none ∙ sym (ap (option_map f) none)

-- ---- rows and nodes

-- the row counts as many children, and its task is there or not, as before
pub record IsLike (s r : Slot) : Type 0 where
  pub stands : is_some r.kin ≡ is_some s.kin
  pub children : children_of r.kin ≡ children_of s.kin
  pub child_room : r.child_room ≡ s.child_room

pub fits_change : (names : List Name) (old new : List Slot) (nodes after : Nodes) (at : ℕ) (s : Slot) → Fits names old nodes → ChangesSlot old at s new → IsLike (slot_at old at) s
    → SameLinks nodes after → ((i : ℕ) → (node after i).pending ≡ is_pending (slot_at new i).kin) → Fits names new after
fits_change names old new nodes after at s f c k links pending = record {
  slots_len = c.len ∙ f.slots_len;
  nodes_len = links.len ∙ f.nodes_len;
  linked = linked_same nodes after links f.linked;
  root = f.root;
  child = λ j n i p. f.child j n i (back j n i p);
  distinct = f.distinct;
  pending = pending;
  standing = λ j n i p. (like i).stands ∙ f.standing j n i (back j n i p) ∙ ap (nat_lt n) (sym (like j).children);
  enough = λ j. omega (arith, (like j).children, f.enough j, ap length (links.places j));
  rooms = λ i. omega (arith, (like i).child_room, f.rooms i, links.room i);
}
  where
    back : (j n i : ℕ) → IsPlace after j n i → IsPlace nodes j n i
    back j n i p = sym (ap (λ ps. slice_get ps n) (links.places j)) ∙ p

    like : (i : ℕ) → IsLike (slot_at old i) (slot_at new i)
    like i = by (i == at) refl
      where
        by : (b : Bool) → (i == at) ≡ b → IsLike (slot_at old i) (slot_at new i)
        by true h =
            let here : slot_at new i ≡ s = ap (slot_at new) (eqb-true i at h) ∙ c.here in
            let was : slot_at old i ≡ slot_at old at = ap (slot_at old) (eqb-true i at h) in
            subst (λ x. IsLike x (slot_at new i)) (sym was) (subst (IsLike (slot_at old at)) (sym here) k)
        by false h =
            let same : slot_at new i ≡ slot_at old i = c.others i (λ y. false≢true (sym h ∙ eq-eqb i at y)) in
            record { stands = ap (λ z. is_some z.kin) same; children = ap (λ z. children_of z.kin) same; child_room = ap (λ z. z.child_room) same }

-- the row that changed, as it is found there
pub here_slot_of : (old new : List Slot) (at : ℕ) (s : Slot) → ChangesSlot old at s new → ChangesSlot old at (slot_at new at) new
here_slot_of old new at s c = record { len = c.len; here = refl; others = c.others }

-- ---- two rows that change

module _ (names : List Name) (old new : List Slot) (d : AreDistinct names) (l : length old ≡ length names) (at owner : ℕ) (w : at < length names) (o : owner < length names) (k : Option Kin) (n : ℕ) (c : SetsStanding old at owner k n new) where
  two_slots : (u : Name) → slot (zip names new) u ≡ cond (same_name (key names at) u) (Some (slot_at new at)) (cond (same_name (key names owner) u) (Some (slot_at new owner)) (slot (zip names old) u))
  two_slots u = by (same_name (key names at) u) refl (same_name (key names owner) u) refl
    where
      m : length new ≡ length names
      m = c.len ∙ l

      rest : same_name (key names at) u ≡ false → same_name (key names owner) u ≡ false → (q : Option Slot) → slot (zip names old) u ≡ q → slot (zip names new) u ≡ slot (zip names old) u
      rest g h None n =
          no_slot u names new (λ i a k. let is : Some (slot_at old i) ≡ None = sym (slot_of_key u names old i d l a k) ∙ n in cc) ∙ sym n
      rest g h (Some r) n =
          let is = key_of_slot u names old r n in
          let not_at : is.index ≢ at = λ x. false≢true (sym g ∙ subst (λ y. same_name (key names at) y ≡ true) (ap (key names) (sym x) ∙ is.named) (same_refl (key names at))) in
          let not_owner : is.index ≢ owner = λ x. false≢true (sym h ∙ subst (λ y. same_name (key names owner) y ≡ true) (ap (key names) (sym x) ∙ is.named) (same_refl (key names owner))) in
          slot_of_key u names new is.index d m is.within is.named ∙ ap Some (c.others is.index not_at not_owner) ∙ sym (slot_of_key u names old is.index d l is.within is.named)

      by : (a : Bool) → same_name (key names at) u ≡ a → (b : Bool) → same_name (key names owner) u ≡ b
          → slot (zip names new) u ≡ cond a (Some (slot_at new at)) (cond b (Some (slot_at new owner)) (slot (zip names old) u))
      by true g b h = slot_of_key u names new at d m w (same_true (key names at) u g)
      by false g true h = slot_of_key u names new owner d m o (same_true (key names owner) u h)
      by false g false h = rest g h (slot (zip names old) u) refl

  pub two_kins : (u : Name) → kin (zip names new) u ≡ cond (same_name (key names at) u) k (cond (same_name (key names owner) u) (option_map (with_children n) (kin (zip names old) u)) (kin (zip names old) u))
  two_kins u = ap kin_in (two_slots u) ∙ by (same_name (key names at) u) (same_name (key names owner) u) refl
    where
      by : (a b : Bool) → same_name (key names owner) u ≡ b → kin_in (cond a (Some (slot_at new at)) (cond b (Some (slot_at new owner)) (slot (zip names old) u)))
          ≡ cond a k (cond b (option_map (with_children n) (kin (zip names old) u)) (kin (zip names old) u))
      by true b h = ap (λ s. s.kin) c.here
      by false true h = ap (λ s. s.kin) c.above ∙ ap (λ q. option_map (with_children n) (kin_in q)) (sym (slot_of_key u names old owner d l o (same_true (key names owner) u h)))
      by false false h = refl

  pub two_rooms : (r : ℕ) → KeepsRoom (record { tasks = zip names old; room = r }) (record { tasks = zip names new; room = r })
  two_rooms r = record {
    names = same_names names old new l (c.len ∙ l);
    room = omega arith;
    slots = λ t q e. let is = key_of_slot t names old q e in
        subst (IsRoomIn q) (sym (slot_of_key t names new is.index d (c.len ∙ l) is.within is.named)) (by q is.index is.holds (is.index == at) refl (is.index == owner) refl);
  }
    where
      by : (q : Slot) (i : ℕ) → slot_at old i ≡ q → (x : Bool) → (i == at) ≡ x → (y : Bool) → (i == owner) ≡ y → (q.child_room ≤ (slot_at new i).child_room) × (q.group_room ≤ (slot_at new i).group_room)
      by q i e true h y g =
          let is = eqb-true i at h in
          let same = ap (slot_at new) is ∙ c.here in
          let was = ap (slot_at old) (sym is) ∙ e in
          (omega (arith, ap (λ z. z.child_room) same, ap (λ z. z.child_room) was), omega (arith, ap (λ z. z.group_room) same, ap (λ z. z.group_room) was))
      by q i e false h true g =
          let is = eqb-true i owner g in
          let same = ap (slot_at new) is ∙ c.above in
          let was = ap (slot_at old) (sym is) ∙ e in
          (omega (arith, ap (λ z. z.child_room) same, ap (λ z. z.child_room) was), omega (arith, ap (λ z. z.group_room) same, ap (λ z. z.group_room) was))
      by q i e false h false g =
          let same = c.others i (λ y. false≢true (sym h ∙ eq-eqb i at y)) (λ y. false≢true (sym g ∙ eq-eqb i owner y)) ∙ e in
          (omega (arith, ap (λ z. z.child_room) same), omega (arith, ap (λ z. z.group_room) same))

-- a list is empty just where it is so backwards
pub is_none_reverse : (xs : List ℕ) → is_none (reverse xs) ≡ eqb (length xs) 0
is_none_reverse xs = by (reverse xs) (length-reverse xs)
  where
    by : (ys : List ℕ) → length ys ≡ length xs → is_none ys ≡ eqb (length xs) 0
    by [] e = sym (eq-eqb (length xs) 0 (sym e))
    by (y ∷ ys) e = sym (ne_eqb (length xs) 0 (λ z. omega (arith, e, z)))

-- a node got capacity for more children, and its row has one
module _ (names : List Name) (old new : List Slot) (nodes after : Nodes) (f : Fits names old nodes) (r : SameButRoom nodes after) where
  pub fits_room : length new ≡ length old → ((i : ℕ) → (slot_at new i).kin ≡ (slot_at old i).kin) → ((i : ℕ) → (slot_at new i).child_room ≤ (node after i).room) → Fits names new after
  fits_room len kins rooms = record {
    slots_len = len ∙ f.slots_len;
    nodes_len = r.len ∙ f.nodes_len;
    linked = linked_room nodes after r f.linked;
    root = f.root;
    child = λ j k i p. f.child j k i (back j k i p);
    distinct = f.distinct;
    pending = λ i. ap (λ n. n.pending) (r.same i) ∙ f.pending i ∙ ap is_pending (sym (kins i));
    standing = λ j k i p. ap is_some (kins i) ∙ f.standing j k i (back j k i p) ∙ ap (λ o. nat_lt k (children_of o)) (sym (kins j));
    enough = λ j. omega (arith, f.enough j, ap children_of (kins j), ap (λ n. length n.places) (r.same j));
    rooms = rooms;
  }
    where
      back : (j k i : ℕ) → IsPlace after j k i → IsPlace nodes j k i
      back j k i p = sym (ap (λ n. slice_get n.places k) (r.same j)) ∙ p

  pub fits_reserved : (at : ℕ) → ChangesSlot old at (record (slot_at old at) { child_room = 1 }) new → 0 < (node after at).room → Fits names new after
  fits_reserved at c more = fits_room c.len (λ i. kins i (i == at) refl) (λ i. rooms i (i == at) refl)
    where
      kins : (i : ℕ) (b : Bool) → (i == at) ≡ b → (slot_at new i).kin ≡ (slot_at old i).kin
      kins i true e = let is = eqb-true i at e in ap (λ x. (slot_at new x).kin) is ∙ ap (λ s. s.kin) c.here ∙ ap (λ x. (slot_at old x).kin) (sym is)
      kins i false e = ap (λ s. s.kin) (c.others i (λ y. false≢true (sym e ∙ eq-eqb i at y)))

      rooms : (i : ℕ) (b : Bool) → (i == at) ≡ b → (slot_at new i).child_room ≤ (node after i).room
      rooms i true e = subst (λ x. (slot_at new x).child_room ≤ (node after x).room) (sym (eqb-true i at e)) (omega (arith, ap (λ s. s.child_room) c.here, more))
      rooms i false e = omega (arith, ap (λ s. s.child_room) (c.others i (λ y. false≢true (sym e ∙ eq-eqb i at y))), f.rooms i, r.keeps i)
