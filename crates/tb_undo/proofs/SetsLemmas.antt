-- What a write of the parent's row leaves of who holds what.
use Rattle.std.proofs.Common.{◌≡◌, ◌≢◌, ◌<◌, ℕ, List, [], ◌∷◌, Bool, true, false, cond, Option, Some, None, refl, sym, ap, ◌∙◌, subst, slice_get, get_or, unwrap_or, if◌then◌else◌}
use Rattle.std.specs.Option.{option_map}
use Rattle.std.proofs.lemmas.Bool.{false≢true}
use Rattle.tb_model.specs.declared.item.Item.{Item}
use Rattle.tb_model.specs.Names.{Name, same_name, is_child}
use Rattle.tb_model.proofs.TestLemmas.{same_true, same_refl}
use Rattle.tb_wait.specs.Kin.{Tasks as Waiting, place}
use Rattle.tb_depend.specs.Relations.{items_at}
use Rattle.tb_excl.specs.Holders.{Holders, HasRoomFor, KeepsRoom, IsSet, IsSame}
use Rattle.tb_undo.specs.declared.row.Row.{Row}
use Rattle.tb_undo.specs.Tasks.{Task, Rows, row, seen_row, holders_of, HasChildRoom, HasChildRoomIn, KeepsRowRoom}
use Rattle.tb_undo.specs.Sets.{children_in, items_in, number_of, IsLinked, place_in, Become, Sets, Reserves, HasSetRoom}
use Rattle.tb_undo.specs.Places.{rows_in, AreInPlace}
use Rattle.tb_undo.proofs.PlacesLemmas.{no_row, missing}
use Rattle.tb_undo.proofs.RowsLemmas.{Writes, kept}

all_kept : (h : Holders) → KeepsRoom h h
all_kept h = record { parent = refl; room = λ q there. there }

module _ (old : Rows) (p : Name) (r : Row) (found : row old p ≡ Some r) where
  -- the capacity of p is that of its row
  pub room_here : (n : ℕ) → HasSetRoom old (n ∷ p) → HasRoomFor r.holders (items_at r.children.siblings n)
  room_here n room =
      subst (HasRoomFor r.holders) (ap (λ o. items_at (children_in (option_map seen_row o)) n) found)
      (room p r.holders (same_refl p) (ap (option_map (λ (x : Row). x.holders)) found))

module _ (old new : Rows) (p : Name) (r w : Row) (found : row old p ≡ Some r) (writes : Writes old p w new) where
  -- the parent of t holds for it, or doesn't any longer
  pub sets : (n : ℕ) (to : Option ℕ) → seen_row w ≡ seen_row r → IsSet r.holders (items_at r.children.siblings n) to w.holders → KeepsRoom r.holders w.holders
      → Sets old (n ∷ p) to new
  sets n to same set keeps = record {
    tasks = kept old new p r w found writes seen_row same;
    holds = record {
      others = λ q h. ap (option_map (λ (x : Row). x.holders)) (writes q ∙ ap (λ b. cond b (Some w) (row old q)) h);
      parent = λ q h e g. at q h e g;
    };
  }
    where
      at : (q : Name) (h : Holders) → is_child q (n ∷ p) ≡ true → holders_of new q ≡ Some h
          → Become (holders_of old q) (λ g. IsSet g (items_in old (n ∷ p)) to h × KeepsRoom g h)
      at q h e g =
          let here = ap (option_map (λ (x : Row). x.holders)) found in
          let items = ap (λ o. items_at (children_in (option_map seen_row o)) n) found in
          let same : p ≡ q = same_true p q e in
          let wrote = ap (option_map (λ (x : Row). x.holders)) (writes p ∙ ap (λ b. cond b (Some w) (row old p)) (same_refl p)) in
          let holders : w.holders ≡ h = ap (λ o. unwrap_or o h) (sym wrote ∙ ap (λ x. holders_of new x) same ∙ g) in
          subst (λ x. Become (holders_of old x) (λ f. IsSet f (items_in old (n ∷ p)) to h × KeepsRoom f h)) same
          (subst (λ o. Become o (λ f. IsSet f (items_in old (n ∷ p)) to h × KeepsRoom f h)) (sym here)
          (subst (λ x. IsSet r.holders (items_in old (n ∷ p)) to x × KeepsRoom r.holders x) holders
          (subst (λ x. IsSet r.holders x to w.holders) (sym items) set, keeps)))

  -- no task loses its capacity for a child
  pub rooms_kept : KeepsRowRoom r w → (q : Name) (items : List Item) (deferred : Bool) → HasChildRoomIn old q items deferred → HasChildRoomIn new q items deferred
  rooms_kept keeps q items deferred room x e = at (same_name p q) refl
    where
      at : (b : Bool) → same_name p q ≡ b → HasChildRoom x items deferred
      at true s =
          let is = sym (writes q ∙ ap (λ b. cond b (Some w) (row old q)) s) ∙ e in
          let there = ap (row old) (sym (same_true p q s)) ∙ found in
          subst (λ y. HasChildRoom y items deferred) (ap (λ o. unwrap_or o x) is) (keeps items deferred (room r there))
      at false s = room x (sym (writes q ∙ ap (λ b. cond b (Some w) (row old q)) s) ∙ e)

  -- more capacity at p
  pub reserves : seen_row w ≡ seen_row r → IsSame r.holders w.holders → KeepsRoom r.holders w.holders → KeepsRowRoom r w → Reserves old new
  reserves same holds keeps rooms = record {
    tasks = kept old new p r w found writes seen_row same;
    rooms = rooms_kept rooms;
    holders = λ q h g. at q h g (same_name p q) refl;
  }
    where
      at : (q : Name) (h : Holders) → holders_of new q ≡ Some h → (b : Bool) → same_name p q ≡ b
          → Become (holders_of old q) (λ g. IsSame g h × KeepsRoom g h)
      at q h g true e =
          let to = ap (option_map (λ (x : Row). x.holders)) (writes q ∙ ap (λ b. cond b (Some w) (row old q)) e) in
          let from = ap (option_map (λ (x : Row). x.holders)) (ap (row old) (sym (same_true p q e)) ∙ found) in
          let holders : w.holders ≡ h = ap (λ o. unwrap_or o h) (sym to ∙ g) in
          subst (λ o. Become o (λ f. IsSame f h × KeepsRoom f h)) (sym from)
          (subst (λ x. IsSame r.holders x × KeepsRoom r.holders x) holders (holds, keeps))
      at q h g false e =
          let to = ap (option_map (λ (x : Row). x.holders)) (writes q ∙ ap (λ b. cond b (Some w) (row old q)) e) in
          subst (λ o. Become o (λ f. IsSame f h × KeepsRoom f h)) (sym g ∙ to) ((λ place. refl), all_kept h)

  pub room_there : (n : ℕ) → seen_row w ≡ seen_row r → HasRoomFor w.holders (items_at w.children.siblings n) → HasSetRoom new (n ∷ p)
  room_there n same room q h e g =
      let wrote = writes p ∙ ap (λ b. cond b (Some w) (row old p)) (same_refl p) in
      let at_p = ap (λ x. holders_of new x) (same_true p q e) in
      let holders : w.holders ≡ h = ap (λ o. unwrap_or o h) (sym (ap (option_map (λ (x : Row). x.holders)) wrote) ∙ at_p ∙ g) in
      subst (λ x. HasRoomFor x (items_in new (n ∷ p))) holders
      (subst (HasRoomFor w.holders) (sym (ap (λ o. items_at (children_in (option_map seen_row o)) n) wrote)) room)

  -- and so is the capacity for a child
  pub child_room_there : (items : List Item) (deferred : Bool) → HasChildRoom w items deferred → HasChildRoomIn new p items deferred
  child_room_there items deferred room r e =
      let wrote = writes p ∙ ap (λ b. cond b (Some w) (row old p)) (same_refl p) in
      subst (λ x. HasChildRoom x items deferred) (ap (λ o. unwrap_or o r) (sym wrote ∙ e)) room

-- ---- where the parent's row is

pub record Placed (tasks : Waiting) (t : Name) (i n : ℕ) : Type 0 where
  pub parent : Name
  pub name : t ≡ n ∷ parent
  pub place : place tasks parent ≡ Some i

pub placed : (tasks : Waiting) (t : Name) (i n : ℕ) → place_in tasks t ≡ Some (i, n) → Placed tasks t i n
placed tasks [] i n e = absurd (cc)
placed tasks (k ∷ p) i n e = at (place tasks p) refl e
  where
    at : (o : Option ℕ) → place tasks p ≡ o → option_map {U = ℕ × ℕ} (λ j. (j, k)) o ≡ Some (i, n) → Placed tasks (k ∷ p) i n
    at None q e = absurd (cc)
    at (Some j) q e =
        let pair = ap (λ o. unwrap_or o (i, n)) e in
        record { parent = p; name = ap (λ (x : ℕ × ℕ). x.1 ∷ p) pair; place = q ∙ ap (λ (x : ℕ × ℕ). Some x.0) pair }

-- a task that is linked has a parent with a row
linked_row : (rows : Rows) (n : ℕ) (p : Name) → IsLinked rows (n ∷ p) → row rows p ≢ None
linked_row rows n p linked none = at linked.2 (sym (ap (option_map seen_row) none) ∙ linked.5)
  where
    at : (k : Task) → None ≡ Some k → ⊥
    at k e = cc

-- only the root has no parent
pub unplaced : (tasks : Waiting) (rows : List (Option Row)) (t : Name) → AreInPlace tasks rows → IsLinked (rows_in rows) t → place_in tasks t ≡ None → t ≡ []
unplaced tasks rows [] p linked e = refl
unplaced tasks rows (n ∷ q) p linked e = absurd (at (place tasks q) refl e)
  where
    at : (o : Option ℕ) → place tasks q ≡ o → option_map {U = ℕ × ℕ} (λ j. (j, n)) o ≡ None → ⊥
    at (Some j) f e = cc
    at None f e = linked_row (rows_in rows) n q linked (no_row tasks rows p q f)

module _ (tasks : Waiting) (rows : List (Option Row)) (t : Name) (i n : ℕ) (p : AreInPlace tasks rows) (at : Placed tasks t i n) where
  pub no_gap : IsLinked (rows_in rows) t → (x : Option Row) → x ≡ get_or rows i x → x ≡ None → ⊥
  no_gap linked x value gap = linked_row (rows_in rows) n at.parent (subst (IsLinked (rows_in rows)) at.name linked) (missing tasks rows p at.parent i at.place x value gap)

module _ (old : Rows) (tasks : Waiting) (t : Name) (i n : ℕ) (at : Placed tasks t i n) (r : Row) (found : row old at.parent ≡ Some r) where
  pub room_at : HasSetRoom old t → HasRoomFor r.holders (items_at r.children.siblings n)
  room_at room = room_here old at.parent r found n (subst (HasSetRoom old) at.name room)

module _ (old new : Rows) (tasks : Waiting) (t : Name) (i n : ℕ) (at : Placed tasks t i n) (r w : Row) (found : row old at.parent ≡ Some r) (writes : Writes old at.parent w new) where
  pub sets_named : (held : Bool) → seen_row w ≡ seen_row r → IsSet r.holders (items_at r.children.siblings n) (if held then Some n else None) w.holders → KeepsRoom r.holders w.holders
      → Sets old t (if held then number_of t else None) new
  sets_named held same set keeps =
      subst (λ x. Sets old x (if held then number_of x else None) new) (sym at.name)
      (sets old new at.parent r w found writes n (if held then Some n else None) same set keeps)

  pub room_named : seen_row w ≡ seen_row r → HasRoomFor w.holders (items_at w.children.siblings n) → HasSetRoom new t
  room_named same room = subst (HasSetRoom new) (sym at.name) (room_there old new at.parent r w found writes n same room)

-- for the root there is nothing to hold
pub root_sets : (rows : Rows) (t : Name) (to : Option ℕ) → t ≡ [] → Sets rows t to rows
root_sets rows t to e = subst (λ x. Sets rows x to rows) (sym e) (record { tasks = λ u. refl; holds = record { others = λ p h. refl; parent = λ p h c g. absurd (false≢true c) } })

pub root_room : (rows : Rows) (t : Name) → t ≡ [] → HasSetRoom rows t
root_room rows t e = subst (HasSetRoom rows) (sym e) (λ p h c g. absurd (false≢true c))

pub from_one : (rows : Rows) (t : Name) (n : ℕ) → IsLinked rows t → slice_get t 0 ≡ Some n → 0 < n
from_one rows [] n linked e = absurd (cc)
from_one rows (k ∷ p) n linked e = subst (λ x. 0 < x) (ap (λ o. unwrap_or o k) e) linked.0

-- what stays reserves nothing
pub reserves_none : (rows : Rows) → Reserves rows rows
reserves_none rows = record { rooms = λ t items deferred room. room; tasks = λ u. refl; holders = λ p h e. subst (λ o. Become o (λ f. IsSame f h × KeepsRoom f h)) (sym e) ((λ place. refl), all_kept h) }

-- a row whose task and holders are as they were
pub reserves_row : (old new : Rows) (t : Name) (r w : Row) → row old t ≡ Some r → Writes old t w new → seen_row w ≡ seen_row r → w.holders ≡ r.holders → KeepsRowRoom r w → Reserves old new
reserves_row old new t r w found writes same holders rooms = record {
  rooms = rooms_kept old new t r w found writes rooms;
  tasks = kept old new t r w found writes seen_row same;
  holders = λ p h e.
      let stays = kept old new t r w found writes (λ (x : Row). x.holders) holders p in
      subst (λ o. Become o (λ f. IsSame f h × KeepsRoom f h)) (sym (sym stays ∙ e)) ((λ place. refl), all_kept h);
}

-- a task that isn't there asks for no capacity
pub no_child_room : (rows : Rows) (t : Name) (items : List Item) (deferred : Bool) → row rows t ≡ None → HasChildRoomIn rows t items deferred
no_child_room rows t items deferred none r e = let clash : None ≡ Some r = sym none ∙ e in absurd (cc)
