-- Histories that say the same of every task and cell.
use Rattle.std.proofs.Common.{◌≡◌, List, [], ◌∷◌, Bool, ◌&&◌, ◌||◌, refl, sym, ap, ap₂, ◌∙◌, subst}
use Rattle.std.specs.List.{list_any}
use Rattle.std.proofs.lemmas.List.Folds.{list_any-append}
use Rattle.tb_model.specs.declared.item.Item.{Item}
use Rattle.tb_model.specs.declared.action.Action.{Action}
use Rattle.tb_model.specs.declared.action.Action.TheVariants.{Start, Load, Wait, Close}
use Rattle.tb_model.specs.declared.event.Event.{Event}
use Rattle.tb_model.specs.Names.{Name, is_elder, is_child}
use Rattle.tb_model.specs.Items.{Relation, meets, some_meet, is_before, is_apart, has_no_items}
use Rattle.tb_model.specs.Facts.{History, is_of, prepend_if, stored_or, items_of, items_for, before, apart, is_spawned, spawns, ends, starts, is_member, covers, holds}
use Rattle.tb_model.specs.State.{with_print, spawn_or}
use Rattle.tb_model.specs.Alike.{Alike}
use Rattle.tb_model.specs.Legal.{Cells, first_number, Continues, IsTimely, MayFollow}

-- being alike is an equivalence
pub alike_refl : (H : History) → Alike H H
alike_refl H = record { acts = λ t. refl; number = λ x c. refl; any = λ p. refl; items = λ t p. refl; prints = refl; spawn = λ t. refl }

pub alike_sym : {G H : History} → Alike G H → Alike H G
alike_sym a = record { acts = λ t. sym (a.acts t); number = λ x c. sym (a.number x c); any = λ p. sym (a.any p); items = λ t p. sym (a.items t p); prints = sym a.prints; spawn = λ t. sym (a.spawn t) }

pub alike_trans : {F G H : History} → Alike F G → Alike G H → Alike F H
alike_trans a b = record {
  acts = λ t. a.acts t ∙ b.acts t;
  number = λ x c. a.number x c ∙ b.number x c;
  any = λ p. a.any p ∙ b.any p;
  items = λ t p. a.items t p ∙ b.items t p;
  prints = a.prints ∙ b.prints;
  spawn = λ t. a.spawn t ∙ b.spawn t;
}

-- alike histories stay alike after one event
pub alike_cons : (v : Event) {G H : History} → Alike G H → Alike (v ∷ G) (v ∷ H)
alike_cons v {G} {H} a = record {
  acts = λ t. ap (prepend_if (is_of t v) v.action) (a.acts t);
  number = λ x c. ap (stored_or c v.action) (a.number x c);
  any = λ p. ap (λ b. p v || b) (a.any p);
  items =
      λ t p. list_any-append p (items_for t v.action) (items_of t G) ∙ ap (λ b. list_any p (items_for t v.action) || b) (a.items t p) ∙ sym (list_any-append p (items_for t v.action) (items_of t H));
  prints = ap (with_print v.action) a.prints;
  spawn = λ t. ap (spawn_or t v.action) (a.spawn t);
}

-- tests that agree agree on a list
pub any_same : {A : Type 0} (p q : A → Bool) → ((x : A) → p x ≡ q x) → (xs : List A) → list_any p xs ≡ list_any q xs
any_same p q f [] = refl
any_same p q f (x ∷ xs) = ap₂ (λ a b. a || b) (f x) (any_same p q f xs)

meet_alike : (test : Relation → Bool) (t u : Name) {G H : History} → Alike G H → some_meet test (items_of t G) (items_of u G) ≡ some_meet test (items_of t H) (items_of u H)
meet_alike test t u {G} {H} a =
    any_same (λ i. list_any (meets test i) (items_of u G)) (λ i. list_any (meets test i) (items_of u H)) (λ i. a.items u (meets test i)) (items_of t G)
    ∙ a.items t (λ i. list_any (meets test i) (items_of u H))

-- alike histories have the same relations of siblings
pub before_alike : (u t : Name) {G H : History} → Alike G H → before G u t ≡ before H u t
before_alike u t a = ap (λ b. is_elder u t && b) (meet_alike is_before t u a)

pub apart_alike : (u t : Name) {G H : History} → Alike G H → apart G u t ≡ apart H u t
apart_alike u t a = ap₂ (λ b c. (is_elder u t && b) || (is_elder t u && c)) (meet_alike is_apart t u a) (meet_alike is_apart u t a)

-- alike histories have the same tasks
pub spawned_alike : (t : Name) {G H : History} → Alike G H → is_spawned G t ≡ is_spawned H t
spawned_alike [] a = refl
spawned_alike (n ∷ t) a = a.any (spawns (n ∷ t))

-- alike histories have the same children that a `taskwait` covers
pub covers_alike : (t : Name) (items : List Item) (u : Name) {G H : History} → Alike G H → covers G t items u ≡ covers H t items u
covers_alike t items u {G} {H} a =
    ap (λ b. is_child t u && (has_no_items items || b))
    (any_same (λ i. list_any (meets is_before i) (items_of u G)) (λ i. list_any (meets is_before i) (items_of u H)) (λ i. a.items u (meets is_before i)) items)

-- after alike histories the same may follow
pub timely_alike : (cells : Cells) {G H : History} → Alike G H → (t : Name) (x : Action) → IsTimely cells G t x → IsTimely cells H t x
timely_alike cells a t Start m = record {
  spawned = sym (spawned_alike t a) ∙ m.spawned;
  behind = λ u b. sym (a.any (ends u)) ∙ m.behind u (before_alike u t a ∙ b);
  alone = λ u b s. sym (a.any (ends u)) ∙ m.alone u (apart_alike u t a ∙ b) (a.any (starts u) ∙ s);
}
timely_alike cells a t (Load r c x) m = m ∙ a.number (first_number cells c) c
timely_alike cells a t (Wait items) m = λ u b s. sym (a.any (ends u)) ∙ m u (covers_alike t items u a ∙ b) (spawned_alike u a ∙ s)
timely_alike cells a t Close m =
    λ u b s. sym (a.any (ends u)) ∙ m u (ap (λ acts. is_member acts u) (a.acts t) ∙ b) (spawned_alike u a ∙ s)
timely_alike cells a t _ m = tt

pub follows_alike : (cells : Cells) {G H : History} → Alike G H → (v : Event) → MayFollow cells G v → MayFollow cells H v
follows_alike cells a v m = record {
  own = subst (λ acts. Continues cells v.task acts v.action) (a.acts v.task) m.own;
  resumed = λ u h. sym (a.any (ends u)) ∙ m.resumed u (ap (λ acts. holds acts u) (a.acts v.task) ∙ h);
  timely = timely_alike cells a v.task v.action m.timely;
}
