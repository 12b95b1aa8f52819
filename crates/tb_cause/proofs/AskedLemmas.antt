-- What an event gives is asked for key by key.
use Rattle.std.proofs.Common.{◌≡◌, ℕ, ◌+◌, nat_eq, List, [], ◌∷◌, Bool, true, false, ◌&&◌, ◌||◌, refl, sym, ap, ap₂, ◌∙◌}
use Rattle.std.specs.List.{list_any}
use Rattle.tb_model.specs.declared.action.Action.{Action}
use Rattle.tb_model.specs.declared.action.Action.TheVariants.{Start, Let, Load, Store, Print, Spawn, Wait, Open, Close, Test, End, Fault}
use Rattle.tb_model.specs.declared.event.Event.{Event}
use Rattle.tb_model.specs.declared.item.Item.{Item as AnItem}
use Rattle.tb_model.specs.declared.place.Place.{Place}
use Rattle.tb_model.specs.declared.place.Place.TheVariants.{Cell, All}
use Rattle.tb_model.specs.Names.{Name, same_name, is_child, is_within}
use Rattle.tb_model.specs.Facts.{is_end, is_spawn_of, is_store_to, touches, is_print}
use Rattle.tb_cause.specs.Asked.{same_key, action_gives, parent_gives, some_above, over_gives, place_gives, item_gives, items_give, gives_any}
use Rattle.tb_cause.specs.Keys.{Key, Task, Ended, Parent, Within, Item, Stored, Touched, Printed, own_key, action_key, kind_number, place_key, item_key, over_key, items_key, end_key, gives}
use Rattle.tb_cause.proofs.KeyLemmas.{same_turned, eq_turned, and_grouped, and_more, and_none, or_none}

-- ---- what is given, key by key

own_one : (t : Name) (k : Key) → own_key t k ≡ same_key k (Task t)
own_one t (Task s) = same_turned t s
own_one t _ = refl

spawn_one : (u : Name) (a : Action) → ((s : Name) → is_spawn_of s a ≡ same_name u s) → ((c : ℕ) → is_store_to c a ≡ false) → ((c : ℕ) → touches c a ≡ false) → is_print a ≡ false → (k : Key) → action_key a k ≡ same_key k (Task u)
spawn_one u a s c d p (Task t) = s t ∙ same_turned u t
spawn_one u a s c d p (Stored n) = c n
spawn_one u a s c d p (Touched n) = d n
spawn_one u a s c d p Printed = p
spawn_one u a s c d p _ = refl

no_key : (a : Action) → ((s : Name) → is_spawn_of s a ≡ false) → ((c : ℕ) → is_store_to c a ≡ false) → ((c : ℕ) → touches c a ≡ false) → is_print a ≡ false → (k : Key) → action_key a k ≡ false
no_key a s c d p (Task t) = s t
no_key a s c d p (Stored n) = c n
no_key a s c d p (Touched n) = d n
no_key a s c d p Printed = p
no_key a s c d p _ = refl

load_one : (r c : ℕ) (a : Action) → ((s : Name) → is_spawn_of s a ≡ false) → ((d : ℕ) → is_store_to d a ≡ false) → ((d : ℕ) → touches d a ≡ nat_eq d c) → is_print a ≡ false → (k : Key) → action_key a k ≡ same_key k (Touched c)
load_one r c a s t d p (Task u) = s u
load_one r c a s t d p (Stored n) = t n
load_one r c a s t d p (Touched n) = d n
load_one r c a s t d p Printed = p
load_one r c a s t d p _ = refl

store_two : (c : ℕ) (a : Action) → ((s : Name) → is_spawn_of s a ≡ false) → ((d : ℕ) → is_store_to d a ≡ nat_eq d c) → ((d : ℕ) → touches d a ≡ nat_eq d c) → is_print a ≡ false → (k : Key) → action_key a k ≡ (same_key k (Stored c) || same_key k (Touched c))
store_two c a s t d p (Task u) = s u
store_two c a s t d p (Stored n) = t n ∙ sym (or_none (nat_eq n c))
store_two c a s t d p (Touched n) = d n
store_two c a s t d p Printed = p
store_two c a s t d p _ = refl

print_one : (a : Action) → ((s : Name) → is_spawn_of s a ≡ false) → ((d : ℕ) → is_store_to d a ≡ false) → ((d : ℕ) → touches d a ≡ false) → is_print a ≡ true → (k : Key) → action_key a k ≡ same_key k Printed
print_one a s t d p (Task u) = s u
print_one a s t d p (Stored n) = t n
print_one a s t d p (Touched n) = d n
print_one a s t d p Printed = p
print_one a s t d p _ = refl

-- by an end
abbrev parent_key : Name → Key → Bool
parent_key v (Parent s) = is_child s v
parent_key v _ = false

abbrev above_key : Name → Key → Bool
above_key v (Within s) = is_within s v
above_key v _ = false

over_three : (v : Name) (k : Key) → over_key v k ≡ (same_key k (Ended v) || (parent_key v k || above_key v k))
over_three v (Ended s) = same_turned v s ∙ sym (or_none (same_name s v))
over_three v (Parent s) = sym (or_none (is_child s v))
over_three v (Within s) = refl
over_three v _ = refl

root_has_none : (k : Key) → parent_key [] k ≡ false
root_has_none (Parent s) = refl
root_has_none _ = refl

parent_one : (n : ℕ) (p : Name) (k : Key) → parent_key (n ∷ p) k ≡ same_key k (Parent p)
parent_one n p (Parent s) = same_turned p s
parent_one n p _ = refl

root_one : (k : Key) → above_key [] k ≡ same_key k (Within [])
root_one (Within s) = refl
root_one _ = refl

above_two : (n : ℕ) (m : Name) (k : Key) → above_key (n ∷ m) k ≡ (same_key k (Within (n ∷ m)) || above_key m k)
above_two n m (Within s) = refl
above_two n m _ = refl

-- by an item of a child of p
abbrev at_place : Name → ℕ → Place → Key → Bool
at_place p m q (Item s n c) = same_name p s && place_key m q n c
at_place p m q _ = false

turned : (p s : Name) (m n d c : ℕ) → (same_name p s && (nat_eq m n && nat_eq d c)) ≡ ((same_name s p && nat_eq n m) && nat_eq c d)
turned p s m n d c = and_grouped (same_name p s) (nat_eq m n) (nat_eq d c) ∙ ap₂ (λ a b. a && b) (ap₂ (λ a b. a && b) (same_turned p s) (eq_turned m n)) (eq_turned d c)

cell_two : (p : Name) (m d : ℕ) (k : Key) → at_place p m (Cell d) k ≡ (same_key k (Item p m d) || same_key k (Item p (m + 1) 0))
cell_two p m d (Item s n c) =
    and_more (same_name p s) (nat_eq m n && nat_eq d c) (nat_eq (m + 1) n && nat_eq 0 c)
    ∙ ap₂ (λ a b. a || b) (turned p s m n d c) (turned p s (m + 1) n 0 c)
cell_two p m d _ = refl

all_one : (p : Name) (m : ℕ) (k : Key) → at_place p m All k ≡ same_key k (Item p (m + 2) 0)
all_one p m (Item s n c) = turned p s (m + 2) n 0 c
all_one p m _ = refl

root_no_items : (js : List AnItem) (k : Key) → items_key [] js k ≡ false
root_no_items js (Item s n c) = refl
root_no_items js _ = refl

items_none : (m : ℕ) (p : Name) (k : Key) → items_key (m ∷ p) [] k ≡ false
items_none m p (Item s n c) = and_none (same_name p s)
items_none m p _ = refl

items_two : (m : ℕ) (p : Name) (j : AnItem) (js : List AnItem) (k : Key) → items_key (m ∷ p) (j ∷ js) k ≡ (at_place p (kind_number j.kind) j.place k || items_key (m ∷ p) js k)
items_two m p j js (Item s n c) = and_more (same_name p s) (item_key n c j) (list_any (item_key n c) js)
items_two m p j js _ = refl

-- ---- a test of keys that passes where some of them passes

module _ (T : (Key → Bool) → Bool) (same : (f g : Key → Bool) → ((k : Key) → f k ≡ g k) → T f ≡ T g) (none : T (λ k. false) ≡ false) (more : (f g : Key → Bool) → T (λ k. f k || g k) ≡ (T f || T g)) where
  module _ (w : Key → Bool) (asked : (k : Key) → w k ≡ T (λ a. same_key a k)) where
    one : (f : Key → Bool) (g : Key) → ((k : Key) → f k ≡ same_key k g) → T f ≡ w g
    one f g h = same f (λ a. same_key a g) h ∙ sym (asked g)

    nothing : (f : Key → Bool) → ((k : Key) → f k ≡ false) → T f ≡ false
    nothing f h = same f (λ k. false) h ∙ none

    two : (f p q : Key → Bool) → ((k : Key) → f k ≡ (p k || q k)) → T f ≡ (T p || T q)
    two f p q h = same f (λ k. p k || q k) h ∙ more p q

    when : (b : Bool) (f : Key → Bool) → T (λ k. b && f k) ≡ (b && T f)
    when true f = refl
    when false f = none

    point : (g : Key) → T (λ k. same_key k g) ≡ w g
    point g = sym (asked g)

    action : (a : Action) → T (action_key a) ≡ action_gives w a
    action (Spawn spawn) = one (action_key (Spawn spawn)) (Task spawn.child) (spawn_one spawn.child (Spawn spawn) (λ s. refl) (λ c. refl) (λ c. refl) refl)
    action (Load r c x) = one (action_key (Load r c x)) (Touched c) (load_one r c (Load r c x) (λ s. refl) (λ d. refl) (λ d. refl) refl)
    action (Store c x) =
        two (action_key (Store c x)) (λ k. same_key k (Stored c)) (λ k. same_key k (Touched c)) (store_two c (Store c x) (λ s. refl) (λ d. refl) (λ d. refl) refl)
        ∙ ap₂ (λ a b. a || b) (point (Stored c)) (point (Touched c))
    action (Print x) = one (action_key (Print x)) Printed (print_one (Print x) (λ s. refl) (λ d. refl) (λ d. refl) refl)
    action Start = nothing (action_key Start) (no_key Start (λ s. refl) (λ c. refl) (λ c. refl) refl)
    action (Let r x) = nothing (action_key (Let r x)) (no_key (Let r x) (λ s. refl) (λ c. refl) (λ c. refl) refl)
    action (Wait items) = nothing (action_key (Wait items)) (no_key (Wait items) (λ s. refl) (λ c. refl) (λ c. refl) refl)
    action Open = nothing (action_key Open) (no_key Open (λ s. refl) (λ c. refl) (λ c. refl) refl)
    action Close = nothing (action_key Close) (no_key Close (λ s. refl) (λ c. refl) (λ c. refl) refl)
    action (Test answer) = nothing (action_key (Test answer)) (no_key (Test answer) (λ s. refl) (λ c. refl) (λ c. refl) refl)
    action End = nothing (action_key End) (no_key End (λ s. refl) (λ c. refl) (λ c. refl) refl)
    action Fault = nothing (action_key Fault) (no_key Fault (λ s. refl) (λ c. refl) (λ c. refl) refl)

    parent : (v : Name) → T (parent_key v) ≡ parent_gives w v
    parent [] = nothing (parent_key []) root_has_none
    parent (n ∷ p) = one (parent_key (n ∷ p)) (Parent p) (parent_one n p)

    above : (v : Name) → T (above_key v) ≡ some_above (λ s. w (Within s)) v
    above [] = one (above_key []) (Within []) root_one
    above (n ∷ m) =
        two (above_key (n ∷ m)) (λ k. same_key k (Within (n ∷ m))) (above_key m) (above_two n m)
        ∙ ap₂ (λ a b. a || b) (point (Within (n ∷ m))) (above m)

    over : (v : Name) → T (over_key v) ≡ over_gives w v
    over v =
        two (over_key v) (λ k. same_key k (Ended v)) (λ k. parent_key v k || above_key v k) (over_three v)
        ∙ ap₂ (λ a b. a || b) (point (Ended v)) (more (parent_key v) (above_key v) ∙ ap₂ (λ a b. a || b) (parent v) (above v))

    place : (p : Name) (m : ℕ) (q : Place) → T (at_place p m q) ≡ place_gives w p m q
    place p m (Cell d) =
        two (at_place p m (Cell d)) (λ k. same_key k (Item p m d)) (λ k. same_key k (Item p (m + 1) 0)) (cell_two p m d)
        ∙ ap₂ (λ a b. a || b) (point (Item p m d)) (point (Item p (m + 1) 0))
    place p m All = one (at_place p m All) (Item p (m + 2) 0) (all_one p m)

    items_of_child : (m : ℕ) (p : Name) (js : List AnItem) → T (items_key (m ∷ p) js) ≡ list_any (item_gives w p) js
    items_of_child m p [] = nothing (items_key (m ∷ p) []) (items_none m p)
    items_of_child m p (j ∷ js) =
        two (items_key (m ∷ p) (j ∷ js)) (at_place p (kind_number j.kind) j.place) (items_key (m ∷ p) js) (items_two m p j js)
        ∙ ap₂ (λ a b. a || b) (place p (kind_number j.kind) j.place) (items_of_child m p js)

    items : (v : Name) (js : List AnItem) → T (items_key v js) ≡ items_give w v js
    items [] js = nothing (items_key [] js) (root_no_items js)
    items (m ∷ p) js = items_of_child m p js

    -- what the event gives
    pub given_one_by_one : (I : Name → List AnItem) (u : Event) → T (gives I u) ≡ gives_any w I u
    given_one_by_one I u =
        more (own_key u.task) (λ k. action_key u.action k || (is_end u.action && end_key I u.task k))
        ∙ ap₂ (λ a b. a || b) (one (own_key u.task) (Task u.task) (own_one u.task))
        (more (action_key u.action) (λ k. is_end u.action && end_key I u.task k)
        ∙ ap₂ (λ a b. a || b) (action u.action)
        (when (is_end u.action) (end_key I u.task)
        ∙ ap (λ b. is_end u.action && b) (more (over_key u.task) (items_key u.task (I u.task)) ∙ ap₂ (λ a b. a || b) (over u.task) (items u.task (I u.task)))))
