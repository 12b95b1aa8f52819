-- Needs by keys.
use Rattle.std.proofs.Common.{Option, Some, None, ◌≡◌, ℕ, ◌+◌, ◌==◌, List, [], ◌∷◌, Bool, true, false, ◌&&◌, ◌||◌, refl, sym, ap, ap₂, ◌∙◌}
use Rattle.std.specs.List.{list_any}
use Rattle.std.proofs.lemmas.Bool.{false≢true, eq-eqb, eqb-true}
use Rattle.tb_model.specs.declared.action.Action.{Action}
use Rattle.tb_model.specs.declared.action.Action.TheVariants.{Start, Load, Store, Print, Wait, Close}
use Rattle.tb_model.specs.declared.event.Event.{Event}
use Rattle.tb_model.specs.Names.{Name, same_name}
use Rattle.tb_model.specs.declared.item.Item.{Item as AnItem}
use Rattle.tb_model.specs.declared.place.Place.{Place}
use Rattle.tb_model.specs.declared.place.Place.TheVariants.{Cell, All}
use Rattle.tb_model.specs.Items.{has_no_items}
use Rattle.tb_model.specs.Facts.{History, own, groups, innermost}
use Rattle.tb_model.proofs.AlikeLemmas.{any_same}
use Rattle.tb_model.proofs.TestLemmas.{same_true, same_refl}
use Rattle.tb_cause.specs.Keys.{Key, Task, Ended, Parent, Within, Item, Stored, Touched, Printed, gives, held_by, held_any, action_any, wait_any, takes_any, kind_number, place_any, kind_any, item_any, items_any, kinds, comes_behind}

-- ---- tests of lists

pub any_or : {A : Type 0} (p q : A → Bool) (xs : List A) → list_any (λ x. p x || q x) xs ≡ (list_any p xs || list_any q xs)
any_or p q [] = refl
any_or p q (x ∷ xs) = ap (λ b. (p x || q x) || b) (any_or p q xs) ∙ mixed (p x) (q x) (list_any p xs) (list_any q xs)
  where
    mixed : (a b c d : Bool) → ((a || b) || (c || d)) ≡ ((a || c) || (b || d))
    mixed true b c d = refl
    mixed false true true d = refl
    mixed false true false d = refl
    mixed false false c d = refl

pub any_none : {A : Type 0} (xs : List A) → list_any (λ (x : A). false) xs ≡ false
any_none [] = refl
any_none (x ∷ xs) = any_none xs

pub and_none : (a : Bool) → (a && false) ≡ false
and_none true = refl
and_none false = refl

-- equal names are so in either order
pub same_turned : (t u : Name) → same_name t u ≡ same_name u t
same_turned t u = at (same_name t u) (same_name u t) refl refl
  where
    at : (a b : Bool) → same_name t u ≡ a → same_name u t ≡ b → a ≡ b
    at true true p q = refl
    at false false p q = refl
    at true false p q = absurd (false≢true (sym q ∙ ap (λ x. same_name x t) (sym (same_true t u p)) ∙ same_refl t))
    at false true p q = absurd (false≢true (sym p ∙ ap (λ x. same_name x u) (sym (same_true u t q)) ∙ same_refl u))

pub and_turned : (a b : Bool) → (a && b) ≡ (b && a)
and_turned true true = refl
and_turned true false = refl
and_turned false true = refl
and_turned false false = refl

pub and_more : (a b c : Bool) → (a && (b || c)) ≡ ((a && b) || (a && c))
and_more true b c = refl
and_more false b c = refl

pub and_grouped : (a b c : Bool) → (a && (b && c)) ≡ ((a && b) && c)
and_grouped true b c = refl
and_grouped false b c = refl

pub or_none : (b : Bool) → (b || false) ≡ b
or_none true = refl
or_none false = refl

two : (a b c d : Bool) → ((a || b) || (c || d)) ≡ ((a || c) || (b || d))
two true b c d = refl
two false true true d = refl
two false true false d = refl
two false false c d = refl

-- what passes a test only together with this
pub any_and : {A : Type 0} (E : Bool) (p : A → Bool) (xs : List A) → list_any (λ x. E && p x) xs ≡ (E && list_any p xs)
any_and true p xs = refl
any_and false p xs = any_none xs

-- either list may be gone through first
pub any_swap : {A B : Type 0} (m : A → B → Bool) (xs : List A) (ys : List B) → list_any (λ x. list_any (m x) ys) xs ≡ list_any (λ y. list_any (λ x. m x y) xs) ys
any_swap m [] ys = sym (any_none ys)
any_swap m (x ∷ xs) ys = ap (λ b. list_any (m x) ys || b) (any_swap m xs ys) ∙ sym (any_or (m x) (λ y. list_any (λ x. m x y) xs) ys)

pub eq_turned : (m n : ℕ) → (m == n) ≡ (n == m)
eq_turned m n = at (m == n) (n == m) refl refl
  where
    at : (a b : Bool) → (m == n) ≡ a → (n == m) ≡ b → a ≡ b
    at true true p q = refl
    at false false p q = refl
    at true false p q = absurd (false≢true (sym q ∙ eq-eqb n m (sym (eqb-true m n p))))
    at false true p q = absurd (false≢true (sym p ∙ eq-eqb m n (sym (eqb-true n m q))))

-- ---- what is taken of several

module _ (f g : Key → Bool) where
  abbrev both : Key → Bool
  both k = f k || g k

  held_more : (o : Option Name) → held_any both o ≡ (held_any f o || held_any g o)
  held_more None = refl
  held_more (Some w) = refl

  action_more : (a : Action) → action_any both a ≡ (action_any f a || action_any g a)
  action_more (Load r c x) = refl
  action_more (Store c x) = refl
  action_more (Print x) = refl
  action_more _ = refl

  wait_more : (H : History) (t : Name) (a : Action) → wait_any both H t a ≡ (wait_any f H t a || wait_any g H t a)
  wait_more H t (Wait items) = and_more (has_no_items items) (f (Parent t)) (g (Parent t))
  wait_more H t Close = any_or (λ c. f (Within c)) (λ c. g (Within c)) (innermost (groups (own t H)))
  wait_more H t _ = refl

  place_more : (p : Name) (pl : Place) (m : ℕ) → place_any both p pl m ≡ (place_any f p pl m || place_any g p pl m)
  place_more p (Cell c) m = two (f (Item p m c)) (g (Item p m c)) (f (Item p (m + 2) 0)) (g (Item p (m + 2) 0))
  place_more p All m = two (f (Item p (m + 1) 0)) (g (Item p (m + 1) 0)) (f (Item p (m + 2) 0)) (g (Item p (m + 2) 0))

  item_more : (p : Name) (s : Bool) (i : AnItem) → item_any both p s i ≡ (item_any f p s i || item_any g p s i)
  item_more p s i =
      any_same (kind_any both p s i) (λ k. kind_any f p s i k || kind_any g p s i k)
      (λ k. ap (λ b. comes_behind s i.kind k && b) (place_more p i.place (kind_number k)) ∙ and_more (comes_behind s i.kind k) (place_any f p i.place (kind_number k)) (place_any g p i.place (kind_number k)))
      kinds
      ∙ any_or (kind_any f p s i) (kind_any g p s i) kinds

  list_more : (p : Name) (s : Bool) (items : List AnItem) → list_any (item_any both p s) items ≡ (list_any (item_any f p s) items || list_any (item_any g p s) items)
  list_more p s items = any_same (item_any both p s) (λ i. item_any f p s i || item_any g p s i) (item_more p s) items ∙ any_or (item_any f p s) (item_any g p s) items

  items_more : (I : Name → List AnItem) (t : Name) (a : Action) → items_any both I t a ≡ (items_any f I t a || items_any g I t a)
  items_more I [] Start = refl
  items_more I (n ∷ p) Start = list_more p true (I (n ∷ p))
  items_more I t (Wait items) = list_more t false items
  items_more I t _ = refl

  module _ (I : Name → List AnItem) (H : History) (v : Event) where
    last_more : (wait_any both H v.task v.action || items_any both I v.task v.action) ≡ ((wait_any f H v.task v.action || items_any f I v.task v.action) || (wait_any g H v.task v.action || items_any g I v.task v.action))
    last_more =
        ap₂ (λ b c. b || c) (wait_more H v.task v.action) (items_more I v.task v.action)
        ∙ two (wait_any f H v.task v.action) (wait_any g H v.task v.action) (items_any f I v.task v.action) (items_any g I v.task v.action)

    pub takes_more : takes_any both I H v ≡ (takes_any f I H v || takes_any g I H v)
    takes_more =
        let fw = wait_any f H v.task v.action || items_any f I v.task v.action in
        let gw = wait_any g H v.task v.action || items_any g I v.task v.action in
        let fa = action_any f v.action in
        let ga = action_any g v.action in
        let fh = held_any f (held_by (own v.task H)) in
        let gh = held_any g (held_by (own v.task H)) in
        ap (λ b. both (Task v.task) || b)
        (ap₂ (λ b c. b || c) (held_more (held_by (own v.task H)))
        (ap₂ (λ b c. b || c) (action_more v.action) last_more ∙ two fa ga fw gw)
        ∙ two fh gh (fa || fw) (ga || gw))
        ∙ two (f (Task v.task)) (g (Task v.task)) (fh || (fa || fw)) (gh || (ga || gw))

-- nothing is taken of no keys
abbrev none : Key → Bool
none k = false

held_none : (o : Option Name) → held_any none o ≡ false
held_none None = refl
held_none (Some w) = refl

action_none : (a : Action) → action_any none a ≡ false
action_none (Load r c x) = refl
action_none (Store c x) = refl
action_none (Print x) = refl
action_none _ = refl

wait_none : (H : History) (t : Name) (a : Action) → wait_any none H t a ≡ false
wait_none H t (Wait items) = and_none (has_no_items items)
wait_none H t Close = any_none (innermost (groups (own t H)))
wait_none H t _ = refl

place_none : (p : Name) (pl : Place) (m : ℕ) → place_any none p pl m ≡ false
place_none p (Cell c) m = refl
place_none p All m = refl

item_none : (p : Name) (s : Bool) (i : AnItem) → item_any none p s i ≡ false
item_none p s i =
    any_same (kind_any none p s i) (λ k. false) (λ k. ap (λ b. comes_behind s i.kind k && b) (place_none p i.place (kind_number k)) ∙ and_none (comes_behind s i.kind k)) kinds

list_none : (p : Name) (s : Bool) (items : List AnItem) → list_any (item_any none p s) items ≡ false
list_none p s items = any_same (item_any none p s) (λ i. false) (item_none p s) items ∙ any_none items

items_none : (I : Name → List AnItem) (t : Name) (a : Action) → items_any none I t a ≡ false
items_none I [] Start = refl
items_none I (n ∷ p) Start = list_none p true (I (n ∷ p))
items_none I t (Wait items) = list_none t false items
items_none I t _ = refl

pub takes_none : (I : Name → List AnItem) (H : History) (v : Event) → takes_any none I H v ≡ false
takes_none I H v =
    ap₂ (λ a b. a || b) (held_none (held_by (own v.task H)))
    (ap₂ (λ a b. a || b) (action_none v.action) (ap₂ (λ a b. a || b) (wait_none H v.task v.action) (items_none I v.task v.action)))

-- keys that are known alike are asked for alike
module _ (f g : Key → Bool) (same : (k : Key) → f k ≡ g k) where
  held_same : (o : Option Name) → held_any f o ≡ held_any g o
  held_same None = refl
  held_same (Some w) = same (Ended w)

  action_same : (a : Action) → action_any f a ≡ action_any g a
  action_same (Load r c x) = same (Stored c)
  action_same (Store c x) = same (Touched c)
  action_same (Print x) = same Printed
  action_same _ = refl

  wait_same : (H : History) (t : Name) (a : Action) → wait_any f H t a ≡ wait_any g H t a
  wait_same H t (Wait items) = ap (λ b. has_no_items items && b) (same (Parent t))
  wait_same H t Close = any_same (λ c. f (Within c)) (λ c. g (Within c)) (λ c. same (Within c)) (innermost (groups (own t H)))
  wait_same H t _ = refl

  place_alike : (p : Name) (pl : Place) (m : ℕ) → place_any f p pl m ≡ place_any g p pl m
  place_alike p (Cell c) m = ap₂ (λ a b. a || b) (same (Item p m c)) (same (Item p (m + 2) 0))
  place_alike p All m = ap₂ (λ a b. a || b) (same (Item p (m + 1) 0)) (same (Item p (m + 2) 0))

  list_same : (p : Name) (s : Bool) (items : List AnItem) → list_any (item_any f p s) items ≡ list_any (item_any g p s) items
  list_same p s items =
      any_same (item_any f p s) (item_any g p s)
      (λ i. any_same (kind_any f p s i) (kind_any g p s i) (λ k. ap (λ b. comes_behind s i.kind k && b) (place_alike p i.place (kind_number k))) kinds) items

  items_same : (I : Name → List AnItem) (t : Name) (a : Action) → items_any f I t a ≡ items_any g I t a
  items_same I [] Start = refl
  items_same I (n ∷ p) Start = list_same p true (I (n ∷ p))
  items_same I t (Wait items) = list_same t false items
  items_same I t _ = refl

  pub takes_same : (I : Name → List AnItem) (H : History) (v : Event) → takes_any f I H v ≡ takes_any g I H v
  takes_same I H v =
      ap₂ (λ a b. a || b) (same (Task v.task))
      (ap₂ (λ a b. a || b) (held_same (held_by (own v.task H)))
      (ap₂ (λ a b. a || b) (action_same v.action) (ap₂ (λ a b. a || b) (wait_same H v.task v.action) (items_same I v.task v.action))))

-- what is taken of the keys that some of the events gives, is taken of those that one of them gives
pub taken_of_some : (I : Name → List AnItem) (H : History) (v : Event) (F : History) → takes_any (λ k. list_any (λ u. gives I u k) F) I H v ≡ list_any (λ u. takes_any (gives I u) I H v) F
taken_of_some I H v [] = takes_none I H v
taken_of_some I H v (u ∷ F) =
    takes_more (gives I u) (λ k. list_any (λ w. gives I w k) F) I H v ∙ ap (λ b. takes_any (gives I u) I H v || b) (taken_of_some I H v F)
