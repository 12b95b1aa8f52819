-- What keys there are once some more are put in.
use Rattle.std.proofs.Common.{◌≡◌, ◌⊎◌, inl, inr, ⊎_elim, ◌≤◌, arith, ℕ, suc, List, [], ◌∷◌, Bool, true, false, nat_eq, ◌+◌, ◌&&◌, ◌||◌, Option, Some, None, refl, sym, ap, ap₂, ◌∙◌, length}
use Rattle.std.specs.List.{list_any}
use Rattle.std.proofs.lemmas.Bool.{or_cases, or_right}
use Rattle.tb_model.specs.declared.action.Action.TheVariants.{Start, Wait}
use Rattle.tb_model.specs.declared.item.Item.{Item as AnItem}
use Rattle.tb_model.specs.declared.place.Place.{Place}
use Rattle.tb_model.specs.declared.place.Place.TheVariants.{Cell, All}
use Rattle.tb_model.specs.Names.{Name, same_name, is_within, parent}
use Rattle.tb_model.proofs.AlikeLemmas.{any_same}
use Rattle.tb_model.proofs.TestLemmas.{same_true}
use Rattle.tb_cause.specs.Asked.{some_above, same_key, group_key, new_items_key}
use Rattle.tb_cause.specs.Keys.{Key, Task, Ended, Parent, Within, Item, Stored, Touched, Printed, IsUpward, place_key, place_any, kind_any, item_any, items_any, kinds, kind_number, comes_behind}
use Rattle.tb_cause.proofs.KeyLemmas.{same_turned, any_none, and_none, or_none}

-- ---- a task and those above it

abbrev pub is_above : Name → Option Name → Bool
is_above q None = false
is_above q (Some w) = is_within q w

abbrev pub depth : Option Name → ℕ
depth None = 0
depth (Some w) = suc (length w)

pub one_above : (q w : Name) (b : Bool) → (is_above q (parent w) || (same_name w q || b)) ≡ (is_within q w || b)
one_above q [] b = ap (λ x. x || b) (same_turned [] q)
one_above q (n ∷ m) b = at (same_name (n ∷ m) q) (is_within q m) ∙ ap (λ x. (x || is_within q m) || b) (same_turned (n ∷ m) q)
  where
    at : (x y : Bool) → (y || (x || b)) ≡ ((x || y) || b)
    at true true = refl
    at true false = refl
    at false true = refl
    at false false = refl

-- of t and those above it, all but next and those above that are put to those that were there; none of those put is as short as next
pub record IsPutSoFar (t : Name) (was now : Name → Bool) (next : Option Name) : Type 0 where
  pub put : (q : Name) → (is_above q next || now q) ≡ (is_within q t || was q)
  pub kept : (q : Name) → was q ≡ true → now q ≡ true
  pub low : (q : Name) → now q ≡ true → (was q ≡ true) ⊎ (depth next ≤ length q)

pub put_none : (t u : Name) (was : Name → Bool) → u ≡ t → IsPutSoFar t was was (Some u)
put_none t u was same = record {
  put = λ q. ap (λ w. is_within q w || was q) same;
  kept = λ q h. h;
  low = λ q h. inl h;
}

depth_above : (w : Name) → depth (parent w) ≤ length w
depth_above [] = omega arith
depth_above (n ∷ m) = omega arith

module _ (t : Name) (was now : Name → Bool) (next : Option Name) (so_far : IsPutSoFar t was now next) (name : Name) (is : next ≡ Some name) where
  pub put_one : (now' : Name → Bool) → ((q : Name) → now' q ≡ (same_name name q || now q)) → (next' : Option Name) → next' ≡ parent name → IsPutSoFar t was now' next'
  put_one now' changed next' up = record {
    put = λ q. ap₂ (λ a b. a || b) (ap (is_above q) up) (changed q) ∙ one_above q name (now q) ∙ ap (λ o. is_above q o || now q) (sym is) ∙ so_far.put q;
    kept = λ q h. changed q ∙ or_right (same_name name q) (now q) (so_far.kept q h);
    low = λ q h.
        ⊎_elim (λ s. inr (omega (arith, depth_above name, ap depth up, ap length (same_true name q s))))
        (λ o. ⊎_elim (λ a. inl a) (λ l. inr (omega (arith, l, ap depth is, ap depth up, depth_above name))) (so_far.low q o))
        (or_cases (same_name name q) (now q) (sym (changed q) ∙ h));
  }

  -- where next is there, those above it are too
  pub put_all : IsUpward was → now name ≡ true → (q : Name) → now q ≡ (is_within q t || was q)
  put_all upward h q = known (is_within q name) (now q) (λ w. so_far.kept q (upward q name w there)) ∙ ap (λ o. is_above q o || now q) (sym is) ∙ so_far.put q
    where
      there : was name ≡ true
      there = ⊎_elim (λ a. a) (λ l. absurd (omega (arith, l, ap depth is))) (so_far.low name h)

      known : (a b : Bool) → (a ≡ true → b ≡ true) → b ≡ (a || b)
      known true b f = f refl
      known false b f = refl

-- ---- an item

module _ (same : Bool) where
  pub at_a_cell : (m d n c : ℕ) (old mid new : Bool) → mid ≡ (((same && nat_eq (m + 1) n) && nat_eq 0 c) || old) → new ≡ (((same && nat_eq m n) && nat_eq d c) || mid) → new ≡ ((same && place_key m (Cell d) n c) || old)
  at_a_cell m d n c old mid new h k = k ∙ ap (λ b. ((same && nat_eq m n) && nat_eq d c) || b) h ∙ at same (nat_eq m n) (nat_eq d c) (nat_eq (m + 1) n) (nat_eq 0 c)
    where
      at : (s a b x y : Bool) → (((s && a) && b) || (((s && x) && y) || old)) ≡ ((s && ((a && b) || (x && y))) || old)
      at false a b x y = refl
      at true true true x y = refl
      at true true false x y = refl
      at true false b x y = refl

  pub everywhere : (m n c : ℕ) (old new : Bool) → new ≡ (((same && nat_eq (m + 2) n) && nat_eq 0 c) || old) → new ≡ ((same && place_key m All n c) || old)
  everywhere m n c old new h = h ∙ ap (λ b. b || old) (at same (nat_eq (m + 2) n) (nat_eq 0 c))
    where
      at : (s a b : Bool) → ((s && a) && b) ≡ (s && (a && b))
      at true a b = refl
      at false a b = refl

  -- and one more
  pub one_item : (before this old mid new all : Bool) → mid ≡ ((same && before) || old) → new ≡ ((same && this) || mid) → all ≡ (before || this) → new ≡ ((same && all) || old)
  one_item before this old mid new all h k a = k ∙ ap (λ b. (same && this) || b) h ∙ at same before this ∙ ap (λ b. (same && b) || old) (sym a)
    where
      at : (s x y : Bool) → ((s && y) || ((s && x) || old)) ≡ ((s && (x || y)) || old)
      at false x y = refl
      at true true true = refl
      at true true false = refl
      at true false true = refl
      at true false false = refl

-- ---- nothing but the last is taken
pub only_last : (a b c d e r : Bool) → a ≡ false → b ≡ false → c ≡ false → d ≡ false → r ≡ e → r ≡ (a || (b || (c || (d || e))))
only_last a b c d e r x y z w h = h ∙ sym (ap₂ (λ p q. p || q) x (ap₂ (λ p q. p || q) y (ap₂ (λ p q. p || q) z (ap (λ p. p || e) w))))

-- ---- a task and those above it, tested

abbrev pub passes_above : (Name → Bool) → Option Name → Bool
passes_above f None = false
passes_above f (Some w) = some_above f w

pub above_passes : (f : Name → Bool) (w : Name) → f w ≡ true → some_above f w ≡ true
above_passes f [] h = h
above_passes f (n ∷ m) h = ap (λ b. b || some_above f m) h

pub above_passed : (f : Name → Bool) (w : Name) → f w ≡ false → passes_above f (parent w) ≡ some_above f w
above_passed f [] h = sym h
above_passed f (n ∷ m) h = sym (ap (λ b. b || some_above f m) h)

-- ---- puts one after another

pub put_after : (a b old mid new : Bool) → mid ≡ (b || old) → new ≡ (a || mid) → new ≡ ((a || b) || old)
put_after true b old mid new h k = k
put_after false b old mid new h k = k ∙ h

pub one_put : (before this old mid new all : Bool) → mid ≡ (before || old) → new ≡ (this || mid) → all ≡ (before || this) → new ≡ (all || old)
one_put before this old mid new all h k a = k ∙ ap (λ b. this || b) h ∙ at before this ∙ ap (λ b. b || old) (sym a)
  where
    at : (x y : Bool) → (y || (x || old)) ≡ ((x || y) || old)
    at true true = refl
    at true false = refl
    at false true = refl
    at false false = refl

pub or_turned : (a b : Bool) → (a || b) ≡ (b || a)
or_turned true true = refl
or_turned true false = refl
or_turned false true = refl
or_turned false false = refl

module _ (a b c d e old one two three four new : Bool) (first : one ≡ (e || old)) (second : two ≡ (d || one)) (third : three ≡ (c || two)) (fourth : four ≡ (b || three)) (fifth : new ≡ (a || four)) where
  all_five : new ≡ (a || (b || (c || (d || (e || old)))))
  all_five = fifth ∙ ap (λ x. a || x) (fourth ∙ ap (λ x. b || x) (third ∙ ap (λ x. c || x) (second ∙ ap (λ x. d || x) first)))

  pub five_puts : new ≡ ((a || (b || (c || (d || e)))) || old)
  five_puts = all_five ∙ at a b c d
    where
      at : (a b c d : Bool) → (a || (b || (c || (d || (e || old))))) ≡ ((a || (b || (c || (d || e)))) || old)
      at true b c d = refl
      at false true c d = refl
      at false false true d = refl
      at false false false true = refl
      at false false false false = refl

  pub five_kinds : new ≡ ((a || (b || (c || (d || (e || false))))) || old)
  five_kinds = five_puts ∙ ap (λ x. (a || (b || (c || (d || x)))) || old) (sym (or_none e))

-- ---- what is asked for, key by key

pub group_asks : (us : List Name) (k : Key) → list_any (λ c. same_key (Within c) k) us ≡ group_key us k
group_asks us (Within q) = refl
group_asks us (Task t) = any_none us
group_asks us (Ended t) = any_none us
group_asks us (Parent t) = any_none us
group_asks us (Item t n c) = any_none us
group_asks us (Stored c) = any_none us
group_asks us (Touched c) = any_none us
group_asks us Printed = any_none us

module _ (f : Key → Bool) (no_item : (p : Name) (n c : ℕ) → f (Item p n c) ≡ false) where
  place_off : (p : Name) (q : Place) (m : ℕ) → place_any f p q m ≡ false
  place_off p (Cell c) m = ap₂ (λ a b. a || b) (no_item p m c) (no_item p (m + 2) 0)
  place_off p All m = ap₂ (λ a b. a || b) (no_item p (m + 1) 0) (no_item p (m + 2) 0)

  item_off : (p : Name) (s : Bool) (i : AnItem) → item_any f p s i ≡ false
  item_off p s i = any_same (kind_any f p s i) (λ k. false) (λ k. ap (λ b. comes_behind s i.kind k && b) (place_off p i.place (kind_number k)) ∙ and_none (comes_behind s i.kind k)) kinds

  items_off : (p : Name) (s : Bool) (items : List AnItem) → list_any (item_any f p s) items ≡ false
  items_off p s items = any_same (item_any f p s) (λ i. false) (item_off p s) items ∙ any_none items

pub items_ask : (p : Name) (s : Bool) (items : List AnItem) (k : Key) → list_any (item_any (λ a. same_key a k) p s) items ≡ new_items_key p s items k
items_ask p s items (Item t n c) = refl
items_ask p s items (Task t) = items_off (λ a. same_key a (Task t)) (λ q m d. refl) p s items
items_ask p s items (Ended t) = items_off (λ a. same_key a (Ended t)) (λ q m d. refl) p s items
items_ask p s items (Parent t) = items_off (λ a. same_key a (Parent t)) (λ q m d. refl) p s items
items_ask p s items (Within t) = items_off (λ a. same_key a (Within t)) (λ q m d. refl) p s items
items_ask p s items (Stored c) = items_off (λ a. same_key a (Stored c)) (λ q m d. refl) p s items
items_ask p s items (Touched c) = items_off (λ a. same_key a (Touched c)) (λ q m d. refl) p s items
items_ask p s items Printed = items_off (λ a. same_key a Printed) (λ q m d. refl) p s items

-- by the start of a child of p
pub start_asks : (f : Key → Bool) (I : Name → List AnItem) (t p : Name) (items : List AnItem) → parent t ≡ Some p → I t ≡ items → items_any f I t Start ≡ list_any (item_any f p true) items
start_asks f I [] p items h same = absurd (none_no_some p h)
  where
    none_no_some : (q : Name) → ◌≡◌ {A = Option Name} None (Some q) → ⊥
    none_no_some q z = cc
start_asks f I (n ∷ q) p items h same = ap₂ (λ u js. list_any (item_any f u true) js) (one q p h) same
  where
    one : (u v : Name) → ◌≡◌ {A = Option Name} (Some u) (Some v) → u ≡ v
    one u v z = cc

-- by a `taskwait`
pub wait_asks : (f : Key → Bool) (I : Name → List AnItem) (t : Name) (items : List AnItem) → items_any f I t (Wait items) ≡ list_any (item_any f t false) items
wait_asks f I [] items = refl
wait_asks f I (n ∷ p) items = refl
