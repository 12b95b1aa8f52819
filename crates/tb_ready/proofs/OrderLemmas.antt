-- The order of the marked names, when the table changes.
use Rattle.std.proofs.Common.{◌≡◌, ◌≢◌, ◌<◌, ◌≤◌, ◌+◌, ◌-◌, ℕ, suc, Bool, true, false, cond, not, List, [], ◌∷◌, ◌++◌, length, Option, Some, None, arith, refl, ap, ap₂, sym, ◌∙◌, get_or, ◌⊎◌, inl, inr}
use Rattle.std.specs.Prelude.{remove, IsTrue, unwrap_or}
use Rattle.std.specs.List.{list_any}
use Rattle.std.specs.declared.cmp.Ordering.{Ordering}
use Rattle.std.specs.declared.cmp.Ordering.TheVariants.{Less, Equal, Greater}
use Rattle.std.specs.Ordering.{is_lt, is_le, is_eq, ordering_reverse}
use Rattle.std.specs.Result.{OnErr, IsOk}
use Rattle.std.proofs.Common.{Result, Ok, Err}
use Rattle.std.proofs.lemmas.Bool.{both_ways, false_from_ne_true, false≢true, cases_lt, cases_eq, le-ltb, lt-ltb, and_parts, and_from, not-true, not_from_false}
use Rattle.std.proofs.lemmas.Cmp.{tied_itself}
use Rattle.tb_model.specs.Names.{Name, same_name, name_cmp}
use Rattle.tb_model.specs.NameLaws.{name_cmp_total, name_cmp_ties}
use Rattle.tb_model.proofs.TestLemmas.{same_true}
use Rattle.tb_ready.specs.Tasks.{mark_of, is_candidate, IsLeast}
use Rattle.tb_ready.specs.Layout.{name_at, mark_at, set_at, AreUnique}
use Rattle.tb_ready.specs.Order.{IsOrder, IsPlace, moved_up}
use Rattle.tb_ready.proofs.TasksLemmas as task

abbrev Table : Type 0
Table = List (Name × Bool)

-- ---- names in order

pub not_less_itself : (n : Name) → name_cmp n n ≡ Less → false ≡ true
not_less_itself n h = ap is_lt (sym (tied_itself name_cmp_total n)) ∙ ap is_lt h

not_less_less : (m n : Name) → is_lt (name_cmp m n) ≡ false → name_cmp m n ≡ Less → false ≡ true
not_less_less m n h e = sym h ∙ ap is_lt e

-- who isn't less and isn't the same is greater
pub less_behind : (m n : Name) → is_lt (name_cmp m n) ≡ false → m ≢ n → name_cmp n m ≡ Less
less_behind m n h d = at (name_cmp m n) refl h
  where
    at : (o : Ordering) → name_cmp m n ≡ o → is_lt o ≡ false → name_cmp n m ≡ Less
    at Less e l = absurd (false≢true (sym l))
    at Equal e l = absurd (d (same_true m n (name_cmp_ties m n ∙ ap is_eq e)))
    at Greater e l = name_cmp_total.antisymm n m ∙ ap ordering_reverse e

pub ok_unless : {T E : Type 0} {P : Type 0} (r : Result T E) → OnErr r P → (P → ⊥) → IsOk r
ok_unless (Ok x) h n = refl
ok_unless (Err e) h n = absurd (n h)

pub less_from_test : (o : Ordering) → is_lt o ≡ true → o ≡ Less
less_from_test Less h = refl
less_from_test Equal h = absurd (false≢true h)
less_from_test Greater h = absurd (false≢true h)

-- ---- binary search

module _ (ts : Table) (o : List ℕ) (ord : IsOrder ts o) (name : Name) (middle : ℕ) (within : middle < length o) where
  pub below_half : name_cmp (name_at ts (get_or o middle 0)) name ≡ Less → (a : ℕ) → a < middle + 1 → name_cmp (name_at ts (get_or o a 0)) name ≡ Less
  below_half less a h = at (cases_lt a middle)
    where
      at : (a < middle) ⊎ (middle ≤ a) → name_cmp (name_at ts (get_or o a 0)) name ≡ Less
      at (inl l) = name_cmp_total.trans (name_at ts (get_or o a 0)) (name_at ts (get_or o middle 0)) name (ord.rising a middle l within) less
      at (inr l) = let e : a ≡ middle = omega arith in ap (λ k. name_cmp (name_at ts (get_or o k 0)) name) e ∙ less

  pub above_half : is_lt (name_cmp (name_at ts (get_or o middle 0)) name) ≡ false → (a : ℕ) → middle ≤ a → a < length o → is_lt (name_cmp (name_at ts (get_or o a 0)) name) ≡ false
  above_half more a h w = at (cases_lt middle a)
    where
      at : (middle < a) ⊎ (a ≤ middle) → is_lt (name_cmp (name_at ts (get_or o a 0)) name) ≡ false
      at (inl l) = above l (name_cmp (name_at ts (get_or o a 0)) name) refl
        where
          above : middle < a → (r : Ordering) → name_cmp (name_at ts (get_or o a 0)) name ≡ r → is_lt r ≡ false
          above l Less e =
              absurd (false≢true (not_less_less (name_at ts (get_or o middle 0)) name more
              (name_cmp_total.trans (name_at ts (get_or o middle 0)) (name_at ts (get_or o a 0)) name (ord.rising middle a l w) e)))
          above l Equal e = refl
          above l Greater e = refl
      at (inr l) = let e : a ≡ middle = omega arith in ap (λ k. is_lt (name_cmp (name_at ts (get_or o k 0)) name)) e ∙ more

-- ---- a name is marked

module _ (ts : Table) (o : List ℕ) (ord : IsOrder ts o) where
  pub within_order : (a : ℕ) → a < length o → get_or o a 0 < length ts
  within_order a h = task.mark_within ts (get_or o a 0) (ord.marked a h)

  -- no index is there twice
  distinct : (a b : ℕ) → a ≢ b → a < length o → b < length o → get_or o a 0 ≢ get_or o b 0
  distinct a b d ha hb same = at (cases_lt a b)
    where
      at : (a < b) ⊎ (b ≤ a) → ⊥
      at (inl l) = false≢true (not_less_itself (name_at ts (get_or o a 0)) (ap (λ i. name_cmp (name_at ts (get_or o a 0)) (name_at ts i)) same ∙ ord.rising a b l hb))
      at (inr l) =
          let l2 : b < a = omega (arith, d) in
          false≢true (not_less_itself (name_at ts (get_or o b 0)) (ap (λ i. name_cmp (name_at ts (get_or o b 0)) (name_at ts i)) (sym same) ∙ ord.rising b a l2 ha))

  pub few : (i : ℕ) → i < length ts → mark_at ts i ≡ false → length o < length ts
  few i h e = let c = task.count_below ts i h e in omega (arith, c, ord.counted)

  -- after the last name no index moves
  pub none_moves : (gone : ℕ) → gone + 1 ≡ length ts → (a : ℕ) → a < length o → get_or o a 0 ≡ moved_up gone (get_or o a 0)
  none_moves gone last a h =
      let w = within_order a h in
      ap (λ b. cond b (get_or o a 0 - 1) (get_or o a 0)) (sym (le-ltb gone (get_or o a 0) (omega (arith, w))))

  pub at_most : length o ≤ length ts
  at_most = let c = task.count_at_most ts in omega (arith, c, ord.counted)

  -- the table has one name more
  pub order_push : (name : Name) → IsOrder (ts ++ (name, false) ∷ []) o
  order_push name = record {
    rising = λ a b l h.
        ap₂ name_cmp (task.name_push ts (name, false) (get_or o a 0) (within_order a (omega arith))) (task.name_push ts (name, false) (get_or o b 0) (within_order b h))
        ∙ ord.rising a b l h;
    marked = λ a h. task.mark_push ts name (get_or o a 0) ∙ ord.marked a h;
    all = λ i h. ord.all i (sym (task.mark_push ts name i) ∙ h);
    counted = ord.counted ∙ sym (task.count_push ts name);
  }

  -- where a marked name is found
  pub place_here : (i p : ℕ) → mark_at ts i ≡ true → IsPlace ts o (name_at ts i) p → (p < length o) × (get_or o p 0 ≡ i)
  place_here i p m place = at (ord.all i m)
    where
      at : (a : ℕ) × (a < length o) × (get_or o a 0 ≡ i) → (p < length o) × (get_or o p 0 ≡ i)
      at (a, w, e) = is (cases_lt a p) (cases_lt p a)
        where
          is : (a < p) ⊎ (p ≤ a) → (p < a) ⊎ (a ≤ p) → (p < length o) × (get_or o p 0 ≡ i)
          is (inl l) q = absurd (false≢true (not_less_itself (name_at ts i) (ap (λ j. name_cmp (name_at ts j) (name_at ts i)) (sym e) ∙ place.below a l)))
          is (inr l) (inl g) =
              absurd (false≢true (not_less_less (name_at ts (get_or o p 0)) (name_at ts i) (place.above p (omega arith) (omega arith))
              (ap (λ j. name_cmp (name_at ts (get_or o p 0)) (name_at ts j)) (sym e) ∙ ord.rising p a g w)))
          is (inr l) (inr g) = let same : p ≡ a = omega arith in (omega arith, ap (λ k. get_or o k 0) same ∙ e)

  -- ---- one more is marked

  module _ (uniq : AreUnique ts) (o2 : List ℕ) (p i : ℕ) (there : i < length ts) (unmarked : mark_at ts i ≡ false) (place : IsPlace ts o (name_at ts i) p)
      (len : length o2 ≡ length o + 1) (here : get_or o2 p 0 ≡ i)
      (below : (k : ℕ) → k < p → get_or o2 k 0 ≡ get_or o k 0) (above : (k : ℕ) → p < k → get_or o2 k 0 ≡ get_or o (k - 1) 0) where
    behind : (a : ℕ) → p ≤ a → a < length o → name_cmp (name_at ts i) (name_at ts (get_or o a 0)) ≡ Less
    behind a h w =
        less_behind (name_at ts (get_or o a 0)) (name_at ts i) (place.above a h w)
        (λ same. let e = uniq (get_or o a 0) i (within_order a w) there same in
        both_ways (mark_at ts i) unmarked (ap (mark_at ts) (sym e) ∙ ord.marked a w))

    less_set : (x y x2 y2 : ℕ) → x2 ≡ x → y2 ≡ y → name_cmp (name_at ts x) (name_at ts y) ≡ Less → name_cmp (name_at (set_at ts i true) x2) (name_at (set_at ts i true) y2) ≡ Less
    less_set x y x2 y2 ex ey h =
        ap₂ name_cmp (task.name_set ts i x2 true ∙ ap (name_at ts) ex) (task.name_set ts i y2 true ∙ ap (name_at ts) ey) ∙ h

    rising_in : (a b : ℕ) → a < b → b < length o2 → name_cmp (name_at (set_at ts i true) (get_or o2 a 0)) (name_at (set_at ts i true) (get_or o2 b 0)) ≡ Less
    rising_in a b l h = at (cases_lt b p) (cases_eq b p) (cases_lt a p) (cases_eq a p)
      where
        at : (b < p) ⊎ (p ≤ b) → (b ≡ p) ⊎ (b ≢ p) → (a < p) ⊎ (p ≤ a) → (a ≡ p) ⊎ (a ≢ p)
            → name_cmp (name_at (set_at ts i true) (get_or o2 a 0)) (name_at (set_at ts i true) (get_or o2 b 0)) ≡ Less
        at (inl x) q r s = less_set (get_or o a 0) (get_or o b 0) _ _ (below a (omega arith)) (below b x) (ord.rising a b l (omega (arith, place.within)))
        at (inr x) (inl e) r s =
            less_set (get_or o a 0) i _ _ (below a (omega arith)) (ap (λ k. get_or o2 k 0) e ∙ here) (place.below a (omega arith))
        at (inr x) (inr d) (inl y) s =
            let g : p < b = omega (arith, d) in
            less_set (get_or o a 0) (get_or o (b - 1) 0) _ _ (below a y) (above b g) (ord.rising a (b - 1) (omega arith) (omega arith))
        at (inr x) (inr d) (inr y) (inl e) =
            let g : p < b = omega (arith, d) in
            less_set i (get_or o (b - 1) 0) _ _ (ap (λ k. get_or o2 k 0) e ∙ here) (above b g) (behind (b - 1) (omega arith) (omega arith))
        at (inr x) (inr d) (inr y) (inr f) =
            let g : p < a = omega (arith, f) in
            less_set (get_or o (a - 1) 0) (get_or o (b - 1) 0) _ _ (above a g) (above b (omega arith)) (ord.rising (a - 1) (b - 1) (omega arith) (omega arith))

    mark_stays : (j : ℕ) → mark_at ts j ≡ true → mark_at (set_at ts i true) j ≡ true
    mark_stays j m = at (cases_eq j i)
      where
        at : (j ≡ i) ⊎ (j ≢ i) → mark_at (set_at ts i true) j ≡ true
        at (inl e) = absurd (both_ways (mark_at ts i) unmarked (ap (mark_at ts) (sym e) ∙ m))
        at (inr d) = task.mark_set_other ts i j true d ∙ m

    marked_in : (a : ℕ) → a < length o2 → mark_at (set_at ts i true) (get_or o2 a 0) ≡ true
    marked_in a h = at (cases_lt a p) (cases_eq a p)
      where
        at : (a < p) ⊎ (p ≤ a) → (a ≡ p) ⊎ (a ≢ p) → mark_at (set_at ts i true) (get_or o2 a 0) ≡ true
        at (inl l) q = ap (mark_at (set_at ts i true)) (below a l) ∙ mark_stays (get_or o a 0) (ord.marked a (omega (arith, place.within)))
        at (inr l) (inl e) = ap (λ k. mark_at (set_at ts i true) (get_or o2 k 0)) e ∙ ap (mark_at (set_at ts i true)) here ∙ task.mark_set_here ts i true there
        at (inr l) (inr d) =
            let g : p < a = omega (arith, d) in
            ap (mark_at (set_at ts i true)) (above a g) ∙ mark_stays (get_or o (a - 1) 0) (ord.marked (a - 1) (omega arith))

    all_in : (j : ℕ) → mark_at (set_at ts i true) j ≡ true → (a : ℕ) × (a < length o2) × (get_or o2 a 0 ≡ j)
    all_in j m = at (cases_eq j i)
      where
        old : (a : ℕ) × (a < length o) × (get_or o a 0 ≡ j) → (a : ℕ) × (a < length o2) × (get_or o2 a 0 ≡ j)
        old (a, w, e) = elim (cases_lt a p) [
          | inl l ↦ (a, omega arith, below a l ∙ e)
          | inr l ↦ (a + 1, omega arith, (let k : a + 1 - 1 ≡ a = omega arith in above (a + 1) (omega arith) ∙ ap (λ k. get_or o k 0) k ∙ e))
        ]

        at : (j ≡ i) ⊎ (j ≢ i) → (a : ℕ) × (a < length o2) × (get_or o2 a 0 ≡ j)
        at (inl e) = (p, omega (arith, place.within), here ∙ sym e)
        at (inr d) = old (ord.all j (sym (task.mark_set_other ts i j true d) ∙ m))

    pub order_in : IsOrder (set_at ts i true) o2
    order_in = record {
      rising = rising_in;
      marked = marked_in;
      all = all_in;
      counted = (let c = task.count_mark ts i there unmarked in omega (arith, c, ord.counted));
    }

  -- ---- one less is marked

  module _ (o2 : List ℕ) (p i : ℕ) (there : i < length ts) (was : mark_at ts i ≡ true) (found : p < length o) (here : get_or o p 0 ≡ i)
      (len : length o2 + 1 ≡ length o)
      (below : (k : ℕ) → k < p → get_or o2 k 0 ≡ get_or o k 0) (above : (k : ℕ) → p ≤ k → get_or o2 k 0 ≡ get_or o (k + 1) 0) where
    less_out : (x y x2 y2 : ℕ) → x2 ≡ x → y2 ≡ y → name_cmp (name_at ts x) (name_at ts y) ≡ Less → name_cmp (name_at (set_at ts i false) x2) (name_at (set_at ts i false) y2) ≡ Less
    less_out x y x2 y2 ex ey h =
        ap₂ name_cmp (task.name_set ts i x2 false ∙ ap (name_at ts) ex) (task.name_set ts i y2 false ∙ ap (name_at ts) ey) ∙ h

    rising_out : (a b : ℕ) → a < b → b < length o2 → name_cmp (name_at (set_at ts i false) (get_or o2 a 0)) (name_at (set_at ts i false) (get_or o2 b 0)) ≡ Less
    rising_out a b l h = at (cases_lt b p) (cases_lt a p)
      where
        at : (b < p) ⊎ (p ≤ b) → (a < p) ⊎ (p ≤ a) → name_cmp (name_at (set_at ts i false) (get_or o2 a 0)) (name_at (set_at ts i false) (get_or o2 b 0)) ≡ Less
        at (inl x) q = less_out (get_or o a 0) (get_or o b 0) _ _ (below a (omega arith)) (below b x) (ord.rising a b l (omega arith))
        at (inr x) (inl y) = less_out (get_or o a 0) (get_or o (b + 1) 0) _ _ (below a y) (above b x) (ord.rising a (b + 1) (omega arith) (omega arith))
        at (inr x) (inr y) = less_out (get_or o (a + 1) 0) (get_or o (b + 1) 0) _ _ (above a y) (above b x) (ord.rising (a + 1) (b + 1) (omega arith) (omega arith))

    mark_left : (a : ℕ) → a ≢ p → a < length o → mark_at (set_at ts i false) (get_or o a 0) ≡ true
    mark_left a d h =
        task.mark_set_other ts i (get_or o a 0) false (λ e. distinct a p d h found (e ∙ sym here)) ∙ ord.marked a h

    marked_out : (a : ℕ) → a < length o2 → mark_at (set_at ts i false) (get_or o2 a 0) ≡ true
    marked_out a h = at (cases_lt a p)
      where
        at : (a < p) ⊎ (p ≤ a) → mark_at (set_at ts i false) (get_or o2 a 0) ≡ true
        at (inl l) = ap (mark_at (set_at ts i false)) (below a l) ∙ mark_left a (λ e. omega arith) (omega arith)
        at (inr l) = ap (mark_at (set_at ts i false)) (above a l) ∙ mark_left (a + 1) (λ e. omega arith) (omega arith)

    all_out : (j : ℕ) → mark_at (set_at ts i false) j ≡ true → (a : ℕ) × (a < length o2) × (get_or o2 a 0 ≡ j)
    all_out j m = old (ord.all j (sym (task.mark_set_other ts i j false other) ∙ m))
      where
        other : j ≢ i
        other e = both_ways (mark_at (set_at ts i false) i) (task.mark_set_here ts i false there) (ap (mark_at (set_at ts i false)) (sym e) ∙ m)

        old : (a : ℕ) × (a < length o) × (get_or o a 0 ≡ j) → (a : ℕ) × (a < length o2) × (get_or o2 a 0 ≡ j)
        old (a, w, e) = at (cases_lt a p) (cases_eq a p)
          where
            at : (a < p) ⊎ (p ≤ a) → (a ≡ p) ⊎ (a ≢ p) → (a : ℕ) × (a < length o2) × (get_or o2 a 0 ≡ j)
            at (inl l) q = (a, omega arith, below a l ∙ e)
            at (inr l) (inl same) = absurd (other (sym e ∙ ap (λ k. get_or o k 0) same ∙ here))
            at (inr l) (inr d) =
                let g : p < a = omega (arith, d) in
                let k : a - 1 + 1 ≡ a = omega arith in
                (a - 1, omega arith, above (a - 1) (omega arith) ∙ ap (λ k. get_or o k 0) k ∙ e)

    pub order_out : IsOrder (set_at ts i false) o2
    order_out = record {
      rising = rising_out;
      marked = marked_out;
      all = all_out;
      counted = (let c = task.count_unmark ts i there was in omega (arith, c, ord.counted));
    }

  -- ---- an unmarked name goes

  module _ (o2 : List ℕ) (gone : ℕ) (there : gone < length ts) (unmarked : mark_at ts gone ≡ false)
      (len : length o2 ≡ length o) (moved : (a : ℕ) → a < length o → get_or o2 a 0 ≡ moved_up gone (get_or o a 0)) where
    moved_below : (i : ℕ) → i ≤ gone → moved_up gone i ≡ i
    moved_below i h = ap (λ b. cond b (i - 1) i) (le-ltb gone i h)

    moved_above : (i : ℕ) → gone < i → moved_up gone i ≡ i - 1
    moved_above i h = ap (λ b. cond b (i - 1) i) (lt-ltb gone i h)

    name_moved : (i : ℕ) → i ≢ gone → name_at (remove ts gone) (moved_up gone i) ≡ name_at ts i
    name_moved i d = at (cases_lt i gone)
      where
        at : (i < gone) ⊎ (gone ≤ i) → name_at (remove ts gone) (moved_up gone i) ≡ name_at ts i
        at (inl l) = ap (name_at (remove ts gone)) (moved_below i (omega arith)) ∙ task.name_remove_below ts gone i l
        at (inr l) =
            let g : gone < i = omega (arith, d) in
            let k : suc (i - 1) ≡ i = omega arith in
            ap (name_at (remove ts gone)) (moved_above i g) ∙ task.name_remove_above ts gone (i - 1) (omega arith) ∙ ap (name_at ts) k

    mark_moved : (i : ℕ) → i ≢ gone → mark_at (remove ts gone) (moved_up gone i) ≡ mark_at ts i
    mark_moved i d = at (cases_lt i gone)
      where
        at : (i < gone) ⊎ (gone ≤ i) → mark_at (remove ts gone) (moved_up gone i) ≡ mark_at ts i
        at (inl l) = ap (mark_at (remove ts gone)) (moved_below i (omega arith)) ∙ task.mark_remove_below ts gone i l
        at (inr l) =
            let g : gone < i = omega (arith, d) in
            let k : suc (i - 1) ≡ i = omega arith in
            ap (mark_at (remove ts gone)) (moved_above i g) ∙ task.mark_remove_above ts gone (i - 1) (omega arith) ∙ ap (mark_at ts) k

    other : (a : ℕ) → a < length o → get_or o a 0 ≢ gone
    other a h e = both_ways (mark_at ts gone) unmarked (ap (mark_at ts) (sym e) ∙ ord.marked a h)

    all_left : (j : ℕ) → mark_at (remove ts gone) j ≡ true → (a : ℕ) × (a < length o2) × (get_or o2 a 0 ≡ j)
    all_left j m = elim (cases_lt j gone) [
      | inl l ↦ old j (moved_below j (omega arith)) (ord.all j (sym (task.mark_remove_below ts gone j l) ∙ m))
      | inr l ↦
          let k : suc j - 1 ≡ j = omega arith in
          old (suc j) (moved_above (suc j) (omega arith) ∙ k) (ord.all (suc j) (sym (task.mark_remove_above ts gone j l) ∙ m))
    ]
      where
        old : (i : ℕ) → moved_up gone i ≡ j → (a : ℕ) × (a < length o) × (get_or o a 0 ≡ i) → (a : ℕ) × (a < length o2) × (get_or o2 a 0 ≡ j)
        old i same (a, w, e) = (a, omega arith, moved a w ∙ ap (moved_up gone) e ∙ same)

    pub order_left : IsOrder (remove ts gone) o2
    order_left = record {
      rising = λ a b l h.
          let w : b < length o = omega arith in
          ap₂ (λ i j. name_cmp (name_at (remove ts gone) i) (name_at (remove ts gone) j)) (moved a (omega arith)) (moved b w)
          ∙ ap₂ name_cmp (name_moved (get_or o a 0) (other a (omega arith))) (name_moved (get_or o b 0) (other b w))
          ∙ ord.rising a b l w;
      marked = λ a h.
          let w : a < length o = omega arith in
          ap (mark_at (remove ts gone)) (moved a w) ∙ mark_moved (get_or o a 0) (other a w) ∙ ord.marked a w;
      all = all_left;
      counted = (let c = task.count_remove ts gone there unmarked in omega (arith, c, ord.counted));
    }

  -- ---- the least marked name

  module _ (skip : List Name) where
    abbrev pub skipped : Name → Bool
    skipped name = list_any (λ s. same_name s name) skip

    -- a candidate is in the order
    pub candidate_at : (name : Name) → IsTrue (is_candidate ts skip name) → (a : ℕ) × (a < length o) × (name_at ts (get_or o a 0) ≡ name) × (skipped name ≡ false)
    candidate_at name h = at (mark_of ts name) refl
      where
        parts : (unwrap_or (mark_of ts name) false ≡ true) × (not (skipped name) ≡ true)
        parts = and_parts (unwrap_or (mark_of ts name) false) (not (skipped name)) h

        found : (i : ℕ) × (i < length ts) × (name_at ts i ≡ name) × (mark_at ts i ≡ true) → (a : ℕ) × (a < length o) × (name_at ts (get_or o a 0) ≡ name) × (skipped name ≡ false)
        found (i, w, e, m) = let r = ord.all i m in (r.0, r.1, ap (name_at ts) r.2 ∙ e, not-true (skipped name) parts.1)

        at : (q : Option Bool) → mark_of ts name ≡ q → (a : ℕ) × (a < length o) × (name_at ts (get_or o a 0) ≡ name) × (skipped name ≡ false)
        at None e = absurd (false≢true (ap (λ m. unwrap_or m false) (sym e) ∙ parts.0))
        at (Some mark) e =
            let m : mark ≡ true = ap (λ m. unwrap_or m false) (sym e) ∙ parts.0 in
            found (task.stands ts name true (e ∙ ap Some m))

    pub least_none : ((a : ℕ) → a < length o → skipped (name_at ts (get_or o a 0)) ≡ true) → (name : Name) → is_candidate ts skip name ≡ false
    least_none all name = false_from_ne_true (is_candidate ts skip name) (λ h. let r = candidate_at name h in
        both_ways (skipped name) r.3 (ap skipped (sym r.2) ∙ all r.0 r.1))

    pub least_some : AreUnique ts → (q : ℕ) → q < length o → ((a : ℕ) → a < q → skipped (name_at ts (get_or o a 0)) ≡ true)
        → skipped (name_at ts (get_or o q 0)) ≡ false → IsLeast ts skip (Some (name_at ts (get_or o q 0)))
    least_some uniq q h front own = (candidate, least)
      where
        candidate : IsTrue (is_candidate ts skip (name_at ts (get_or o q 0)))
        candidate =
            and_from (unwrap_or (mark_of ts (name_at ts (get_or o q 0))) false) (not (skipped (name_at ts (get_or o q 0))))
            (ap (λ m. unwrap_or m false) (task.mark_of_at ts (get_or o q 0) uniq (within_order q h)) ∙ ord.marked q h)
            (not_from_false (skipped (name_at ts (get_or o q 0))) own)

        least : (name : Name) → IsTrue (is_candidate ts skip name) → IsTrue (is_le (name_cmp (name_at ts (get_or o q 0)) name))
        least name c = at (candidate_at name c)
          where
            at : (a : ℕ) × (a < length o) × (name_at ts (get_or o a 0) ≡ name) × (skipped name ≡ false) → IsTrue (is_le (name_cmp (name_at ts (get_or o q 0)) name))
            at (a, w, e, s) = is (cases_lt a q) (cases_lt q a)
              where
                is : (a < q) ⊎ (q ≤ a) → (q < a) ⊎ (a ≤ q) → IsTrue (is_le (name_cmp (name_at ts (get_or o q 0)) name))
                is (inl l) r = absurd (both_ways (skipped name) s (ap skipped (sym e) ∙ front a l))
                is (inr l) (inl g) = ap is_le (ap (name_cmp (name_at ts (get_or o q 0))) (sym e) ∙ ord.rising q a g w)
                is (inr l) (inr g) =
                    let same : q ≡ a = omega arith in
                    ap is_le (ap (λ k. name_cmp (name_at ts (get_or o k 0)) name) same ∙ ap (λ n. name_cmp n name) e ∙ tied_itself name_cmp_total name)
