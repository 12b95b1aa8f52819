-- The relations of siblings.
use Rattle.std.proofs.Common.{◌≡◌, ◌<◌, ◌≤◌, ◌+◌, ◌-◌, ℕ, zero, suc, List, [], ◌∷◌, ◌++◌, Bool, true, false, ◌&&◌, ◌||◌, ◌==◌, cond, length, take, refl, sym, ap, ap₂, ◌∙◌, ◌⊎◌, inl, inr, arith, nat_lt, eqb-true, eq-eqb}
use Rattle.std.specs.Prelude.{min, Contains, IsTrue, ◌↔◌}
use Rattle.std.proofs.lemmas.Bool.{le-ltb, cases_lt, and_parts, or_cases, both_ways, false≢true}
use Rattle.std.proofs.lemmas.List.{length-append}
use Rattle.std.proofs.Math.Seq.{take-append_seam}
use Rattle.tb_model.specs.declared.item.Item.{Item}
use Rattle.tb_model.specs.declared.action.Action.{Action}
use Rattle.tb_model.specs.declared.action.Action.TheVariants.{Spawn}
use Rattle.tb_model.specs.Items.{Relation, is_before, is_apart, some_meet, has_no_items}
use Rattle.tb_model.specs.Legal.{spawn_count}
use Rattle.tb_model.specs.Siblings.{nth_items, child_before, child_apart, child_covered}
use Rattle.tb_model.proofs.SiblingsLemmas.{meets_none}
use Rattle.tb_depend.specs.Relations.{items_at, depends, excludes, is_covered, preds_of, apart_of, covered_by, spawned_items}
use Rattle.tb_depend.specs.Numbers.{numbers_where}
use Rattle.tb_depend.proofs.NumbersLemmas.{where_past, listed}

-- a child depends on none after it
pub preds_front : (siblings : List (List Item)) (n : ℕ) → numbers_where (depends siblings n) (min (length siblings) (n - 1)) ≡ preds_of siblings n
preds_front siblings n =
    where_past (depends siblings n) (min (length siblings) (n - 1)) (length siblings) (omega arith)
    (λ m above within. ap (λ b. b && some_meet is_before (items_at siblings n) (items_at siblings m)) (le-ltb m n (omega arith)))

-- ---- one more child

pub items_front : (siblings : List (List Item)) (items : List Item) (n : ℕ) → n ≤ length siblings → items_at (siblings ++ items ∷ []) n ≡ items_at siblings n
items_front siblings items zero h = refl
items_front [] items (suc k) h = absurd (omega arith)
items_front (s ∷ siblings) items (suc zero) h = refl
items_front (s ∷ siblings) items (suc (suc k)) h = items_front siblings items (suc k) (omega arith)

items_behind : (siblings : List (List Item)) (items : List Item) → items_at (siblings ++ items ∷ []) (suc (length siblings)) ≡ items
items_behind [] items = refl
items_behind (s ∷ siblings) items = items_behind siblings items

pub items_last : (siblings : List (List Item)) (items : List Item) → items_at (siblings ++ items ∷ []) (length siblings + 1) ≡ items
items_last siblings items =
    let e : length siblings + 1 ≡ suc (length siblings) = omega arith in
    ap (items_at (siblings ++ items ∷ [])) e ∙ items_behind siblings items

pub items_past : (siblings : List (List Item)) (n : ℕ) → length siblings < n → items_at siblings n ≡ []
items_past siblings zero h = absurd (omega arith)
items_past [] (suc k) h = refl
items_past (s ∷ siblings) (suc zero) h = absurd (omega arith)
items_past (s ∷ siblings) (suc (suc k)) h = items_past siblings (suc k) (omega arith)

pub take_added : (siblings : List (List Item)) (items : List Item) → take (length (siblings ++ items ∷ []) - 1) (siblings ++ items ∷ []) ≡ siblings
take_added siblings items =
    let n : length (siblings ++ items ∷ []) - 1 ≡ length siblings = omega (arith, length-append siblings (items ∷ [])) in
    ap (λ k. take k (siblings ++ items ∷ [])) n ∙ take-append_seam siblings (items ∷ [])

-- ---- the children of a task, read off its own actions

pub length_spawned : (acts : List Action) → length (spawned_items acts) ≡ spawn_count acts
length_spawned [] = refl
length_spawned (Spawn s ∷ acts) =
    let rest = length_spawned acts in omega (arith, rest, length-append (spawned_items acts) (s.items ∷ []))
length_spawned (_ ∷ acts) = length_spawned acts

pub items_spawned : (acts : List Action) (n : ℕ) → items_at (spawned_items acts) n ≡ nth_items n acts
items_spawned [] zero = refl
items_spawned [] (suc k) = refl
items_spawned (Spawn s ∷ acts) n = at (n == suc (spawn_count acts)) refl (items_spawned acts n)
  where
    last : n ≡ suc (length (spawned_items acts)) → items_at (spawned_items acts ++ s.items ∷ []) n ≡ s.items
    last e = ap (items_at (spawned_items acts ++ s.items ∷ [])) e ∙ items_behind (spawned_items acts) s.items

    behind : (n ≤ length (spawned_items acts)) ⊎ (suc (length (spawned_items acts)) < n) → items_at (spawned_items acts ++ s.items ∷ []) n ≡ items_at (spawned_items acts) n
    behind (inl h) = items_front (spawned_items acts) s.items n h
    behind (inr h) =
        items_past (spawned_items acts ++ s.items ∷ []) n (omega (arith, length-append (spawned_items acts) (s.items ∷ [])))
        ∙ sym (items_past (spawned_items acts) n (omega arith))

    side : (n == suc (spawn_count acts)) ≡ false → (n ≤ length (spawned_items acts)) ⊎ (suc (length (spawned_items acts)) < n)
    side other = elim (cases_lt (length (spawned_items acts)) n) [
      | inl h ↦ elim (cases_lt (suc (length (spawned_items acts))) n) [
        | inl g ↦ inr g
        | inr g ↦
            let e : n ≡ suc (spawn_count acts) = omega (arith, length_spawned acts) in
            absurd (both_ways (n == suc (spawn_count acts)) other (eq-eqb n (suc (spawn_count acts)) e))
      ]
      | inr h ↦ inl h
    ]

    at : (b : Bool) → (n == suc (spawn_count acts)) ≡ b → items_at (spawned_items acts) n ≡ nth_items n acts
        → items_at (spawned_items acts ++ s.items ∷ []) n ≡ cond b s.items (nth_items n acts)
    at true e rest = last (eqb-true n (suc (spawn_count acts)) e ∙ ap suc (sym (length_spawned acts)))
    at false e rest = behind (side e) ∙ rest
items_spawned (_ ∷ acts) n = items_spawned acts n

pub depends_spawned : (acts : List Action) (m n : ℕ) → depends (spawned_items acts) n m ≡ child_before acts m n
depends_spawned acts m n = ap (λ b. nat_lt m n && b) (ap₂ (some_meet is_before) (items_spawned acts n) (items_spawned acts m))

pub excludes_spawned : (acts : List Action) (m n : ℕ) → excludes (spawned_items acts) n m ≡ child_apart acts m n
excludes_spawned acts m n =
    ap₂ (λ b c. (nat_lt m n && b) || (nat_lt n m && c))
    (ap₂ (some_meet is_apart) (items_spawned acts n) (items_spawned acts m))
    (ap₂ (some_meet is_apart) (items_spawned acts m) (items_spawned acts n))

pub covered_spawned : (acts : List Action) (items : List Item) (n : ℕ) → is_covered (spawned_items acts) items n ≡ child_covered acts items n
covered_spawned acts items n = ap (λ b. has_no_items items || b) (ap (some_meet is_before items) (items_spawned acts n))

-- ---- who is no child is related to none

-- whose items meet some is a child
is_child_number : (siblings : List (List Item)) (m : ℕ) → (items_at siblings m ≡ [] → false ≡ true) → (1 ≤ m) × (m ≤ length siblings)
is_child_number siblings zero some = absurd (false≢true (some refl))
is_child_number siblings (suc k) some = (omega arith, at (cases_lt (length siblings) (suc k)))
  where
    at : (length siblings < suc k) ⊎ (suc k ≤ length siblings) → suc k ≤ length siblings
    at (inl h) = absurd (false≢true (some (items_past siblings (suc k) h)))
    at (inr h) = h

meets_old : (test : Relation → Bool) (siblings : List (List Item)) (new : List Item) (m : ℕ) → some_meet test new (items_at siblings m) ≡ true → (1 ≤ m) × (m ≤ length siblings)
meets_old test siblings new m h = is_child_number siblings m (λ e. sym (ap (some_meet test new) e ∙ meets_none test new) ∙ h)

meets_new : (test : Relation → Bool) (siblings : List (List Item)) (old : List Item) (m : ℕ) → some_meet test (items_at siblings m) old ≡ true → (1 ≤ m) × (m ≤ length siblings)
meets_new test siblings old m h = is_child_number siblings m (λ e. sym (ap (λ new. some_meet test new old) e) ∙ h)

depends_child : (siblings : List (List Item)) (n m : ℕ) → IsTrue (depends siblings n m) → (1 ≤ m) × (m ≤ length siblings)
depends_child siblings n m h =
    meets_old is_before siblings (items_at siblings n) m (and_parts (nat_lt m n) (some_meet is_before (items_at siblings n) (items_at siblings m)) h).1

excludes_child : (siblings : List (List Item)) (n m : ℕ) → IsTrue (excludes siblings n m) → (1 ≤ m) × (m ≤ length siblings)
excludes_child siblings n m h =
    elim (or_cases (nat_lt m n && some_meet is_apart (items_at siblings n) (items_at siblings m)) (nat_lt n m && some_meet is_apart (items_at siblings m) (items_at siblings n)) h) [
      | inl a ↦ meets_old is_apart siblings (items_at siblings n) m (and_parts (nat_lt m n) (some_meet is_apart (items_at siblings n) (items_at siblings m)) a).1
      | inr a ↦ meets_new is_apart siblings (items_at siblings n) m (and_parts (nat_lt n m) (some_meet is_apart (items_at siblings m) (items_at siblings n)) a).1
    ]

-- ---- the lists of a task's children

pub preds_spawned : (acts : List Action) (m n : ℕ) → Contains (preds_of (spawned_items acts) n) m ↔ IsTrue (child_before acts m n)
preds_spawned acts m n =
    let l = listed (depends (spawned_items acts) n) (length (spawned_items acts)) m in
    let e = depends_spawned acts m n in
    ((λ c. sym e ∙ (l.0 c).2), (λ h. let d : IsTrue (depends (spawned_items acts) n m) = e ∙ h in let w = depends_child (spawned_items acts) n m d in l.1 (w.0, w.1, d)))

pub apart_spawned : (acts : List Action) (m n : ℕ) → Contains (apart_of (spawned_items acts) n) m ↔ IsTrue (child_apart acts m n)
apart_spawned acts m n =
    let l = listed (excludes (spawned_items acts) n) (length (spawned_items acts)) m in
    let e = excludes_spawned acts m n in
    ((λ c. sym e ∙ (l.0 c).2), (λ h. let d : IsTrue (excludes (spawned_items acts) n m) = e ∙ h in let w = excludes_child (spawned_items acts) n m d in l.1 (w.0, w.1, d)))

pub covered_by_spawned : (acts : List Action) (items : List Item) (m : ℕ) → Contains (covered_by (spawned_items acts) items) m ↔ ((1 ≤ m) × (m ≤ spawn_count acts) × IsTrue (child_covered acts items m))
covered_by_spawned acts items m =
    let l = listed (is_covered (spawned_items acts) items) (length (spawned_items acts)) m in
    let e = covered_spawned acts items m in
    let n = length_spawned acts in
    ((λ c. let r = l.0 c in (r.0, omega (arith, n, r.1), sym e ∙ r.2)), (λ r. l.1 (r.0, omega (arith, n, r.1), e ∙ r.2)))
