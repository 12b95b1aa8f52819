-- The next marked name is at the first index after a name.
use Rattle.std.proofs.Common.{◌≡◌, ◌≢◌, ◌<◌, ◌≤◌, ◌+◌, ℕ, Bool, true, false, List, [], length, Option, Some, None, arith, refl, ap, sym, ◌∙◌, subst, get_or, ◌⊎◌, inl, inr}
use Rattle.std.specs.Prelude.{unwrap_or}
use Rattle.std.specs.declared.cmp.Ordering.TheVariants.{Less}
use Rattle.std.specs.Ordering.{is_lt, ordering_reverse}
use Rattle.std.proofs.lemmas.Cmp.{tied_itself}
use Rattle.std.proofs.lemmas.Bool.{cases_lt, and_from, false≢true}
use Rattle.tb_model.specs.Names.{Name, name_cmp}
use Rattle.tb_model.specs.NameLaws.{name_cmp_total}
use Rattle.tb_model.specs.LeastNames.{IsAtMost, IsLeastName}
use Rattle.tb_model.proofs.LeastNameLemmas.{at_most_itself}
use Rattle.tb_ready.specs.Tasks.{mark_of, IsBehind, IsMarkedBehind}
use Rattle.tb_ready.specs.Layout.{name_at, AreUnique}
use Rattle.tb_ready.specs.Order.{IsOrder, IsPlace, IsFirstBehind}
use Rattle.tb_ready.proofs.TasksLemmas as task
use Rattle.tb_ready.proofs.OrderLemmas.{less_behind, not_less_itself, within_order, candidate_at}

-- of two names only one is less
one_less : (m n : Name) → name_cmp m n ≡ Less → name_cmp n m ≡ Less → ⊥
one_less m n h g = cc (name_cmp_total.antisymm m n, h, ap ordering_reverse g)

module _ (ts : List (Name × Bool)) (o : List ℕ) (ord : IsOrder ts o) where
  abbrev at : ℕ → Name
  at a = name_at ts (get_or o a 0)

  pub first_of_all : IsFirstBehind ts o None 0
  first_of_all = record { passed = λ a l b. absurd (omega (arith, l)); behind = λ a h w. tt }

  -- a name that is in the order is at its index
  pub place_of_itself : (name : Name) (p : ℕ) → p < length o → at p ≡ name → IsPlace ts o name p
  place_of_itself name p h e = record {
    within = omega (arith, h);
    below = λ a l. ap (name_cmp (at a)) (sym e) ∙ ord.rising a p l h;
    above = λ a l w. ap (λ n. is_lt (name_cmp (at a) n)) (sym e) ∙ not_less a l w (cases_lt p a);
  }
    where
      not_less : (a : ℕ) → p ≤ a → a < length o → (p < a) ⊎ (a ≤ p) → is_lt (name_cmp (at a) (at p)) ≡ false
      not_less a l w (inl x) = ap is_lt (name_cmp_total.antisymm (at a) (at p) ∙ ap ordering_reverse (ord.rising p a x w))
      not_less a l w (inr x) =
          let same : a ≡ p = omega (arith, l, x) in
          ap (λ n. is_lt (name_cmp n (at p))) (ap at same) ∙ ap is_lt (tied_itself name_cmp_total (at p))

  module _ (name : Name) (p : ℕ) (place : IsPlace ts o name p) where
    -- the name itself is there
    pub behind_itself : p < length o → at p ≡ name → IsFirstBehind ts o (Some name) (p + 1)
    behind_itself h e = record { passed = λ a l b. passed a l b (cases_lt a p); behind = λ a l w. sym (ap (λ n. name_cmp n (at a)) e) ∙ ord.rising p a (omega (arith, l)) w }
      where
        passed : (a : ℕ) → a < p + 1 → name_cmp name (at a) ≡ Less → (a < p) ⊎ (p ≤ a) → ⊥
        passed a l b (inl x) = one_less name (at a) b (place.below a x)
        passed a l b (inr x) =
            let same : a ≡ p = omega (arith, l, x) in
            false≢true (not_less_itself name (ap (name_cmp name) (sym e ∙ ap at (sym same)) ∙ b))

    -- another one does, or none
    pub behind_others : (p < length o → at p ≢ name) → IsFirstBehind ts o (Some name) p
    behind_others other = record { passed = λ a l b. one_less name (at a) b (place.below a l); behind = λ a h w. less_behind (at a) name (place.above a h w) (differs a h w (cases_lt p a)) }
      where
        differs : (a : ℕ) → p ≤ a → a < length o → (p < a) ⊎ (a ≤ p) → at a ≢ name
        differs a h w (inr x) e = let same : p ≡ a = omega (arith, h, x) in other (omega (arith, same, w)) (ap at same ∙ e)
        differs a h w (inl x) e =
            -- the one at p would be less than the name
            one_less name (at p) (less_behind (at p) name (place.above p (omega arith) (omega (arith, x, w))) (other (omega (arith, x, w)))) (ap (name_cmp (at p)) (sym e) ∙ ord.rising p a x w)

  -- a marked name is in the order
  marked_at : (name : Name) → unwrap_or (mark_of ts name) false ≡ true → (a : ℕ) × (a < length o) × (at a ≡ name)
  marked_at name m = let r = candidate_at ts o ord [] name (and_from (unwrap_or (mark_of ts name) false) true m refl) in (r.0, r.1, r.2)

  module _ (after : Option Name) (p : ℕ) (first : IsFirstBehind ts o after p) where
    behind_at : (name : Name) → IsMarkedBehind ts after name → (a : ℕ) × (a < length o) × (at a ≡ name) × (p ≤ a)
    behind_at name h = found (marked_at name h.marked)
      where
        found : (a : ℕ) × (a < length o) × (at a ≡ name) → (a : ℕ) × (a < length o) × (at a ≡ name) × (p ≤ a)
        found (a, w, e) = elim (cases_lt a p) [
          | inl l ↦ absurd (first.passed a l (subst (IsBehind after) (sym e) h.behind))
          | inr l ↦ (a, w, e, l)
        ]

    pub next_none : length o ≤ p → IsLeastName (IsMarkedBehind ts after) None
    next_none h = record { found = λ n e. cc; least = λ n m. let r = behind_at n m in absurd (omega (arith, r.1, r.3, h)) }

    pub next_some : AreUnique ts → p < length o → (name : Name) → name ≡ at p → IsLeastName (IsMarkedBehind ts after) (Some name)
    next_some uniq h name is = record { found = λ n e. found n (sym is ∙ named n e); least = λ n m. let r = behind_at n m in (name, refl, subst (λ x. IsAtMost x n) (sym is) (at_most n r.0 r.1 r.2 r.3 (cases_lt p r.0))) }
      where
        named : (n : Name) → ◌≡◌ {A = Option Name} (Some name) (Some n) → name ≡ n
        named n e = cc

        found : (n : Name) → at p ≡ n → IsMarkedBehind ts after n
        found n e = subst (IsMarkedBehind ts after) e (record {
          marked = ap (λ m. unwrap_or m false) (task.mark_of_at ts (get_or o p 0) uniq (within_order ts o ord p h)) ∙ ord.marked p h;
          behind = first.behind p (omega arith) h;
        })

        at_most : (n : Name) (a : ℕ) → a < length o → at a ≡ n → p ≤ a → (p < a) ⊎ (a ≤ p) → IsAtMost (at p) n
        at_most n a w e l (inl x) = λ g. let less = ap (name_cmp (at p)) (sym e) ∙ ord.rising p a x w in cc
        at_most n a w e l (inr x) = let same : p ≡ a = omega (arith, l, x) in subst (IsAtMost (at p)) (ap at same ∙ e) (at_most_itself (at p))
