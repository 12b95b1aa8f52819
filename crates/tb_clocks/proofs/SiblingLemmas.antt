-- Children and elder siblings, by the ids and the ordinals of tasks.
use Rattle.std.proofs.Common.{◌≡◌, ◌==◌, ◌<◌, ℕ, [], ◌∷◌, true, false, ◌&&◌, refl, sym, ap, ap₂, ◌∙◌, subst, arith, nat_lt, Option, Some, slice_get, ⊎_elim, eq-eqb, ne_eqb}
use Rattle.std.proofs.lemmas.Bool.{cases_eq, false_from_ne_true}
use Rattle.tb_model.specs.Facts.{History}
use Rattle.tb_model.specs.Legal.{Cells, Legal}
use Rattle.tb_model.specs.Names.{Name, is_child, is_elder, same_name}
use Rattle.tb_model.proofs.TestLemmas.{same_refl, same_true}
use Rattle.tb_clocks.specs.Known.{HasId, names_in, parent_of}
use Rattle.tb_clocks.specs.Tree.{IsAbove}
use Rattle.tb_clocks.proofs.TaskLemmas.{one_id}

the_name : (t u : Name) → ◌≡◌ {A = Option Name} (Some t) (Some u) → t ≡ u
the_name t u h = cc

module _ (cells : Cells) (H : History) (l : Legal cells H) where
  -- ids are the same where names are
  same_id : (i j : ℕ) (t u : Name) → HasId H i t → HasId H j u → (i == j) ≡ same_name t u
  same_id i j t u a b = ⊎_elim
      (λ e. eq-eqb i j e ∙ sym (subst (λ (x : Name). same_name t x ≡ true) (the_name t u (sym a ∙ ap (slice_get (names_in H)) e ∙ b)) (same_refl t)))
      (λ d. ne_eqb i j d ∙ sym (false_from_ne_true (same_name t u) (λ h. d (one_id cells H i j t l a (subst (HasId H j) (sym (same_true t u h)) b)))))
      (cases_eq i j)

  -- the root is above itself alone
  no_root : (i p o : ℕ) (u : Name) → u ≡ [] → HasId H i u → IsAbove H u p o → p < i → ⊥
  no_root i p o u e h above low =
      let at_root : HasId H p [] = subst (λ (t : Name). HasId H p (parent_of t)) e above.parent in
      omega (arith, low, one_id cells H p i [] l at_root (subst (HasId H i) e h))

  pub child_is : (task child p o : ℕ) (t u : Name) → HasId H task t → HasId H child u → IsAbove H u p o → p < child → (p == task) ≡ is_child t u
  child_is task child p o t [] a b above low = absurd (no_root child p o [] refl b above low)
  child_is task child p o t (m ∷ u) a b above low = same_id p task u t above.parent a

  pub child_none : (t u : Name) → u ≡ [] → false ≡ is_child t u
  child_none t u e = sym (ap (is_child t) e)

  pub elder_is : (i j p o q n : ℕ) (u t : Name) → HasId H i u → HasId H j t → IsAbove H u p o → IsAbove H t q n → p < i → q < j → (nat_lt o n && (p == q)) ≡ is_elder u t
  elder_is i j p o q n [] t a b above up low small = absurd (no_root i p o [] refl a above low)
  elder_is i j p o q n (k ∷ u) [] a b above up low small = absurd (no_root j q n [] refl b up small)
  elder_is i j p o q n (k ∷ u) (m ∷ t) a b above up low small = ap₂ (λ x y. x && y) (ap₂ nat_lt above.ordinal up.ordinal) (same_id p q u t above.parent up.parent)

  pub elder_first : (u t : Name) → u ≡ [] → false ≡ is_elder u t
  elder_first u t e = sym (ap (λ (x : Name). is_elder x t) e)

  pub elder_last : (u t : Name) → t ≡ [] → false ≡ is_elder u t
  elder_last u t e = sym (ap (is_elder u) e ∙ by u)
    where
      by : (u : Name) → is_elder u [] ≡ false
      by [] = refl
      by (k ∷ u) = refl
