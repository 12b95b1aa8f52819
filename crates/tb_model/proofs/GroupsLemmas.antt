-- A task's open groups by nesting, and by the children generated since their steps: the same.
use Rattle.std.proofs.Common.{◌≡◌, ◌≤◌, ℕ, suc, List, [], ◌∷◌, length, cond, refl, sym, ap, ap₂, ◌∙◌, arith, map, drop}
use Rattle.std.specs.List.{AllByRecursion}
use Rattle.std.proofs.lemmas.Bool.{le-leb, lt-leb}
use Rattle.std.proofs.lemmas.List.{drop-map}
use Rattle.tb_model.specs.declared.action.Action.{Action}
use Rattle.tb_model.specs.declared.action.Action.TheVariants.{Spawn, Open, Close}
use Rattle.tb_model.specs.Facts.{groups}
use Rattle.tb_model.specs.State.{open_groups, with_child, children_since}
use Rattle.std.proofs.lemmas.Simd.{map-map}

abbrev AreUpTo : ℕ → List ℕ → Type 0
AreUpTo n ks = AllByRecursion (λ k. k ≤ n) ks

up_to_more : (n : ℕ) (ks : List ℕ) → AreUpTo n ks → AreUpTo (suc n) ks
up_to_more n [] b = tt
up_to_more n (k ∷ ks) b = (omega (arith, b.0), up_to_more n ks b.1)

up_to_drop : (n : ℕ) (ks : List ℕ) → AreUpTo n ks → AreUpTo n (drop 1 ks)
up_to_drop n [] b = tt
up_to_drop n (k ∷ ks) b = b.1

-- a group was opened by one of the actions
opened_up_to : (acts : List Action) → AreUpTo (length acts) (open_groups acts)
opened_up_to [] = tt
opened_up_to (Open ∷ acts) = (omega arith, up_to_more (length acts) (open_groups acts) (opened_up_to acts))
opened_up_to (Close ∷ acts) = up_to_drop (suc (length acts)) (open_groups acts) (up_to_more (length acts) (open_groups acts) (opened_up_to acts))
opened_up_to (_ ∷ acts) = up_to_more (length acts) (open_groups acts) (opened_up_to acts)

-- what one more action adds to each of them
since_more : (a : Action) (acts : List Action) (ks : List ℕ) → AreUpTo (length acts) ks → map (λ k. children_since k (a ∷ acts)) ks ≡ map (λ k. with_child a (children_since k acts)) ks
since_more a acts [] b = refl
since_more a acts (k ∷ ks) b =
    ap₂ (λ us uss. us ∷ uss) (ap (λ c. cond c (with_child a (children_since k acts)) []) (le-leb k (length acts) b.0)) (since_more a acts ks b.1)

-- the children of each open group are those generated since its step
pub groups_since : (acts : List Action) → groups acts ≡ map (λ k. children_since k acts) (open_groups acts)
groups_since [] = refl
groups_since (Open ∷ acts) =
    ap₂ (λ us uss. us ∷ uss) (sym (ap (λ c. cond c (children_since (suc (length acts)) acts) []) (lt-leb (suc (length acts)) (length acts) (omega arith))))
    (groups_since acts ∙ sym (since_more Open acts (open_groups acts) (opened_up_to acts)))
groups_since (Close ∷ acts) =
    ap (drop 1) (groups_since acts ∙ sym (since_more Close acts (open_groups acts) (opened_up_to acts)))
    ∙ drop-map (λ k. children_since k (Close ∷ acts)) 1 (open_groups acts)
groups_since (Spawn s ∷ acts) =
    ap (map (λ us. s.child ∷ us)) (groups_since acts)
    ∙ map-map (λ us. s.child ∷ us) (λ k. children_since k acts) (open_groups acts)
    ∙ sym (since_more (Spawn s) acts (open_groups acts) (opened_up_to acts))
groups_since (a ∷ acts) = groups_since acts ∙ sym (since_more a acts (open_groups acts) (opened_up_to acts))
