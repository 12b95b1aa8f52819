-- Where the table of siblings says that none may depend on a task or exclude it, no start waits for its end.
use Rattle.std.proofs.Common.{◌≡◌, ℕ, List, [], ◌∷◌, Bool, true, false, ◌&&◌, ◌||◌, drop, nat_lt, refl, sym, ap, ap₂, ◌∙◌, subst}
use Rattle.tb_model.specs.declared.item.Item.{Item}
use Rattle.tb_model.specs.declared.action.Action.TheVariants.{Start}
use Rattle.tb_model.specs.Items.{is_before, is_apart, some_meet}
use Rattle.tb_model.specs.Names.{Name, same_name, is_elder}
use Rattle.tb_model.specs.Facts.{History, own, items_of}
use Rattle.tb_model.specs.Needs.{waits_for}
use Rattle.tb_model.specs.Legal.{Cells, Legal}
use Rattle.tb_model.proofs.SiblingsLemmas.{before_at, apart_at, meets_none}
use Rattle.tb_model.proofs.TestLemmas.{other_way, same_true}
use Rattle.tb_depend.specs.Relations.{depends, excludes, spawned_items}
use Rattle.tb_depend.proofs.RelationsLemmas.{depends_spawned, excludes_spawned}
use Rattle.tb_undo.specs.Readings.{IsNthOf}

not_kin : (a b x : Bool) → b ≡ false → ((a && b) && x) ≡ false
not_kin true b x h = ap (λ c. c && x) h
not_kin false b x h = refl

module _ (cells : Cells) (H : History) (legal : Legal cells H) where
  -- children of two tasks
  of_others : (m n : ℕ) (p q : Name) → same_name p q ≡ false → waits_for H (m ∷ q) Start (n ∷ p) ≡ false
  of_others m n p q other =
      let new = items_of (m ∷ q) H in
      let old = items_of (n ∷ p) H in
      ap₂ (λ (a b : Bool). a || b) (not_kin (nat_lt n m) (same_name p q) (some_meet is_before new old) other)
      (ap₂ (λ (a b : Bool). a || b) (not_kin (nat_lt n m) (same_name p q) (some_meet is_apart new old) other) (not_kin (nat_lt m n) (same_name q p) (some_meet is_apart old new) (other_way p q other)))

  -- children of one
  of_one : (m n : ℕ) (p : Name) (children : List (List Item)) → children ≡ spawned_items (own p H) → depends children m n ≡ false
      → excludes children m n ≡ false → waits_for H (m ∷ p) Start (n ∷ p) ≡ false
  of_one m n p children are before apart =
      ap₂ (λ (a b : Bool). a || b)
      (before_at cells H p n m legal ∙ sym (depends_spawned (own p H) n m) ∙ sym (ap (λ cs. depends cs m n) are) ∙ before)
      (apart_at cells H p n m legal ∙ sym (excludes_spawned (own p H) n m) ∙ sym (ap (λ cs. excludes cs m n) are) ∙ apart)

  pub no_start_waits : (u : Name) (n : ℕ) (children : List (List Item)) → IsNthOf H u n children
      → ((m : ℕ) → (depends children m n ≡ false) × (excludes children m n ≡ false)) → (t : Name) → waits_for H t Start u ≡ false
  no_start_waits u n children nth free t = subst (λ w. waits_for H t Start w ≡ false) (sym nth.name) (by t)
    where
      by : (t : Name) → waits_for H t Start (n ∷ drop 1 u) ≡ false
      by [] = refl
      by (m ∷ q) = at (same_name (drop 1 u) q) refl
        where
          at : (b : Bool) → same_name (drop 1 u) q ≡ b → waits_for H (m ∷ q) Start (n ∷ drop 1 u) ≡ false
          at false e = of_others m n (drop 1 u) q e
          at true e = subst (λ (r : Name). waits_for H (m ∷ r) Start (n ∷ drop 1 u) ≡ false) (same_true (drop 1 u) q e) (of_one m n (drop 1 u) children nth.named (free m).0 (free m).1)

-- for a task without items none does
pub none_waits : (H : History) (t u : Name) → items_of u H ≡ [] → waits_for H t Start u ≡ false
none_waits H t u none =
    ap₂ (λ (a b : Bool). a || b) (nothing (is_elder u t) _ (ap (λ its. some_meet is_before (items_of t H) its) none ∙ meets_none is_before (items_of t H)))
    (ap₂ (λ (a b : Bool). a || b) (nothing (is_elder u t) _ (ap (λ its. some_meet is_apart (items_of t H) its) none ∙ meets_none is_apart (items_of t H)))
    (nothing (is_elder t u) _ (ap (λ its. some_meet is_apart its (items_of t H)) none)))
  where
    nothing : (a x : Bool) → x ≡ false → (a && x) ≡ false
    nothing true x h = h
    nothing false x h = refl
