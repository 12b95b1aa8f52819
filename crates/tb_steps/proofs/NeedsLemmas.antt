-- Needs by scans: names say who can't be waited for.
use Rattle.std.proofs.Common.{◌≡◌, List, [], ◌∷◌, true, ⊎_elim, refl, subst}
use Rattle.std.specs.List.{list_any}
use Rattle.std.proofs.lemmas.Bool.{false≢true, or_cases, or_left, or_right}
use Rattle.tb_model.specs.Names.{Name, same_name, is_child, is_within}
use Rattle.tb_model.specs.Facts.{own, is_member, holds}
use Rattle.tb_steps.specs.Entries.{Entry}
use Rattle.tb_steps.specs.Scans.{AreLegal, history_of}
use Rattle.tb_model.proofs.TestLemmas.{same_true, same_refl}
use Rattle.tb_model.proofs.FactsLemmas.{AreChildren, group_children, first_children, held_child}

-- who is within a child of t is within t
within_parent : (t c m : Name) → is_child t c ≡ true → is_within c m ≡ true → is_within t m ≡ true
within_parent t [] m h w = absurd (false≢true h)
within_parent t (k ∷ p) [] h w = absurd (false≢true w)
within_parent t (k ∷ p) (n ∷ m) h w =
    ⊎_elim
    (λ s. or_right (same_name t (n ∷ m)) _ (self m (subst (λ u. is_child t u ≡ true) (same_true (k ∷ p) (n ∷ m) s) h)))
    (λ r. or_right (same_name t (n ∷ m)) _ (within_parent t (k ∷ p) m h r))
    (or_cases (same_name (k ∷ p) (n ∷ m)) (is_within (k ∷ p) m) w)
  where
    self : (m : Name) → same_name m t ≡ true → is_within t m ≡ true
    self [] h = subst (λ u. is_within u [] ≡ true) (same_true [] t h) refl
    self (n ∷ m) h = subst (λ u. is_within u (n ∷ m) ≡ true) (same_true (n ∷ m) t h) (or_left _ _ (same_refl (n ∷ m)))

within_some : (t m : Name) (us : List Name) → AreChildren t us → list_any (λ c. is_within c m) us ≡ true → is_within t m ≡ true
within_some t m [] g h = absurd (false≢true h)
within_some t m (c ∷ us) g h =
    ⊎_elim (λ w. within_parent t c m g.0 w) (λ r. within_some t m us g.1 r) (or_cases (is_within c m) _ h)

-- the members of a group are descendants of its task
pub member_within : (entries : List Entry) (t u : Name) → AreLegal entries → is_member (own t (history_of entries)) u ≡ true → is_within t u ≡ true
member_within entries t u l =
    within_some t u _ (first_children t _ (group_children l.cells (history_of entries) t l.legal))

-- the undeferred task for which t waits is its child
pub held_within : (entries : List Entry) (t u : Name) → AreLegal entries → holds (own t (history_of entries)) u ≡ true → is_child t u ≡ true
held_within entries t u l h = (held_child l.cells (history_of entries) t u l.legal h).0
