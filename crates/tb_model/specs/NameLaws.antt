-- That the tests and the order of names retain the laws of equality, of an order and of a hash.
use Rattle.std.specs.Prelude.{◌≡◌, ℕ, List, [], ◌∷◌, reverse, nat_eq, IsTrue, ◌&&◌, ◌==◌}
use Rattle.std.proofs.Common.{refl, sym, ap, ◌∙◌, subst}
use Rattle.std.specs.Cmp.{IsPartialEquivalence, IsEquivalence, IsPartialOrder, IsTotalOrder, partial_equiv_from_equiv, po, both_ways}
use Rattle.std.specs.Cmp.Lexicographic.{pointwise}
use Rattle.std.specs.Hash as fed
use Rattle.std.specs.Ordering.{eq_by_cmp, as_partial_cmp}
use Rattle.std.specs.Str.{bytes_eq}
use Rattle.std.proofs.lemmas.Cmp.{nat_list_cmp_total, on_total, eq_by_cmp_equiv}
use Rattle.std.proofs.lemmas.List.{reverse-reverse}
use Rattle.std.proofs.lemmas.Map.Text.{is_eq-slice_cmp}
use Rattle.std.proofs.lemmas.Slice.Eq.{bytes_eq-Decides}
use Rattle.tb_model.specs.Names.{Name, same_name, name_cmp}
use Rattle.tb_model.specs.NameHash.{digest}

pub pointwise_same : (a b : List ℕ) → pointwise nat_eq a b ≡ same_name a b
pointwise_same [] [] = refl
pointwise_same [] (n ∷ b) = refl
pointwise_same (m ∷ a) [] = refl
pointwise_same (m ∷ a) (n ∷ b) = ap (λ t. (m == n) && t) (pointwise_same a b)

pub name_cmp_total : IsTotalOrder name_cmp
name_cmp_total = on_total reverse nat_list_cmp_total

unreversed : (a b : Name) → reverse a ≡ reverse b → a ≡ b
unreversed a b e = sym (reverse-reverse a) ∙ ap reverse e ∙ reverse-reverse b

-- names that the order doesn't distinguish are one
pub name_cmp_ties : (a b : Name) → same_name a b ≡ eq_by_cmp name_cmp a b
name_cmp_ties a b =
    let forth = bytes_eq-Decides a b in
    let back = bytes_eq-Decides (reverse a) (reverse b) in
    let same : bytes_eq a b ≡ bytes_eq (reverse a) (reverse b) = both_ways _ _ (λ h. back.1 (ap reverse (forth.0 h))) (λ h. forth.1 (unreversed a b (back.0 h))) in
    sym (pointwise_same a b) ∙ same ∙ sym (is_eq-slice_cmp (reverse a) (reverse b))

pub same_name_equivalence : IsEquivalence same_name
same_name_equivalence = subst IsEquivalence (λ i a b. sym (name_cmp_ties a b) i) (eq_by_cmp_equiv name_cmp_total)

pub same_name_partial : IsPartialEquivalence same_name
same_name_partial = partial_equiv_from_equiv same_name_equivalence

pub name_cmp_partial : IsPartialOrder same_name (as_partial_cmp name_cmp)
name_cmp_partial = po name_cmp_total name_cmp_ties

-- equal names are hashed alike
pub same_name_feeds : (a b : Name) → IsTrue (same_name a b) → fed.u32 (digest a) ≡ fed.u32 (digest b)
same_name_feeds a b h = ap (λ t. fed.u32 (digest t)) ((bytes_eq-Decides a b).0 (pointwise_same a b ∙ h))
