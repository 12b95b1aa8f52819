-- The members of an open group are known by one ordinal: how many children its task had generated
-- when it was opened.
use Rattle.std.proofs.Common.{◌≡◌, ◌≤◌, ℕ, suc, List, [], ◌∷◌, length, Bool, true, false, cond, ◌&&◌, ◌||◌, ⊎_elim, refl, sym, ap, ap₂, ◌∙◌, subst, arith, ◌==◌, nat_lt, nat_le}
use Rattle.std.specs.List.{list_any}
use Rattle.std.proofs.lemmas.Bool.{or_cases, false≢true, le-leb}
use Rattle.tb_model.specs.declared.action.Action.{Action}
use Rattle.tb_model.specs.declared.action.Action.TheVariants.{Spawn}
use Rattle.tb_model.specs.Names.{Name, same_name, is_within}
use Rattle.tb_model.specs.Facts.{History, is_of, own, prepend_if, spawns, IsSpawned}
use Rattle.tb_model.specs.Legal.{Cells, spawn_count, Continues, Legal}
use Rattle.tb_model.specs.State.{with_child, children_since, is_member_of}
use Rattle.tb_model.specs.Siblings.{children_at, is_later}
use Rattle.tb_model.proofs.TestLemmas.{same_true}
use Rattle.tb_model.proofs.FactsLemmas.{spawn_names, spawn_bound, cons_tail, grown}
use Rattle.tb_model.proofs.NeedsLemmas.{may_spawned}

-- m is a child of t with an ordinal above lo and at most hi, or a descendant of one
abbrev is_between : Name → ℕ → ℕ → Name → Bool
is_between t lo hi [] = false
is_between t lo hi (j ∷ m) = ((nat_lt lo j && nat_le j hi) && same_name t m) || is_between t lo hi m

-- ---- ordinals

none_between : (j hi : ℕ) → (nat_lt hi j && nat_le j hi) ≡ false
none_between j hi = grind (arith)

one_more_between : (lo hi j : ℕ) → lo ≤ hi → (nat_lt lo j && nat_le j (suc hi)) ≡ ((suc hi == j) || (nat_lt lo j && nat_le j hi))
one_more_between lo hi j b = grind (arith, b)

no_member : (t : Name) (hi : ℕ) (m : Name) → is_between t hi hi m ≡ false
no_member t hi [] = refl
no_member t hi (j ∷ m) = ap₂ (λ b c. (b && same_name t m) || c) (none_between j hi) (no_member t hi m)

regroup : (a b s w c : Bool) → (((a || b) && s) || (w || c)) ≡ (((a && s) || w) || ((b && s) || c))
regroup true true true true c = refl
regroup true true true false c = refl
regroup true false true true c = refl
regroup true false true false c = refl
regroup false true true true c = refl
regroup false true true false c = refl
regroup false false true w c = refl
regroup true true false w c = refl
regroup true false false w c = refl
regroup false true false w c = refl
regroup false false false w c = refl

-- one child more
one_more : (t : Name) (lo hi : ℕ) (m : Name) → lo ≤ hi → is_between t lo (suc hi) m ≡ (is_within (suc hi ∷ t) m || is_between t lo hi m)
one_more t lo hi [] b = refl
one_more t lo hi (j ∷ m) b =
    ap₂ (λ x y. (x && same_name t m) || y) (one_more_between lo hi j b) (one_more t lo hi m b)
    ∙ regroup (suc hi == j) (nat_lt lo j && nat_le j hi) (same_name t m) (is_within (suc hi ∷ t) m) (is_between t lo hi m)

-- ---- the children of a task since its kth action

children_up_to : (k : ℕ) (acts : List Action) → children_at k acts ≤ spawn_count acts
children_up_to k [] = omega arith
children_up_to k (a ∷ acts) = at (nat_le k (length acts)) (children_up_to k acts)
  where
    more : (a : Action) → spawn_count acts ≤ spawn_count (a ∷ acts)
    more (Spawn s) = omega arith
    more _ = omega arith

    at : (b : Bool) → children_at k acts ≤ spawn_count acts → cond b (children_at k acts) (spawn_count (a ∷ acts)) ≤ spawn_count (a ∷ acts)
    at true rest = omega (arith, rest, more a)
    at false rest = omega arith

since_more : (cells : Cells) (t : Name) (k : ℕ) (m : Name) (acts : List Action) (a : Action) → Continues cells t acts a → list_any (λ c. is_within c m) (children_since k acts) ≡ is_between t (children_at k acts) (spawn_count acts) m → list_any (λ c. is_within c m) (children_since k (a ∷ acts)) ≡ is_between t (children_at k (a ∷ acts)) (spawn_count (a ∷ acts)) m
since_more cells t k m acts a c e = at (nat_le k (length acts))
  where
    added : (a : Action) → Continues cells t acts a → list_any (λ c. is_within c m) (with_child a (children_since k acts)) ≡ is_between t (children_at k acts) (spawn_count (a ∷ acts)) m
    added (Spawn s) h =
        ap₂ (λ w b. is_within w m || b) h.1 e ∙ sym (one_more t (children_at k acts) (spawn_count acts) m (children_up_to k acts))
    added _ h = e

    at : (b : Bool) → list_any (λ c. is_within c m) (cond b (with_child a (children_since k acts)) []) ≡ is_between t (cond b (children_at k acts) (spawn_count (a ∷ acts))) (spawn_count (a ∷ acts)) m
    at true = added a c
    at false = sym (no_member t (spawn_count (a ∷ acts)) m)

members_between : (cells : Cells) (H : History) (t : Name) (k : ℕ) (m : Name) → Legal cells H → is_member_of k (own t H) m ≡ is_between t (children_at k (own t H)) (spawn_count (own t H)) m
members_between cells [] t k m l = sym (no_member t 0 m)
members_between cells (v ∷ H) t k m l = at (is_of t v) refl (members_between cells H t k m l.0)
  where
    at : (b : Bool) → is_of t v ≡ b → is_member_of k (own t H) m ≡ is_between t (children_at k (own t H)) (spawn_count (own t H)) m → is_member_of k (prepend_if b v.action (own t H)) m ≡ is_between t (children_at k (prepend_if b v.action (own t H))) (spawn_count (prepend_if b v.action (own t H))) m
    at true o e =
        since_more cells t k m (own t H) v.action (subst (λ u. Continues cells u (own u H) v.action) (same_true v.task t o) l.1.own) e
    at false o e = e

-- ---- of those that were generated, none has a higher ordinal

parent_spawned : (cells : Cells) (H : History) (j : ℕ) (p : Name) → Legal cells H → list_any (spawns (j ∷ p)) H ≡ true → IsSpawned H p
parent_spawned cells [] j p l h = absurd (false≢true h)
parent_spawned cells (v ∷ H) j p l h =
    ⊎_elim
    (λ s.
    let e = cons_tail (spawn_names cells v.task (j ∷ p) (own v.task H) v.action l.1.own s) in
    grown p v H (subst (IsSpawned H) (sym e) (may_spawned cells H v l.0 l.1)))
    (λ r. grown p v H (parent_spawned cells H j p l.0 r))
    (or_cases (spawns (j ∷ p) v) (list_any (spawns (j ∷ p)) H) h)

within_count : (cells : Cells) (H : History) (t : Name) (lo : ℕ) (m : Name) → Legal cells H → IsSpawned H m → is_between t lo (spawn_count (own t H)) m ≡ is_later t lo m
within_count cells H t lo [] l s = refl
within_count cells H t lo (j ∷ p) l s =
    ap₂ (λ b c. b || c) (at (same_name t p) refl) (within_count cells H t lo p l (parent_spawned cells H j p l s))
  where
    at_most : (x y : Bool) → y ≡ true → ((x && y) && true) ≡ (x && true)
    at_most true y e = ap (λ b. b && true) e
    at_most false y e = refl

    never : (x y : Bool) → ((x && y) && false) ≡ (x && false)
    never true true = refl
    never true false = refl
    never false y = refl

    at : (b : Bool) → same_name t p ≡ b → ((nat_lt lo j && nat_le j (spawn_count (own t H))) && b) ≡ (nat_lt lo j && b)
    at true e =
        let q = same_true t p e in
        let n : j ≤ spawn_count (own t H) = spawn_bound cells H j t l (subst (λ u. list_any (spawns (j ∷ u)) H ≡ true) (sym q) s) in
        at_most (nat_lt lo j) (nat_le j (spawn_count (own t H))) (le-leb j (spawn_count (own t H)) n)
    at false e = never (nat_lt lo j) (nat_le j (spawn_count (own t H)))

-- of the tasks that were generated, the members are those after the ordinal
pub members_by_number : (cells : Cells) (H : History) (t : Name) (k : ℕ) (m : Name) → Legal cells H → IsSpawned H m → is_member_of k (own t H) m ≡ is_later t (children_at k (own t H)) m
members_by_number cells H t k m l s =
    members_between cells H t k m l ∙ within_count cells H t (children_at k (own t H)) m l s
