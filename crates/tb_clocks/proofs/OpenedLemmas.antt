-- No member of a group was generated in front of the step that opened it.
use Rattle.std.proofs.Common.{◌≡◌, ◌≤◌, ◌-◌, ℕ, zero, suc, List, [], ◌∷◌, Bool, true, false, ◌&&◌, cond, length, drop, refl, sym, ap, ◌∙◌, subst, arith, nat_lt, Option, Some, None, ⊎_elim}
use Rattle.std.proofs.lemmas.Bool.{and_parts, both_ways, false_from_ne_true, or_cases}
use Rattle.std.proofs.lemmas.Bool.Decides.{nat_tests}
use Rattle.tb_model.specs.declared.action.Action.{Action}
use Rattle.tb_model.specs.declared.action.Action.TheVariants.{Start, Let, Load, Store, Print, Spawn, Wait, Open, Close, Test, End, Fault}
use Rattle.tb_model.specs.declared.event.Event.{Event}
use Rattle.tb_model.specs.Facts.{History, IsSpawned, is_member, is_of, own}
use Rattle.tb_model.specs.Legal.{Cells, Legal, spawn_count}
use Rattle.tb_model.specs.Names.{Name, same_name}
use Rattle.tb_model.specs.Siblings.{is_later}
use Rattle.tb_model.proofs.FactsLemmas.{grown, spawn_bound}
use Rattle.tb_model.proofs.TestLemmas.{same_true}
use Rattle.tb_clocks.specs.Known.{groups_in, groups_with}
use Rattle.tb_clocks.specs.Tree.{first_of, older}
use Rattle.tb_clocks.specs.declared.group.Group.{Group}
use Rattle.tb_clocks.proofs.GroupLemmas.{later_in, members}
use Rattle.tb_clocks.proofs.TreeLemmas.{parent_spawned}

-- ---- the first events

older_on : (n : ℕ) (v : Event) (H : History) → n ≤ length H → older n (v ∷ H) ≡ older n H
older_on n v H h =
    let one : length (v ∷ H) - n ≡ suc (length H - n) = omega (arith, h) in
    rw one refl

older_all : (H : History) → older (length H) H ≡ H
older_all H =
    let none : length H - length H ≡ 0 = omega arith in
    rw none refl

older_here : (v : Event) (H : History) → older (length H) (v ∷ H) ≡ H
older_here v H = older_on (length H) v H (omega arith) ∙ older_all H

spawned_since : (n : ℕ) (H : History) (m : Name) → IsSpawned (drop n H) m → IsSpawned H m
spawned_since zero H m s = s
spawned_since (suc n) [] m s = s
spawned_since (suc n) (v ∷ H) m s = grown m v H (spawned_since n H m s)

legal_since : (cells : Cells) (n : ℕ) (H : History) → Legal cells H → Legal cells (drop n H)
legal_since cells zero H l = l
legal_since cells (suc n) [] l = l
legal_since cells (suc n) (v ∷ H) l = legal_since cells n H l.0

-- ---- each group with the count of children at its step

abbrev AreAt : Name → History → List Group → Type 0
AreAt t H [] = Unit {0}
AreAt t H (g ∷ gs) = (g.at ≤ length H) × (g.children ≡ spawn_count (own t (older g.at H))) × AreAt t H gs

are_on : (t : Name) (v : Event) (H : History) (gs : List Group) → AreAt t H gs → AreAt t (v ∷ H) gs
are_on t v H [] a = tt
are_on t v H (g ∷ gs) a = (omega (arith, a.0), a.1 ∙ ap (λ (P : History). spawn_count (own t P)) (sym (older_on g.at v H a.0)), are_on t v H gs a.2)

are_rest : (t : Name) (H : History) (gs : List Group) → AreAt t H gs → AreAt t H (drop 1 gs)
are_rest t H [] a = tt
are_rest t H (g ∷ gs) a = a.2

are_more : (t : Name) (v : Event) (H : History) (a : Action) (gs : List Group) → AreAt t H gs → AreAt t (v ∷ H) (groups_with a (length H) (spawn_count (own t H)) gs)
are_more t v H Open gs a = (omega arith, ap (λ (P : History). spawn_count (own t P)) (sym (older_here v H)), are_on t v H gs a)
are_more t v H Close gs a = are_on t v H (drop 1 gs) (are_rest t H gs a)
are_more t v H Start gs a = are_on t v H gs a
are_more t v H (Let r x) gs a = are_on t v H gs a
are_more t v H (Load r c x) gs a = are_on t v H gs a
are_more t v H (Store c x) gs a = are_on t v H gs a
are_more t v H (Print x) gs a = are_on t v H gs a
are_more t v H (Spawn s) gs a = are_on t v H gs a
are_more t v H (Wait items) gs a = are_on t v H gs a
are_more t v H (Test b) gs a = are_on t v H gs a
are_more t v H End gs a = are_on t v H gs a
are_more t v H Fault gs a = are_on t v H gs a

are_by : (t : Name) (v : Event) (H : History) (b : Bool) → is_of t v ≡ b → AreAt t H (groups_in t H) → AreAt t (v ∷ H) (groups_in t (v ∷ H))
are_by t v H true e a =
    subst (AreAt t (v ∷ H)) (sym (ap (λ b. cond b (groups_with v.action (length H) (spawn_count (own t H)) (groups_in t H)) (groups_in t H)) e)) (are_more t v H v.action (groups_in t H) a)
are_by t v H false e a =
    subst (AreAt t (v ∷ H)) (sym (ap (λ b. cond b (groups_with v.action (length H) (spawn_count (own t H)) (groups_in t H)) (groups_in t H)) e)) (are_on t v H (groups_in t H) a)

are_at : (t : Name) (H : History) → AreAt t H (groups_in t H)
are_at t [] = tt
are_at t (v ∷ H) = are_by t v H (is_of t v) refl (are_at t H)

-- ---- nothing that was generated is a later child

no_later : (cells : Cells) (P : History) (t m : Name) (n : ℕ) → Legal cells P → n ≡ spawn_count (own t P) → IsSpawned P m → is_later t n m ≡ false
no_later cells P t [] n l e s = refl
no_later cells P t (j ∷ p) n l e s =
    false_from_ne_true (is_later t n (j ∷ p)) (λ h.
    ⊎_elim
    (λ q.
    let parts = and_parts (nat_lt n j) (same_name t p) q in
    let it = same_true t p parts.1 in
    let bound = spawn_bound cells P j p l s in
    let same : spawn_count (own p P) ≡ n = ap (λ (u : Name). spawn_count (own u P)) (sym it) ∙ sym e in
    let few : nat_lt n j ≡ false = grind (arith, nat_tests) in
    both_ways (nat_lt n j) few parts.0)
    (λ r. both_ways (is_later t n p) (no_later cells P t p n l e (parent_spawned cells P j p l s)) r)
    (or_cases (nat_lt n j && same_name t p) (is_later t n p) h))

none_by : (cells : Cells) (H : History) (t m : Name) (gs : List Group) → Legal cells H → AreAt t H gs → ((g : Group) → first_of gs ≡ Some g → IsSpawned (older g.at H) m) → later_in gs t m ≡ false
none_by cells H t m [] l a s = refl
none_by cells H t m (g ∷ gs) l a s = no_later cells (older g.at H) t m g.children (legal_since cells (length H - g.at) H l) a.1 (s g refl)

-- where a group is open, and where none is
pub none_before : (cells : Cells) (H : History) (t m : Name) (g : Group) → Legal cells H → first_of (groups_in t H) ≡ Some g → IsSpawned (older g.at H) m → is_member (own t H) m ≡ false
none_before cells H t m g l f s =
    members cells H t m l (spawned_since (length H - g.at) H m s)
    ∙ none_by cells H t m (groups_in t H) l (are_at t H) (λ x e. subst (λ (y : Group). IsSpawned (older y.at H) m) (same g x (sym f ∙ e)) s)
  where
    same : (x y : Group) → ◌≡◌ {A = Option Group} (Some x) (Some y) → x ≡ y
    same x y h = cc

pub none_at_all : (cells : Cells) (H : History) (t m : Name) (n : ℕ) → Legal cells H → first_of (groups_in t H) ≡ None → IsSpawned (older n H) m → is_member (own t H) m ≡ false
none_at_all cells H t m n l f s =
    members cells H t m l (spawned_since (length H - n) H m s)
    ∙ none_by cells H t m (groups_in t H) l (are_at t H) (λ x e. absurd (let q : ◌≡◌ {A = Option Group} None (Some x) = sym f ∙ e in cc))
