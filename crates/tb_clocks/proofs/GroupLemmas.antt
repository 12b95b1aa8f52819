-- Open groups, the innermost first.
use Rattle.std.proofs.Common.{◌≡◌, ◌≤◌, ℕ, suc, List, [], ◌∷◌, ◌++◌, Bool, true, false, cond, length, drop, map, reverse, refl, sym, ap, ◌∙◌, subst, arith, append-nil, nat_le, Option, Some, None, option_to_list}
use Rattle.std.specs.List.{list_any}
use Rattle.std.proofs.lemmas.List.{reverse-append}
use Rattle.std.proofs.lemmas.Bool.Decides.{nat_tests}
use Rattle.tb_model.specs.declared.action.Action.{Action}
use Rattle.tb_model.specs.declared.action.Action.TheVariants.{Start, Let, Load, Store, Print, Spawn, Wait, Open, Close, Test, End, Fault}
use Rattle.tb_model.specs.declared.event.Event.{Event}
use Rattle.tb_model.specs.Facts.{History, IsSpawned, innermost, is_member, is_of, own}
use Rattle.tb_model.specs.Legal.{Cells, Legal, spawn_count}
use Rattle.tb_model.specs.Names.{Name, is_within}
use Rattle.tb_model.specs.Siblings.{children_at, is_later}
use Rattle.tb_model.specs.State.{children_since, is_member_of, open_groups}
use Rattle.tb_model.proofs.FactsLemmas.{own_mine, own_other}
use Rattle.tb_model.proofs.GroupsLemmas.{groups_since}
use Rattle.tb_model.proofs.MembersLemmas.{members_by_number}
use Rattle.tb_clocks.specs.Known.{groups_in, groups_with}
use Rattle.tb_clocks.specs.Tree.{first_of}
use Rattle.tb_clocks.specs.declared.group.Group.{Group}

-- ---- as they are stored

pub opened : (gs more : List Group) (g : Group) → more ≡ gs ++ g ∷ [] → reverse more ≡ g ∷ reverse gs
opened gs more g e = ap reverse e ∙ reverse-append gs (g ∷ [])

pub closed : (gs less : List Group) (o : Option Group) → gs ≡ less ++ option_to_list o → (o ≡ None → length gs ≡ 0) → reverse less ≡ drop 1 (reverse gs)
closed gs less (Some g) e none = sym (ap (drop 1) (opened less gs g e))
closed [] less None e none = ap reverse (sym (append-nil less) ∙ sym e)
closed (g ∷ gs) less None e none = absurd (let n = none refl in omega (arith, n))

-- ---- each by the ordinal of the step that opened it

-- the groups are those of these steps, and each has the count of children at its step
abbrev Matched : List ℕ → List Group → List Action → Type 0
Matched [] [] acts = Unit {0}
Matched [] (g ∷ gs) acts = ⊥
Matched (k ∷ ks) [] acts = ⊥
Matched (k ∷ ks) (g ∷ gs) acts = (k ≤ length acts) × (g.children ≡ children_at k acts) × Matched ks gs acts

-- the groups match after one action more too
on_by : (k n m : ℕ) → k ≤ n → nat_le k n ≡ true
on_by k n m h = grind (arith, nat_tests)

matched_on : (ks : List ℕ) (gs : List Group) (a : Action) (acts : List Action) → Matched ks gs acts → Matched ks gs (a ∷ acts)
matched_on [] [] a acts m = tt
matched_on [] (g ∷ gs) a acts m = absurd m
matched_on (k ∷ ks) [] a acts m = absurd m
matched_on (k ∷ ks) (g ∷ gs) a acts m =
    (omega (arith, m.0), m.1 ∙ ap (λ b. cond b (children_at k acts) (spawn_count (a ∷ acts))) (sym (on_by k (length acts) 0 m.0)), matched_on ks gs a acts m.2)

matched_rest : (ks : List ℕ) (gs : List Group) (acts : List Action) → Matched ks gs acts → Matched (drop 1 ks) (drop 1 gs) acts
matched_rest [] [] acts m = tt
matched_rest [] (g ∷ gs) acts m = absurd m
matched_rest (k ∷ ks) [] acts m = absurd m
matched_rest (k ∷ ks) (g ∷ gs) acts m = m.2

not_yet : (n : ℕ) → nat_le (suc n) n ≡ false
not_yet n = grind (arith, nat_tests)

matched_more : (at : ℕ) (a : Action) (acts : List Action) (gs : List Group) → Matched (open_groups acts) gs acts → Matched (open_groups (a ∷ acts)) (groups_with a at (spawn_count acts) gs) (a ∷ acts)
matched_more at Open acts gs m = (omega arith, sym (ap (λ b. cond b (children_at (suc (length acts)) acts) (spawn_count acts)) (not_yet (length acts))), matched_on (open_groups acts) gs Open acts m)
matched_more at Close acts gs m = matched_on (drop 1 (open_groups acts)) (drop 1 gs) Close acts (matched_rest (open_groups acts) gs acts m)
matched_more at Start acts gs m = matched_on (open_groups acts) gs Start acts m
matched_more at (Let r x) acts gs m = matched_on (open_groups acts) gs (Let r x) acts m
matched_more at (Load r c x) acts gs m = matched_on (open_groups acts) gs (Load r c x) acts m
matched_more at (Store c x) acts gs m = matched_on (open_groups acts) gs (Store c x) acts m
matched_more at (Print x) acts gs m = matched_on (open_groups acts) gs (Print x) acts m
matched_more at (Spawn s) acts gs m = matched_on (open_groups acts) gs (Spawn s) acts m
matched_more at (Wait items) acts gs m = matched_on (open_groups acts) gs (Wait items) acts m
matched_more at (Test b) acts gs m = matched_on (open_groups acts) gs (Test b) acts m
matched_more at End acts gs m = matched_on (open_groups acts) gs End acts m
matched_more at Fault acts gs m = matched_on (open_groups acts) gs Fault acts m

matched_by : (t : Name) (v : Event) (H : History) (b : Bool) → is_of t v ≡ b → Matched (open_groups (own t H)) (groups_in t H) (own t H) → Matched (open_groups (own t (v ∷ H))) (groups_in t (v ∷ H)) (own t (v ∷ H))
matched_by t v H true e m =
    let groups : groups_in t (v ∷ H) ≡ groups_with v.action (length H) (spawn_count (own t H)) (groups_in t H) = ap (λ b. cond b (groups_with v.action (length H) (spawn_count (own t H)) (groups_in t H)) (groups_in t H)) e in
    subst (λ (gs : List Group). Matched (open_groups (own t (v ∷ H))) gs (own t (v ∷ H))) (sym groups)
    (subst (λ (acts : List Action). Matched (open_groups acts) (groups_with v.action (length H) (spawn_count (own t H)) (groups_in t H)) acts) (sym (own_mine t v H e)) (matched_more (length H) v.action (own t H) (groups_in t H) m))
matched_by t v H false e m =
    let groups : groups_in t (v ∷ H) ≡ groups_in t H = ap (λ b. cond b (groups_with v.action (length H) (spawn_count (own t H)) (groups_in t H)) (groups_in t H)) e in
    subst (λ (gs : List Group). Matched (open_groups (own t (v ∷ H))) gs (own t (v ∷ H))) (sym groups)
    (subst (λ (acts : List Action). Matched (open_groups acts) (groups_in t H) acts) (sym (own_other t v H e)) m)

matched : (t : Name) (H : History) → Matched (open_groups (own t H)) (groups_in t H) (own t H)
matched t [] = tt
matched t (v ∷ H) = matched_by t v H (is_of t v) refl (matched t H)

-- ---- members

-- no group is open, or this one is the innermost
abbrev pub later_in : List Group → Name → Name → Bool
later_in [] t m = false
later_in (g ∷ gs) t m = is_later t g.children m

member_by : (acts : List Action) (ks : List ℕ) (gs : List Group) (t m : Name) → Matched ks gs acts → ((k : ℕ) → is_member_of k acts m ≡ is_later t (children_at k acts) m) →
    list_any (λ c. is_within c m) (innermost (map (λ k. children_since k acts) ks)) ≡ later_in gs t m
member_by acts [] [] t m h by = refl
member_by acts [] (g ∷ gs) t m h by = absurd h
member_by acts (k ∷ ks) [] t m h by = absurd h
member_by acts (k ∷ ks) (g ∷ gs) t m h by = by k ∙ ap (λ n. is_later t n m) (sym h.1)

pub members : (cells : Cells) (H : History) (t m : Name) → Legal cells H → IsSpawned H m → is_member (own t H) m ≡ later_in (groups_in t H) t m
members cells H t m l s =
    ap (λ gs. list_any (λ c. is_within c m) (innermost gs)) (groups_since (own t H))
    ∙ member_by (own t H) (open_groups (own t H)) (groups_in t H) t m (matched t H) (λ k. members_by_number cells H t k m l s)

later_some : (gs : List Group) (g : Group) (t m : Name) → first_of gs ≡ Some g → later_in gs t m ≡ is_later t g.children m
later_some [] g t m h = absurd (let e : ◌≡◌ {A = Option Group} None (Some g) = h in cc)
later_some (x ∷ gs) g t m h = (let e : x ≡ g = (let q : ◌≡◌ {A = Option Group} (Some x) (Some g) = h in cc) in ap (λ (y : Group). is_later t y.children m) e)

later_none : (gs : List Group) (t m : Name) → first_of gs ≡ None → later_in gs t m ≡ false
later_none [] t m h = refl
later_none (x ∷ gs) t m h = absurd (let e : ◌≡◌ {A = Option Group} (Some x) None = h in cc)

module _ (cells : Cells) (H : History) (t m : Name) (l : Legal cells H) (s : IsSpawned H m) where
  pub member_in : (g : Group) → first_of (groups_in t H) ≡ Some g → is_later t g.children m ≡ is_member (own t H) m
  member_in g h = sym (members cells H t m l s ∙ later_some (groups_in t H) g t m h)

  pub member_of_none : first_of (groups_in t H) ≡ None → false ≡ is_member (own t H) m
  member_of_none h = sym (members cells H t m l s ∙ later_none (groups_in t H) t m h)
