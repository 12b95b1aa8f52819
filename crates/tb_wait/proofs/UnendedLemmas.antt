-- Who isn't over by the table of a history is unended in the history.
use Rattle.std.proofs.Common.{◌≡◌, ◌≢◌, ◌≤◌, ℕ, suc, List, [], ◌∷◌, Bool, true, false, cond, ◌&&◌, not, ◌↔◌, Some, None, refl, sym, ap, ap₂, ◌∙◌, length, drop, map, arith}
use Rattle.std.specs.List.{list_any}
use Rattle.std.proofs.lemmas.Bool.{and_parts, and_from, not-true, false≢true, le-leb, lt-leb}
use Rattle.tb_model.specs.declared.action.Action.{Action}
use Rattle.tb_model.specs.declared.action.Action.TheVariants.{Open, Close}
use Rattle.tb_model.specs.Names.{Name, is_child, is_within}
use Rattle.tb_model.specs.Facts.{History, own, groups, innermost, is_member, ends, is_spawned, IsSpawned}
use Rattle.tb_model.specs.Legal.{Cells, Legal, spawn_count}
use Rattle.tb_model.specs.State.{open_groups, children_since, is_unended, is_unended_child, is_unended_member}
use Rattle.tb_model.specs.Siblings.{children_at, is_later}
use Rattle.tb_model.proofs.FactsLemmas.{acted_spawned}
use Rattle.tb_model.proofs.GroupsLemmas.{groups_since}
use Rattle.tb_model.proofs.MembersLemmas.{members_by_number}
use Rattle.tb_wait.specs.Kin.{Kin, Tasks, kin, rest_of, first_of, IsUnended, IsUnendedChild, IsUnendedMember}
use Rattle.tb_wait.specs.Histories.{kin_from, AreKin}
use Rattle.tb_wait.proofs.HistoryLemmas.{counted, depth, over_from, kin_stands}

-- ---- what is there

-- who is there was generated, and what is stored of it is read off its actions
record Stands (H : History) (t : Name) (k : Kin) : Type 0 where
  spawned : IsSpawned H t
  is : k ≡ kin_from (own t H)

stands : (H : History) (tasks : Tasks) (t : Name) (k : Kin) → AreKin H tasks → kin tasks t ≡ Some k → Stands H t k
stands H tasks t k st e = at (is_spawned H t) refl (sym (st t) ∙ e)
  where
    at : (b : Bool) → is_spawned H t ≡ b → cond b (Some (kin_from (own t H))) None ≡ Some k → Stands H t k
    at true s e = record { spawned = s; is = cc }
    at false s e = cc

pub count_children : (H : History) (tasks : Tasks) (t : Name) (k : Kin) → AreKin H tasks → kin tasks t ≡ Some k → k.children ≡ spawn_count (own t H)
count_children H tasks t k st e = ap (λ k. k.children) (stands H tasks t k st e).is ∙ counted (own t H)

pub count_groups : (H : History) (tasks : Tasks) (t : Name) (k : Kin) → AreKin H tasks → kin tasks t ≡ Some k → length k.groups ≡ length (groups (own t H))
count_groups H tasks t k st e = ap (λ k. length k.groups) (stands H tasks t k st e).is ∙ depth (own t H)

pub over_ended : (H : History) (tasks : Tasks) (t : Name) (k : Kin) → AreKin H tasks → kin tasks t ≡ Some k → k.over ≡ list_any (ends t) H
over_ended H tasks t k st e = ap (λ k. k.over) (stands H tasks t k st e).is ∙ over_from H t

pub unended_is : (H : History) (tasks : Tasks) (t : Name) → AreKin H tasks → IsUnended tasks t ↔ is_unended H t ≡ true
unended_is H tasks t st = (forth, back)
  where
    forth : IsUnended tasks t → is_unended H t ≡ true
    forth h = ap₂ (λ b c. b && not c) (stands H tasks t h.0 st h.1).spawned (sym (over_ended H tasks t h.0 st h.1) ∙ h.2)

    back : is_unended H t ≡ true → IsUnended tasks t
    back u =
        let p = and_parts (is_spawned H t) (not (list_any (ends t) H)) u in (
          kin_from (own t H),
          st t ∙ kin_stands H t p.0,
          over_from H t ∙ not-true (list_any (ends t) H) p.1,
        )

pub unended_child : (H : History) (tasks : Tasks) (t u : Name) → AreKin H tasks → IsUnendedChild tasks t u ↔ is_unended_child H t u ≡ true
unended_child H tasks t u st =
    let is = unended_is H tasks u st in
    ((λ h. and_from (is_child t u) (is_unended H u) h.0 (is.0 h.1)), (λ b. let p = and_parts (is_child t u) (is_unended H u) b in (p.0, is.1 p.1)))

-- ---- members

-- for each open group, by the ordinal of its step, how many children the task had generated
abbrev AreAt : List Action → List ℕ → List ℕ → Type 0
AreAt acts [] gs = gs ≡ []
AreAt acts (k ∷ ks) [] = ⊥
AreAt acts (k ∷ ks) (g ∷ gs) = (k ≤ length acts) × (g ≡ children_at k acts) × AreAt acts ks gs

at_more : (a : Action) (acts : List Action) (ks gs : List ℕ) → AreAt acts ks gs → AreAt (a ∷ acts) ks gs
at_more a acts [] gs h = h
at_more a acts (k ∷ ks) [] h = h
at_more a acts (k ∷ ks) (g ∷ gs) h = (
  omega (arith, h.0),
  h.1 ∙ ap (λ b. cond b (children_at k acts) (spawn_count (a ∷ acts))) (sym (le-leb k (length acts) h.0)),
  at_more a acts ks gs h.2,
)

at_rest : (acts : List Action) (ks gs : List ℕ) → AreAt acts ks gs → AreAt acts (drop 1 ks) (rest_of gs)
at_rest acts [] gs h = ap rest_of h
at_rest acts (k ∷ ks) [] h = absurd h
at_rest acts (k ∷ ks) (g ∷ gs) h = h.2

groups_at : (acts : List Action) → AreAt acts (open_groups acts) (kin_from acts).groups
groups_at [] = refl
groups_at (Open ∷ acts) = (
  omega arith,
  counted acts ∙ ap (λ b. cond b (children_at (suc (length acts)) acts) (spawn_count acts)) (sym (lt-leb (suc (length acts)) (length acts) (omega arith))),
  at_more Open acts (open_groups acts) (kin_from acts).groups (groups_at acts),
)
groups_at (Close ∷ acts) =
    at_rest (Close ∷ acts) (open_groups acts) (kin_from acts).groups (at_more Close acts (open_groups acts) (kin_from acts).groups (groups_at acts))
groups_at (a ∷ acts) = at_more a acts (open_groups acts) (kin_from acts).groups (groups_at acts)

-- the members of the innermost open group by the ordinal that is stored of it
abbrev ByNumber : Name → List ℕ → Name → Type 0
ByNumber t gs m = (n : ℕ) × (first_of gs ≡ Some n) × (is_later t n m ≡ true)

member_number : (cells : Cells) (H : History) (t m : Name) → Legal cells H → IsSpawned H m → is_member (own t H) m ≡ true ↔ ByNumber t (kin_from (own t H)).groups m
member_number cells H t m l s = at (open_groups (own t H)) (kin_from (own t H)).groups (groups_at (own t H)) (groups_since (own t H))
  where
    at : (ks gs : List ℕ) → AreAt (own t H) ks gs → groups (own t H) ≡ map (λ k. children_since k (own t H)) ks → is_member (own t H) m ≡ true ↔ ByNumber t gs m
    at [] gs h e =
        let none : is_member (own t H) m ≡ false = ap (λ us. list_any (λ c. is_within c m) (innermost us)) e in
        ((λ b. absurd (false≢true (sym none ∙ b))), (λ n. let clash : None ≡ Some n.0 = sym (ap first_of h) ∙ n.1 in cc))
    at (k ∷ ks) [] h e = absurd h
    at (k ∷ ks) (g ∷ gs) h e =
        let is : is_member (own t H) m ≡ is_later t g m = ap (λ us. list_any (λ c. is_within c m) (innermost us)) e ∙ members_by_number cells H t k m l s ∙ ap (λ n. is_later t n m) (sym h.1) in
        ((λ b. (g, refl, sym is ∙ b)), (λ n. let same : n.0 ≡ g = cc in is ∙ ap (λ j. is_later t j m) (sym same) ∙ n.2))

pub unended_member : (cells : Cells) (H : History) (tasks : Tasks) (t m : Name) → Legal cells H → AreKin H tasks → IsUnendedMember tasks t m ↔ is_unended_member H t m ≡ true
unended_member cells H tasks t m l st = (forth, back)
  where
    was_spawned : is_unended H m ≡ true → IsSpawned H m
    was_spawned u = (and_parts (is_spawned H m) (not (list_any (ends m) H)) u).0

    forth : IsUnendedMember tasks t m → is_unended_member H t m ≡ true
    forth h =
        let u = (unended_is H tasks m st).0 h.4.1 in
        let group = sym (ap (λ k. first_of k.groups) (stands H tasks t h.0 st h.2).is) ∙ h.3 in
        and_from (is_member (own t H) m) (is_unended H m) ((member_number cells H t m l (was_spawned u)).1 (h.1, group, h.4.0)) u

    -- who has a member has acted
    acted : is_member (own t H) m ≡ true → own t H ≢ []
    acted b e = false≢true (sym (ap (λ acts. is_member acts m) e) ∙ b)

    back : is_unended_member H t m ≡ true → IsUnendedMember tasks t m
    back b =
        let p = and_parts (is_member (own t H) m) (is_unended H m) b in
        let n = (member_number cells H t m l (was_spawned p.1)).0 p.0 in (
          kin_from (own t H),
          n.0,
          st t ∙ kin_stands H t (acted_spawned cells H t l (acted p.0)),
          n.1,
          (n.2, (unended_is H tasks m st).1 p.1),
        )
