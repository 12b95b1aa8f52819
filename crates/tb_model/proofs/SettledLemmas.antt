-- What later events don't change.
use Rattle.std.proofs.Common.{◌≡◌, ◌≤◌, ℕ, List, [], ◌∷◌, ◌++◌, length, Bool, true, false, ◌&&◌, ◌||◌, ⊎_elim, refl, sym, ap, ap₂, ◌∙◌, subst, IsTrue, arith, map, drop}
use Rattle.std.specs.List.{list_any, AllByRecursion}
use Rattle.std.proofs.lemmas.Bool.{or_cases, or_left, or_right, and_parts, and_from, false≢true}
use Rattle.tb_model.specs.declared.item.Item.{Item}
use Rattle.tb_model.specs.declared.action.Action.{Action}
use Rattle.tb_model.specs.declared.action.Action.TheVariants.{Spawn, Open, Close}
use Rattle.tb_model.specs.declared.event.Event.{Event}
use Rattle.tb_model.specs.Names.{Name, same_name, is_child, is_elder, is_within}
use Rattle.tb_model.specs.Items.{some_meet, is_before, is_apart, has_no_items}
use Rattle.tb_model.specs.Facts.{History, is_of, own, is_spawn_of, items_of, before, apart, spawns, ends, groups, innermost, prepend_if, is_member, covers, HasEnded, IsSpawned}
use Rattle.tb_model.specs.Legal.{Cells, IsRunning, MayFollow, Legal}
use Rattle.tb_model.proofs.TestLemmas.{same_true, same_refl}
use Rattle.tb_model.proofs.FactsLemmas.{grown, running_acts, cons_tail, spawn_names, acted_spawned, begun, not_running, member_up, group_children, first_children}
use Rattle.tb_model.proofs.NeighboursLemmas.{legal_below}
use Rattle.tb_model.proofs.FactsLemmas.{elder_not, items_stay, not_again}

-- who was generated stays so
pub spawned_later : (t : Name) (b front : History) → IsSpawned front t → IsSpawned (b ++ front) t
spawned_later t [] front s = s
spawned_later t (f ∷ b) front s = grown t f (b ++ front) (spawned_later t b front s)

-- once t was spawned, who is before it is settled
pub before_settled : (cells : Cells) (b front : History) (u t : Name) → Legal cells (b ++ front) → IsSpawned front t → before (b ++ front) u t ≡ true → before front u t ≡ true
before_settled cells [] front u t l s h = h
before_settled cells (f ∷ b) front u t l s h =
    let H = b ++ front in
    let sp = spawned_later t b front s in
    let o = and_parts (is_elder u t) (some_meet is_before (items_of t (f ∷ H)) (items_of u (f ∷ H))) h in
    before_settled cells b front u t l.0 s
    (and_from (is_elder u t) (some_meet is_before (items_of t H) (items_of u H)) o.0
    (sym (ap₂ (some_meet is_before) (items_stay cells H l.0 f l.1 t (not_again cells H l.0 f l.1 t sp)) (items_stay cells H l.0 f l.1 u (elder_not cells H l.0 f l.1 u t o.0 sp))) ∙ o.1))

-- once both were generated, whether they exclude each other is settled
pub apart_settled : (cells : Cells) (b front : History) (u t : Name) → Legal cells (b ++ front) → IsSpawned front t → IsSpawned front u → apart (b ++ front) u t ≡ apart front u t
apart_settled cells [] front u t l s r = refl
apart_settled cells (f ∷ b) front u t l s r =
    let H = b ++ front in
    let i = items_stay cells H l.0 f l.1 t (not_again cells H l.0 f l.1 t (spawned_later t b front s)) in
    let j = items_stay cells H l.0 f l.1 u (not_again cells H l.0 f l.1 u (spawned_later u b front r)) in
    ap₂ (λ x y. (is_elder u t && some_meet is_apart x y) || (is_elder t u && some_meet is_apart y x)) i j ∙ apart_settled cells b front u t l.0 s r

-- what a child named is settled once it was spawned
pub items_settled : (cells : Cells) (b front : History) (u : Name) → Legal cells (b ++ front) → IsSpawned front u → items_of u (b ++ front) ≡ items_of u front
items_settled cells [] front u l s = refl
items_settled cells (f ∷ b) front u l s =
    let H = b ++ front in
    items_stay cells H l.0 f l.1 u (not_again cells H l.0 f l.1 u (spawned_later u b front s)) ∙ items_settled cells b front u l.0 s

-- what a `taskwait` covers is settled once the child was spawned
pub covers_settled : (cells : Cells) (b front : History) (t : Name) (items : List Item) (u : Name) → Legal cells (b ++ front) → IsSpawned front u → covers (b ++ front) t items u ≡ true → covers front t items u ≡ true
covers_settled cells b front t items u l s h =
    sym (ap (λ i. is_child t u && (has_no_items items || some_meet is_before items i)) (items_settled cells b front u l s)) ∙ h

-- ---- the children of a group were spawned

all_weaker : {A : Type 0} (P Q : A → Type 0) → ((x : A) → P x → Q x) → (xs : List A) → AllByRecursion P xs → AllByRecursion Q xs
all_weaker P Q f [] h = tt
all_weaker P Q f (x ∷ xs) h = (f x h.0, all_weaker P Q f xs h.1)

abbrev AreSpawned : History → List Name → Type 0
AreSpawned H us = AllByRecursion (λ u. IsTrue (list_any (spawns u) H)) us

grown_groups : (v : Event) (H : History) (gs : List (List Name)) → AllByRecursion (AreSpawned H) gs → AllByRecursion (AreSpawned (v ∷ H)) gs
grown_groups v H gs h = all_weaker (AreSpawned H) (AreSpawned (v ∷ H)) (λ us k. all_weaker _ (λ u. IsTrue (list_any (spawns u) (v ∷ H))) (λ u s. or_right (spawns u v) _ s) us k) gs h

groups_more : (t : Name) (acts : List Action) (a : Action) (H : History) → AllByRecursion (AreSpawned (record { task = t; action = a } ∷ H)) (groups acts) → AllByRecursion (AreSpawned (record { task = t; action = a } ∷ H)) (groups (a ∷ acts))
groups_more t acts Open H g = (tt, g)
groups_more t acts Close H g = drop_first (groups acts) g
  where
    drop_first : (gs : List (List Name)) → AllByRecursion (AreSpawned (record { task = t; action = Close } ∷ H)) gs → AllByRecursion (AreSpawned (record { task = t; action = Close } ∷ H)) (drop 1 gs)
    drop_first [] g = tt
    drop_first (us ∷ gs) g = g.1
groups_more t acts (Spawn s) H g = put_each (groups acts) g
  where
    G : History
    G = record { task = t; action = Spawn s } ∷ H

    mine : list_any (spawns s.child) G ≡ true
    mine = or_left (same_name s.child s.child) _ (same_refl s.child)

    put_each : (gs : List (List Name)) → AllByRecursion (AreSpawned G) gs → AllByRecursion (AreSpawned G) (map (λ us. s.child ∷ us) gs)
    put_each [] g = tt
    put_each (us ∷ gs) g = ((mine, g.0), put_each gs g.1)
groups_more t acts _ H g = g

group_spawned : (H : History) (t : Name) → AllByRecursion (AreSpawned H) (groups (own t H))
group_spawned [] t = tt
group_spawned (v ∷ H) t = at (is_of t v) (grown_groups v H (groups (own t H)) (group_spawned H t))
  where
    at : (b : Bool) → AllByRecursion (AreSpawned (v ∷ H)) (groups (own t H)) → AllByRecursion (AreSpawned (v ∷ H)) (groups (prepend_if b v.action (own t H)))
    at true rest = groups_more v.task (own t H) v.action H rest
    at false rest = rest

first_spawned : (H : History) (gs : List (List Name)) → AllByRecursion (AreSpawned H) gs → AreSpawned H (innermost gs)
first_spawned H [] g = tt
first_spawned H (us ∷ gs) g = g.0

-- no name is within a longer one
pub within_length : (c m : Name) → is_within c m ≡ true → length c ≤ length m
within_length c [] h = omega (arith, ap length (same_true c [] h))
within_length c (n ∷ m) h =
    ⊎_elim (λ s. omega (arith, ap length (same_true c (n ∷ m) s))) (λ w. omega (arith, within_length c m w)) (or_cases (same_name c (n ∷ m)) (is_within c m) h)

-- a member that is a child was spawned
child_spawned : (t : Name) (H : History) (k : ℕ) (us : List Name) → AllByRecursion (λ u. IsTrue (is_child t u)) us → AreSpawned H us → list_any (λ c. is_within c (k ∷ t)) us ≡ true → list_any (spawns (k ∷ t)) H ≡ true
child_spawned t H k [] g s h = absurd (false≢true h)
child_spawned t H k (c ∷ us) g s h =
    ⊎_elim
    (λ w.
    ⊎_elim (λ e. subst (λ u. list_any (spawns u) H ≡ true) (same_true c (k ∷ t) e) s.0)
    (λ d. absurd (longer c g.0 (within_length c t d)))
    (or_cases (same_name c (k ∷ t)) (is_within c t) w))
    (λ r. child_spawned t H k us g.1 s.1 r)
    (or_cases (is_within c (k ∷ t)) (list_any (λ d. is_within d (k ∷ t)) us) h)
  where
    longer : (c : Name) → is_child t c ≡ true → length c ≤ length t → ⊥
    longer [] i j = false≢true i
    longer (n ∷ u) i j = omega (arith, ap length (same_true u t i))

member_child : (cells : Cells) (H : History) (t : Name) (k : ℕ) → Legal cells H → is_member (own t H) (k ∷ t) ≡ true → IsSpawned H (k ∷ t)
member_child cells H t k l h =
    child_spawned t H k _ (first_children t (groups (own t H)) (group_children cells H t l)) (first_spawned H (groups (own t H)) (group_spawned H t)) h

-- ---- after a close no member is spawned any more

-- who has ended stays so
pub ended_later : (t : Name) (b front : History) → HasEnded front t → HasEnded (b ++ front) t
ended_later t [] front h = h
ended_later t (f ∷ b) front h = or_right (ends t f) _ (ended_later t b front h)

abbrev closing : Name → Event
closing t = record { task = t; action = Close }

late_member : (cells : Cells) (front : History) (t : Name) (k : ℕ) (p : Name) → MayFollow cells front (closing t) → ((b : History) → Legal cells (b ++ closing t ∷ front) → is_member (own t front) p ≡ true → IsSpawned (b ++ closing t ∷ front) p → IsSpawned front p) → (b : History) → Legal cells (b ++ closing t ∷ front) → is_member (own t front) (k ∷ p) ≡ true → IsSpawned (b ++ closing t ∷ front) (k ∷ p) → IsSpawned front (k ∷ p)
late_member cells front t k p c parent [] l h s = s
late_member cells front t k p c parent (f ∷ b) l h s =
    ⊎_elim at (late_member cells front t k p c parent b l.0 h) (or_cases (spawns (k ∷ p) f) _ s)
  where
    G : History
    G = b ++ closing t ∷ front

    below : Legal cells front
    below = (legal_below cells b (closing t ∷ front) l.0).0

    at : spawns (k ∷ p) f ≡ true → IsSpawned front (k ∷ p)
    at q =
        let e = cons_tail (spawn_names cells f.task (k ∷ p) (own f.task G) f.action l.1.own q) in
        ⊎_elim
        (λ i.
        let z = same_true p t i in
        subst (λ u. IsSpawned front (k ∷ u)) (sym z) (member_child cells front t k below (subst (λ u. is_member (own t front) (k ∷ u) ≡ true) z h)))
        (λ i.
        absurd (⊎_elim
        (λ st. false≢true (sym (ap (is_spawn_of (k ∷ p)) st) ∙ q))
        (λ r.
        let r' = subst (λ u. IsRunning (own u G)) (sym e) r in
        let sp = parent b l.0 i (acted_spawned cells G p l.0 (running_acts (own p G) r')) in
        not_running cells G p l.0 (ended_later p b (closing t ∷ front) (or_right (ends p (closing t)) _ (c.timely p i sp))) r')
        (begun cells f.task (own f.task G) f.action l.1.own)))
        (member_up cells front t k p below h)

-- by descent from the members that are children
pub no_late_member : (cells : Cells) (front : History) (t : Name) → MayFollow cells front (closing t) → (m : Name) (b : History) → Legal cells (b ++ closing t ∷ front) → is_member (own t front) m ≡ true → IsSpawned (b ++ closing t ∷ front) m → IsSpawned front m
no_late_member cells front t c [] b l h s = refl
no_late_member cells front t c (k ∷ p) b l h s = late_member cells front t k p c (no_late_member cells front t c p) b l h s
