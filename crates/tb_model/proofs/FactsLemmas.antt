-- What every legal history retains.
use Rattle.std.proofs.Common.{◌≡◌, ◌≢◌, ◌≤◌, ℕ, suc, List, [], ◌∷◌, Bool, true, false, ◌||◌, not, ◌⊎◌, inl, inr, ⊎_elim, refl, sym, ap, ◌∙◌, subst, IsTrue, arith, map, drop, cond, nat_lt, ◌++◌, ◌<◌, ltb-true}
use Rattle.std.specs.List.{list_any, AllByRecursion}
use Rattle.std.proofs.lemmas.Bool.{or_cases, or_left, or_right, and_parts, both_ways, cases_Bool, false≢true, false_from_ne_true}
use Rattle.tb_model.specs.declared.action.Action.{Action}
use Rattle.tb_model.specs.declared.action.Action.TheVariants.{Start, Let, Load, Store, Print, Spawn, Wait, Open, Close, Test, End, Fault}
use Rattle.tb_model.specs.declared.event.Event.{Event}
use Rattle.tb_model.specs.Names.{Name, same_name, is_child, is_within, is_elder}
use Rattle.tb_model.specs.Facts.{History, is_of, own, prepend_if, is_end, is_spawn_of, spawns, ends, groups, innermost, is_member, holds, HasEnded, IsSpawned, items_for, items_of}
use Rattle.tb_model.specs.Legal.{Cells, IsRunning, spawn_count, Continues, IsTimely, Legal, MayFollow}
use Rattle.tb_model.proofs.TestLemmas.{same_true, same_refl, any_weaker}

-- ---- one's own actions

-- the actions that a task has after an event of its own, and of another
pub own_mine : (t : Name) (v : Event) (H : History) → is_of t v ≡ true → own t (v ∷ H) ≡ v.action ∷ own t H
own_mine t v H e = ap (λ b. prepend_if b v.action (own t H)) e

pub own_other : (t : Name) (v : Event) (H : History) → is_of t v ≡ false → own t (v ∷ H) ≡ own t H
own_other t v H e = ap (λ b. prepend_if b v.action (own t H)) e

-- a spawn names the next child of its task
pub spawn_names : (cells : Cells) (t u : Name) (acts : List Action) (a : Action) → Continues cells t acts a → is_spawn_of u a ≡ true → u ≡ suc (spawn_count acts) ∷ t
spawn_names cells t u acts (Spawn s) h e = sym (same_true s.child u e) ∙ h.1
spawn_names cells t u acts Start h e = absurd (false≢true e)
spawn_names cells t u acts (Let r x) h e = absurd (false≢true e)
spawn_names cells t u acts (Load r c x) h e = absurd (false≢true e)
spawn_names cells t u acts (Store c x) h e = absurd (false≢true e)
spawn_names cells t u acts (Print x) h e = absurd (false≢true e)
spawn_names cells t u acts (Wait items) h e = absurd (false≢true e)
spawn_names cells t u acts Open h e = absurd (false≢true e)
spawn_names cells t u acts Close h e = absurd (false≢true e)
spawn_names cells t u acts (Test b) h e = absurd (false≢true e)
spawn_names cells t u acts End h e = absurd (false≢true e)
spawn_names cells t u acts Fault h e = absurd (false≢true e)

-- ---- children are numbered

count_grows : (a : Action) (acts : List Action) → spawn_count acts ≤ spawn_count (a ∷ acts)
count_grows (Spawn s) acts = omega arith
count_grows _ acts = omega arith

count_spawn : (u : Name) (a : Action) (acts : List Action) → is_spawn_of u a ≡ true → spawn_count (a ∷ acts) ≡ suc (spawn_count acts)
count_spawn u (Spawn s) acts e = refl
count_spawn u Start acts e = absurd (false≢true e)
count_spawn u (Let r x) acts e = absurd (false≢true e)
count_spawn u (Load r c x) acts e = absurd (false≢true e)
count_spawn u (Store c x) acts e = absurd (false≢true e)
count_spawn u (Print x) acts e = absurd (false≢true e)
count_spawn u (Wait items) acts e = absurd (false≢true e)
count_spawn u Open acts e = absurd (false≢true e)
count_spawn u Close acts e = absurd (false≢true e)
count_spawn u (Test b) acts e = absurd (false≢true e)
count_spawn u End acts e = absurd (false≢true e)
count_spawn u Fault acts e = absurd (false≢true e)

own_count : (t : Name) (v : Event) (H : History) → spawn_count (own t H) ≤ spawn_count (own t (v ∷ H))
own_count t v H = at (is_of t v)
  where
    at : (b : Bool) → spawn_count (own t H) ≤ spawn_count (prepend_if b v.action (own t H))
    at true = count_grows v.action (own t H)
    at false = omega arith

-- what two lists with these heads and tails have in common
pub cons_head : {m n : ℕ} {t u : Name} → ◌≡◌ {A = Name} (m ∷ t) (n ∷ u) → m ≡ n
cons_head e = cc

pub cons_tail : {m n : ℕ} {t u : Name} → ◌≡◌ {A = Name} (m ∷ t) (n ∷ u) → t ≡ u
cons_tail e = cc

-- a child that was generated has an ordinal that its parent has reached
pub spawn_bound : (cells : Cells) (H : History) (n : ℕ) (t : Name) → Legal cells H → list_any (spawns (n ∷ t)) H ≡ true → n ≤ spawn_count (own t H)
spawn_bound cells [] n t l h = absurd (false≢true h)
spawn_bound cells (v ∷ H) n t l h =
    ⊎_elim here (λ b. omega (arith, own_count t v H, spawn_bound cells H n t l.0 b)) (or_cases (spawns (n ∷ t) v) (list_any (spawns (n ∷ t)) H) h)
  where
    here : spawns (n ∷ t) v ≡ true → n ≤ spawn_count (own t (v ∷ H))
    here s =
        let e = spawn_names cells v.task (n ∷ t) (own v.task H) v.action l.1.own s in
        let mine : is_of t v ≡ true = subst (λ u. same_name u t ≡ true) (cons_tail e) (same_refl t) in
        let c : spawn_count (own t (v ∷ H)) ≡ suc (spawn_count (own t H)) = ap spawn_count (own_mine t v H mine) ∙ count_spawn (n ∷ t) v.action (own t H) s in
        let same : spawn_count (own v.task H) ≡ spawn_count (own t H) = ap (λ u. spawn_count (own u H)) (sym (cons_tail e)) in
        let k : n ≡ suc (spawn_count (own v.task H)) = cons_head e in
        omega arith

-- ---- who acts was spawned

-- who was generated stays so
pub grown : (t : Name) (v : Event) (H : History) → IsSpawned H t → IsSpawned (v ∷ H) t
grown [] v H h = refl
grown (n ∷ t) v H h = or_right (spawns (n ∷ t) v) (list_any (spawns (n ∷ t)) H) h

-- who is under way has acted
pub running_acts : (acts : List Action) → IsRunning acts → acts ≢ []
running_acts [] h e = h
running_acts (a ∷ acts) h e = cc

-- a task's first action is its start
pub begun : (cells : Cells) (t : Name) (acts : List Action) (a : Action) → Continues cells t acts a → (a ≡ Start) ⊎ (IsRunning acts)
begun cells t acts Start h = inl refl
begun cells t acts (Let r x) h = inr h.0
begun cells t acts (Load r c x) h = inr h.0
begun cells t acts (Store c x) h = inr h.0
begun cells t acts (Print x) h = inr h
begun cells t acts (Spawn s) h = inr h.0
begun cells t acts (Wait items) h = inr h.0
begun cells t acts Open h = inr h
begun cells t acts Close h = inr h.0
begun cells t acts (Test b) h = inr h
begun cells t acts End h = inr h
begun cells t acts Fault h = inr h

-- who starts was generated
pub timely_start : (cells : Cells) (H : History) (t : Name) (a : Action) → a ≡ Start → IsTimely cells H t a → IsSpawned H t
timely_start cells H t a e m = (subst (IsTimely cells H t) e m).spawned

-- who has acted was generated
pub acted_spawned : (cells : Cells) (H : History) (t : Name) → Legal cells H → own t H ≢ [] → IsSpawned H t
acted_spawned cells [] t l h = absurd (h refl)
acted_spawned cells (v ∷ H) t l h = ⊎_elim (mine (λ u. acted_spawned cells H u l.0)) (other (acted_spawned cells H t l.0)) (cases_Bool (is_of t v))
  where
    other : (own t H ≢ [] → IsSpawned H t) → is_of t v ≡ false → IsSpawned (v ∷ H) t
    other rest o = grown t v H (rest (λ e. h (own_other t v H o ∙ e)))

    mine : ((u : Name) → own u H ≢ [] → IsSpawned H u) → is_of t v ≡ true → IsSpawned (v ∷ H) t
    mine rest o =
        subst (IsSpawned (v ∷ H)) (same_true v.task t o)
        (grown v.task v H
        (⊎_elim (λ s. timely_start cells H v.task v.action s l.1.timely) (λ r. rest v.task (running_acts (own v.task H) r))
        (begun cells v.task (own v.task H) v.action l.1.own)))

-- ---- nothing follows an end

-- who hasn't acted has no events
pub no_acts : (t : Name) (H : History) → own t H ≡ [] → list_any (is_of t) H ≡ false
no_acts t [] e = refl
no_acts t (v ∷ H) e = at (no_acts t H) (is_of t v) refl
  where
    at : (own t H ≡ [] → list_any (is_of t) H ≡ false) → (b : Bool) → is_of t v ≡ b → (is_of t v || list_any (is_of t) H) ≡ false
    at rest true o = absurd (cc (own_mine t v H o))
    at rest false o = ap (λ b. b || list_any (is_of t) H) o ∙ rest (sym (own_other t v H o) ∙ e)

-- of a task without actions no event passes a test of its own events
pub not_started : (t : Name) (H : History) (p : Event → Bool) → ((v : Event) → p v ≡ true → is_of t v ≡ true) → own t H ≡ [] → list_any p H ≡ true → ⊥
not_started t H p f e h = both_ways (list_any (is_of t) H) (no_acts t H e) (any_weaker p (is_of t) f H h)

-- a task is ended by an event of its own
pub ends_own : (t : Name) (v : Event) → ends t v ≡ true → is_of t v ≡ true
ends_own t v h = (and_parts (is_of t v) (is_end v.action) h).0

running_here : (t : Name) (v : Event) (H : History) → is_of t v ≡ true → IsRunning (own t (v ∷ H)) → not (is_end v.action) ≡ true
running_here t v H o r = subst IsRunning (own_mine t v H o) r

-- who has ended isn't under way
pub not_running : (cells : Cells) (H : History) (t : Name) → Legal cells H → HasEnded H t → IsRunning (own t H) → ⊥
not_running cells [] t l h r = r
not_running cells (v ∷ H) t l h r =
    ⊎_elim here (there (not_running cells H t l.0)) (or_cases (ends t v) (list_any (ends t) H) h)
  where
    here : ends t v ≡ true → ⊥
    here e =
        let o = and_parts (is_of t v) (is_end v.action) e in
        both_ways (not (is_end v.action)) (ap not o.1) (running_here t v H o.0 r)

    there : (HasEnded H t → IsRunning (own t H) → ⊥) → HasEnded H t → ⊥
    there rest e = ⊎_elim mine other (cases_Bool (is_of t v))
      where
        other : is_of t v ≡ false → ⊥
        other o = rest e (subst IsRunning (own_other t v H o) r)

        mine : is_of t v ≡ true → ⊥
        mine o =
            let n = same_true v.task t o in
            ⊎_elim
            (λ s. not_started t H (ends t) (ends_own t) (ap (λ u. own u H) (sym n) ∙ subst (Continues cells v.task (own v.task H)) s l.1.own) e)
            (λ q. rest e (subst (λ u. IsRunning (own u H)) n q))
            (begun cells v.task (own v.task H) v.action l.1.own)

-- ---- the child that a task waits for

-- the undeferred child for which a task waits is one of its children, and was spawned
pub held_child : (cells : Cells) (H : History) (t u : Name) → Legal cells H → holds (own t H) u ≡ true → (is_child t u ≡ true) × (list_any (spawns u) H ≡ true)
held_child cells [] t u l h = absurd (false≢true h)
held_child cells (v ∷ H) t u l h = at (held_child cells H t u l.0) (is_of t v) refl h
  where
    spawned_by : (a : Action) (acts : List Action) → holds (a ∷ acts) u ≡ true → is_spawn_of u a ≡ true
    spawned_by (Spawn s) acts h = (and_parts (not s.deferred) (same_name s.child u) h).1
    spawned_by Start acts h = absurd (false≢true h)
    spawned_by (Let r x) acts h = absurd (false≢true h)
    spawned_by (Load r c x) acts h = absurd (false≢true h)
    spawned_by (Store c x) acts h = absurd (false≢true h)
    spawned_by (Print x) acts h = absurd (false≢true h)
    spawned_by (Wait items) acts h = absurd (false≢true h)
    spawned_by Open acts h = absurd (false≢true h)
    spawned_by Close acts h = absurd (false≢true h)
    spawned_by (Test b) acts h = absurd (false≢true h)
    spawned_by End acts h = absurd (false≢true h)
    spawned_by Fault acts h = absurd (false≢true h)

    at : (holds (own t H) u ≡ true → (is_child t u ≡ true) × (list_any (spawns u) H ≡ true)) → (b : Bool) → is_of t v ≡ b → holds (prepend_if b v.action (own t H)) u ≡ true → (is_child t u ≡ true) × (list_any (spawns u) (v ∷ H) ≡ true)
    at rest true o h =
        let s = spawned_by v.action (own t H) h in
        let e = spawn_names cells v.task u (own v.task H) v.action l.1.own s in (
          subst (λ w. is_child t w ≡ true) (sym e) o,
          or_left (spawns u v) _ s,
        )
    at rest false o h = let r = rest h in (r.0, or_right (spawns u v) _ r.1)

-- ---- the children of a group

abbrev pub AreChildren : Name → List Name → Type 0
AreChildren t us = AllByRecursion (λ u. IsTrue (is_child t u)) us

groups_step : (cells : Cells) (t : Name) (acts : List Action) (a : Action) → Continues cells t acts a → AllByRecursion (AreChildren t) (groups acts) → AllByRecursion (AreChildren t) (groups (a ∷ acts))
groups_step cells t acts Open h g = (tt, g)
groups_step cells t acts Close h g = drop_first (groups acts) g
  where
    drop_first : (gs : List (List Name)) → AllByRecursion (AreChildren t) gs → AllByRecursion (AreChildren t) (drop 1 gs)
    drop_first [] g = tt
    drop_first (us ∷ gs) g = g.1
groups_step cells t acts (Spawn s) h g = put_each (groups acts) g
  where
    mine : is_child t s.child ≡ true
    mine = subst (λ w. is_child t w ≡ true) (sym h.1) (same_refl t)

    put_each : (gs : List (List Name)) → AllByRecursion (AreChildren t) gs → AllByRecursion (AreChildren t) (map (λ us. s.child ∷ us) gs)
    put_each [] g = tt
    put_each (us ∷ gs) g = ((mine, g.0), put_each gs g.1)
groups_step cells t acts _ h g = g

-- the members that a group lists are children of its task
pub group_children : (cells : Cells) (H : History) (t : Name) → Legal cells H → AllByRecursion (AreChildren t) (groups (own t H))
group_children cells [] t l = tt
group_children cells (v ∷ H) t l = at (group_children cells H t l.0) (is_of t v) refl
  where
    at : AllByRecursion (AreChildren t) (groups (own t H)) → (b : Bool) → is_of t v ≡ b → AllByRecursion (AreChildren t) (groups (prepend_if b v.action (own t H)))
    at rest true o =
        groups_step cells t (own t H) v.action (subst (λ u. Continues cells u (own u H) v.action) (same_true v.task t o) l.1.own) rest
    at rest false o = rest

-- the children of the innermost group are children of the task too
pub first_children : (t : Name) (gs : List (List Name)) → AllByRecursion (AreChildren t) gs → AreChildren t (innermost gs)
first_children t [] g = tt
first_children t (us ∷ gs) g = g.0

within_up : (t : Name) (k : ℕ) (p : Name) (us : List Name) → AreChildren t us → list_any (λ c. is_within c (k ∷ p)) us ≡ true → (is_child t (k ∷ p) ≡ true) ⊎ (list_any (λ c. is_within c p) us ≡ true)
within_up t k p [] g h = absurd (false≢true h)
within_up t k p (c ∷ us) g h =
    ⊎_elim
    (λ w. ⊎_elim (λ s. inl (subst (λ u. is_child t u ≡ true) (same_true c (k ∷ p) s) g.0)) (λ d. inr (or_left (is_within c p) _ d)) (or_cases (same_name c (k ∷ p)) (is_within c p) w))
    (λ r. ⊎_elim (λ a. inl a) (λ b. inr (or_right (is_within c p) _ b)) (within_up t k p us g.1 r))
    (or_cases (is_within c (k ∷ p)) (list_any (λ d. is_within d (k ∷ p)) us) h)

-- a member is a child of the group's task, or its parent is a member
pub member_up : (cells : Cells) (H : History) (t : Name) (k : ℕ) (p : Name) → Legal cells H → is_member (own t H) (k ∷ p) ≡ true → (is_child t (k ∷ p) ≡ true) ⊎ (is_member (own t H) p ≡ true)
member_up cells H t k p l h = within_up t k p _ (first_children t (groups (own t H)) (group_children cells H t l)) h

-- ---- a task is generated once

-- an event that generates t makes it one of the tasks
pub spawned_by : (t : Name) (H : History) → list_any (spawns t) H ≡ true → IsSpawned H t
spawned_by [] H h = refl
spawned_by (n ∷ t) H h = h

-- what doesn't generate u gives it no items
pub items_none : (u : Name) (a : Action) → is_spawn_of u a ≡ false → items_for u a ≡ []
items_none u (Spawn s) h = ap (λ b. cond b s.items []) h
items_none u _ h = refl

module _ (cells : Cells) (H : History) (l : Legal cells H) (f : Event) (mf : MayFollow cells H f) where
  -- who was generated isn't generated again
  pub not_again : (u : Name) → IsSpawned H u → spawns u f ≡ false
  not_again [] s = false_from_ne_true (spawns [] f) (λ h. cc (spawn_names cells f.task [] (own f.task H) f.action mf.own h))
  not_again (n ∷ u) s = false_from_ne_true (spawns (n ∷ u) f) at
    where
      at : spawns (n ∷ u) f ≡ true → ⊥
      at h =
          let e = spawn_names cells f.task (n ∷ u) (own f.task H) f.action mf.own h in
          let b = spawn_bound cells H n u l s in
          let same : spawn_count (own u H) ≡ spawn_count (own f.task H) = ap (λ w. spawn_count (own w H)) (cons_tail e) in
          let k : n ≡ suc (spawn_count (own f.task H)) = cons_head e in
          omega arith

  -- nor is an elder sibling
  pub elder_not : (u t : Name) → is_elder u t ≡ true → IsSpawned H t → spawns u f ≡ false
  elder_not [] t h s = absurd (false≢true h)
  elder_not (m ∷ u) [] h s = absurd (false≢true h)
  elder_not (m ∷ u) (n ∷ t) h s = false_from_ne_true (spawns (m ∷ u) f) (λ q.
      let e = spawn_names cells f.task (m ∷ u) (own f.task H) f.action mf.own q in
      let o = and_parts (nat_lt m n) (same_name u t) h in
      let b = spawn_bound cells H n t l s in
      let same : spawn_count (own t H) ≡ spawn_count (own f.task H) = ap (λ x. spawn_count (own x H)) (sym (same_true u t o.1) ∙ cons_tail e) in
      let k : m ≡ suc (spawn_count (own f.task H)) = cons_head e in
      let lt : m < n = ltb-true m n o.0 in
      omega arith)

  -- and its items stay what they were
  pub items_stay : (u : Name) → spawns u f ≡ false → items_of u (f ∷ H) ≡ items_of u H
  items_stay u h = ap (λ i. i ++ items_of u H) (items_none u f.action h)
