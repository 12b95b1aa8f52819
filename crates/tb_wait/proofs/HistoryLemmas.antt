-- A step leads from the table of a history to that of the history with it, and taking it back leads back.
use Rattle.std.proofs.Common.{◌≡◌, ◌≢◌, ℕ, suc, ◌-◌, List, [], ◌∷◌, Bool, true, false, cond, ◌&&◌, ◌||◌, Option, Some, None, option_map, refl, sym, ap, ap₂, ◌∙◌, subst, length, drop, arith}
use Rattle.std.specs.List.{list_any}
use Rattle.std.proofs.lemmas.Bool.{both_ways, false_from_ne_true, or_left}
use Rattle.std.proofs.lemmas.List.{length-map}
use Rattle.tb_model.specs.declared.action.Action.{Action}
use Rattle.tb_model.specs.declared.action.Action.TheVariants.{Spawn, Open, Close, End, Fault}
use Rattle.tb_model.specs.declared.event.Event.{Event}
use Rattle.tb_model.specs.declared.spawn.Spawn.{Spawn as TheSpawn}
use Rattle.tb_model.specs.Names.{Name, same_name}
use Rattle.tb_model.specs.Facts.{History, own, prepend_if, groups, is_of, is_end, ends, is_spawn_of, is_spawned, spawns, IsSpawned}
use Rattle.tb_model.specs.Legal.{Cells, Legal, Continues, IsRunning, spawn_count}
use Rattle.tb_model.specs.Alike.{Alike}
use Rattle.tb_model.proofs.TestLemmas.{same_true, same_refl}
use Rattle.tb_model.proofs.FactsLemmas.{own_mine, own_other, acted_spawned, not_again, not_running, spawned_by, grown}
use Rattle.tb_model.proofs.NeedsLemmas.{may_spawned}
use Rattle.tb_model.proofs.AlikeLemmas.{spawned_alike}
use Rattle.tb_wait.specs.Kin.{Kin, Tasks, kin, fresh, with_over, with_children, one_more, one_less, opened_kin, unopened_kin, closed_kin, unclosed_kin, rest_of, IsNext, IsLast, HasOpenGroup}
use Rattle.tb_wait.specs.Histories.{kin_by, kin_from, kin_of, AreKin, ChangesBy, ChangesBackBy}

-- ---- what is stored of a task, read off its own actions

pub counted : (acts : List Action) → (kin_from acts).children ≡ spawn_count acts
counted [] = refl
counted (Spawn s ∷ acts) = ap suc (counted acts)
counted (_ ∷ acts) = counted acts

shorter : {A : Type 0} (xs : List ℕ) (ys : List A) → length xs ≡ length ys → length (rest_of xs) ≡ length (drop 1 ys)
shorter [] [] e = refl
shorter [] (y ∷ ys) e = absurd (omega (arith, e))
shorter (x ∷ xs) [] e = absurd (omega (arith, e))
shorter (x ∷ xs) (y ∷ ys) e = omega (arith, e)

pub depth : (acts : List Action) → length (kin_from acts).groups ≡ length (groups acts)
depth [] = refl
depth (Spawn s ∷ acts) = depth acts ∙ sym (length-map (groups acts) (λ us. s.child ∷ us))
depth (Open ∷ acts) = ap suc (depth acts)
depth (Close ∷ acts) = shorter (kin_from acts).groups (groups acts) (depth acts)
depth (_ ∷ acts) = depth acts

some_group : {A : Type 0} (xs : List ℕ) (ys : List A) → length xs ≡ length ys → ys ≢ [] → xs ≢ []
some_group [] [] e h = absurd (h refl)
some_group [] (y ∷ ys) e h = absurd (omega (arith, e))
some_group (x ∷ xs) ys e h = λ z. cc

over_by : (a : Action) (k : Kin) → (kin_by a k).over ≡ (is_end a || k.over)
over_by End k = refl
over_by Fault k = refl
over_by _ k = refl

pub over_from : (H : History) (t : Name) → (kin_from (own t H)).over ≡ list_any (ends t) H
over_from [] t = refl
over_from (v ∷ H) t = at (is_of t v) (over_from H t)
  where
    at : (b : Bool) → (kin_from (own t H)).over ≡ list_any (ends t) H → (kin_from (prepend_if b v.action (own t H))).over ≡ ((b && is_end v.action) || list_any (ends t) H)
    at true e = over_by v.action (kin_from (own t H)) ∙ ap (λ o. is_end v.action || o) e
    at false e = e

-- who is under way isn't over
alive : (cells : Cells) (H : History) (t : Name) → Legal cells H → IsRunning (own t H) → (kin_from (own t H)).over ≡ false
alive cells H t l r = over_from H t ∙ false_from_ne_true (list_any (ends t) H) (λ e. not_running cells H t l e r)

-- ---- an action, and taking it back

abbrev kin_back : Action → Kin → Kin
kin_back (Spawn s) k = one_less k
kin_back Open k = unopened_kin k
kin_back Close k = unclosed_kin k
kin_back End k = with_over false k
kin_back Fault k = with_over false k
kin_back _ k = k

one_back : (k : Kin) → one_less (one_more k) ≡ k
one_back k = let e : suc k.children - 1 ≡ k.children = omega arith in ap (λ n. with_children n k) e

alive_back : (k : Kin) → k.over ≡ false → with_over false (with_over true k) ≡ k
alive_back k e = ap (λ b. with_over b k) (sym e)

group_back : (b : Bool) (n : ℕ) (gs ss : List ℕ) → gs ≢ [] → unclosed_kin (closed_kin (record { over = b; children = n; groups = gs; shut = ss })) ≡ record { over = b; children = n; groups = gs; shut = ss }
group_back b n [] ss h = absurd (h refl)
group_back b n (g ∷ gs) ss h = refl

back_again : (cells : Cells) (t : Name) (acts : List Action) (a : Action) → Continues cells t acts a → (IsRunning acts → (kin_from acts).over ≡ false) → kin_back a (kin_by a (kin_from acts)) ≡ kin_from acts
back_again cells t acts (Spawn s) h o = one_back (kin_from acts)
back_again cells t acts Close h o =
    let k = kin_from acts in group_back k.over k.children k.groups k.shut (some_group k.groups (groups acts) (depth acts) h.1)
back_again cells t acts End h o = alive_back (kin_from acts) (o h)
back_again cells t acts Fault h o = alive_back (kin_from acts) (o h)
back_again cells t acts _ h o = refl

-- ---- what a task has after a change of the table, whatever the action

same_kin : (b : Bool) (o : Option Kin) → o ≡ cond b (option_map (λ k. k) o) o
same_kin true None = refl
same_kin true (Some k) = refl
same_kin false o = refl

changed : (t : Name) (a : Action) (old new : Tasks) → ChangesBy t a old new → (u : Name) → kin new u ≡ cond (is_spawn_of u a) (Some fresh) (cond (same_name t u) (option_map (kin_by a) (kin old u)) (kin old u))
changed t (Spawn s) old new h u = h u
changed t Open old new h u = h u
changed t Close old new h u = h u
changed t End old new h u = h u
changed t Fault old new h u = h u
changed t _ old new h u = h u ∙ same_kin (same_name t u) (kin old u)

changed_back : (t : Name) (a : Action) (old new : Tasks) → ChangesBackBy t a old new → (u : Name) → kin new u ≡ cond (is_spawn_of u a) None (cond (same_name t u) (option_map (kin_back a) (kin old u)) (kin old u))
changed_back t (Spawn s) old new h u = h u
changed_back t Open old new h u = h u
changed_back t Close old new h u = h u
changed_back t End old new h u = h u
changed_back t Fault old new h u = h u
changed_back t _ old new h u = h u ∙ same_kin (same_name t u) (kin old u)

-- ---- what a history retains of a task

pub kin_stands : (H : History) (t : Name) → IsSpawned H t → kin_of H t ≡ Some (kin_from (own t H))
kin_stands H t s = ap (λ b. cond b (Some (kin_from (own t H))) None) s

kin_none : (H : History) (t : Name) → is_spawned H t ≡ false → kin_of H t ≡ None
kin_none H t s = ap (λ b. cond b (Some (kin_from (own t H))) None) s

-- who wasn't generated has no actions
no_acts : (cells : Cells) (H : History) (u : Name) → Legal cells H → is_spawned H u ≡ false → own u H ≡ []
no_acts cells H u l n = at (own u H) (acted_spawned cells H u l)
  where
    at : (acts : List Action) → (acts ≢ [] → is_spawned H u ≡ true) → acts ≡ []
    at [] f = refl
    at (a ∷ acts) f = absurd (both_ways (is_spawned H u) n (f (λ e. cc)))

still : (v : Event) (H : History) (u : Name) → spawns u v ≡ false → is_spawned (v ∷ H) u ≡ is_spawned H u
still v H [] n = refl
still v H (m ∷ u) n = ap (λ b. b || list_any (spawns (m ∷ u)) H) n

module _ (cells : Cells) (H : History) (v : Event) (l : Legal cells (v ∷ H)) where
  mine_there : IsSpawned H v.task
  mine_there = may_spawned cells H v l.0 l.1

  -- the child that the event generates wasn't there
  new_absent : (u : Name) → spawns u v ≡ true → is_spawned H u ≡ false
  new_absent u n = false_from_ne_true (is_spawned H u) (λ s. both_ways (spawns u v) (not_again cells H l.0 v l.1 u s) n)

  pub new_kin : (u : Name) → spawns u v ≡ true → kin_of (v ∷ H) u ≡ Some fresh
  new_kin u n =
      let other : is_of u v ≡ false = false_from_ne_true (is_of u v) (λ o. both_ways (is_spawned H u) (new_absent u n) (subst (IsSpawned H) (same_true v.task u o) mine_there)) in
      kin_stands (v ∷ H) u (spawned_by u (v ∷ H) (or_left (spawns u v) (list_any (spawns u) H) n))
      ∙ ap (λ acts. Some (kin_from acts)) (own_other u v H other ∙ no_acts cells H u l.0 (new_absent u n))

  -- every other task
  old_kin : (u : Name) → spawns u v ≡ false → kin_of (v ∷ H) u ≡ cond (is_of u v) (option_map (kin_by v.action) (kin_of H u)) (kin_of H u)
  old_kin u n = ap (λ b. cond b (Some (kin_from (own u (v ∷ H)))) None) (still v H u n) ∙ at (is_spawned H u) (is_of u v)
    where
      at : (s b : Bool) → cond s (Some (kin_from (prepend_if b v.action (own u H)))) None ≡ cond b (option_map (kin_by v.action) (cond s (Some (kin_from (own u H))) None)) (cond s (Some (kin_from (own u H))) None)
      at true true = refl
      at true false = refl
      at false true = refl
      at false false = refl

  -- the task of the event
  pub mine_behind : kin_of (v ∷ H) v.task ≡ Some (kin_by v.action (kin_from (own v.task H)))
  mine_behind =
      kin_stands (v ∷ H) v.task (grown v.task v H mine_there)
      ∙ ap (λ acts. Some (kin_from acts)) (own_mine v.task v H (same_refl v.task))

  pub mine_in_front : kin_of H v.task ≡ Some (kin_from (own v.task H))
  mine_in_front = kin_stands H v.task mine_there

  mine_back : (u : Name) (s : Bool) → is_of u v ≡ true → option_map (kin_back v.action) (option_map (kin_by v.action) (cond s (Some (kin_from (own u H))) None)) ≡ cond s (Some (kin_from (own u H))) None
  mine_back u false o = refl
  mine_back u true o =
      ap Some (subst (λ t. kin_back v.action (kin_by v.action (kin_from (own t H))) ≡ kin_from (own t H)) (same_true v.task u o)
      (back_again cells v.task (own v.task H) v.action l.1.own (alive cells H v.task l.0)))

-- ---- the table of a history

pub at_first : (tasks : Tasks) → ((t : Name) → kin tasks t ≡ (cond (same_name [] t) (Some fresh) None)) → AreKin [] tasks
at_first tasks h t = h t ∙ each t
  where
    each : (t : Name) → cond (same_name [] t) (Some fresh) None ≡ kin_of [] t
    each [] = refl
    each (n ∷ t) = refl

pub stepped : (cells : Cells) (H : History) (v : Event) (old new : Tasks) → Legal cells (v ∷ H) → AreKin H old → ChangesBy v.task v.action old new → AreKin (v ∷ H) new
stepped cells H v old new l st h u = changed v.task v.action old new h u ∙ at (spawns u v) refl
  where
    at : (b : Bool) → spawns u v ≡ b → cond b (Some fresh) (cond (is_of u v) (option_map (kin_by v.action) (kin old u)) (kin old u)) ≡ kin_of (v ∷ H) u
    at true n = sym (new_kin cells H v l u n)
    at false n = ap (λ o. cond (is_of u v) (option_map (kin_by v.action) o) o) (st u) ∙ sym (old_kin cells H v l u n)

pub taken_back : (cells : Cells) (H : History) (v : Event) (old new : Tasks) → Legal cells (v ∷ H) → AreKin (v ∷ H) old → ChangesBackBy v.task v.action old new → AreKin H new
taken_back cells H v old new l st h u = changed_back v.task v.action old new h u ∙ at (spawns u v) refl
  where
    both : (b : Bool) → is_of u v ≡ b → cond b (option_map (kin_back v.action) (cond b (option_map (kin_by v.action) (kin_of H u)) (kin_of H u))) (cond b (option_map (kin_by v.action) (kin_of H u)) (kin_of H u)) ≡ kin_of H u
    both true o = mine_back cells H v l u (is_spawned H u) o
    both false o = refl

    at : (b : Bool) → spawns u v ≡ b → cond b None (cond (is_of u v) (option_map (kin_back v.action) (kin old u)) (kin old u)) ≡ kin_of H u
    at true n = sym (kin_none H u (new_absent cells H v l u n))
    at false n =
        ap (λ o. cond (is_of u v) (option_map (kin_back v.action) o) o) (st u ∙ old_kin cells H v l u n) ∙ both (is_of u v) refl

pub kept_alike : (G H : History) (tasks : Tasks) → Alike G H → AreKin G tasks → AreKin H tasks
kept_alike G H tasks a st t = st t ∙ ap₂ (λ b acts. cond b (Some (kin_from acts)) None) (spawned_alike t a) (a.acts t)

-- ---- what the calls require

module _ (cells : Cells) (H : History) (v : Event) (tasks : Tasks) (l : Legal cells (v ∷ H)) where
  module _ (s : TheSpawn) (is : v.action ≡ Spawn s) where
    next_name : s.child ≡ suc (spawn_count (own v.task H)) ∷ v.task
    next_name = let c = subst (Continues cells v.task (own v.task H)) is l.1.own in c.1

    pub spawn_next : AreKin H tasks → IsNext tasks v.task s.child
    spawn_next st = (
      kin_from (own v.task H),
      st v.task ∙ mine_in_front cells H v l,
      next_name ∙ ap (λ n. suc n ∷ v.task) (sym (counted (own v.task H))),
    )

    pub spawn_last : AreKin (v ∷ H) tasks → IsLast tasks v.task s.child
    spawn_last st = (
      one_more (kin_from (own v.task H)),
      spawn_count (own v.task H),
      st v.task ∙ mine_behind cells H v l ∙ ap (λ a. Some (kin_by a (kin_from (own v.task H)))) is,
      ap suc (counted (own v.task H)),
      next_name,
      st s.child ∙ new_kin cells H v l s.child (ap (is_spawn_of s.child) is ∙ same_refl s.child),
    )

  pub close_group : v.action ≡ Close → AreKin H tasks → HasOpenGroup tasks v.task
  close_group is st =
      let c = subst (Continues cells v.task (own v.task H)) is l.1.own in
      let k = kin_from (own v.task H) in (
        k,
        st v.task ∙ mine_in_front cells H v l,
        some_group k.groups (groups (own v.task H)) (depth (own v.task H)) c.1,
      )

  pub open_group : v.action ≡ Open → AreKin (v ∷ H) tasks → HasOpenGroup tasks v.task
  open_group is st =
      let k = kin_from (own v.task H) in (
        opened_kin k,
        st v.task ∙ mine_behind cells H v l ∙ ap (λ a. Some (kin_by a k)) is,
        λ z. cc,
      )
