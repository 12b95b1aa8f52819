-- Where a taskgroup was opened: no member of it was generated in front.
use Rattle.std.proofs.Common.{◌≡◌, ◌≢◌, ◌+◌, ◌-◌, ◌<◌, ◌≤◌, ℕ, suc, List, [], ◌∷◌, Bool, true, false, ◌&&◌, length, map, refl, sym, ap, ◌∙◌, subst, arith, Some, ◌⊎◌, inl, inr, ⊎_elim, eq-eqb, slice_get}
use Rattle.std.specs.List.{list_any}
use Rattle.std.proofs.lemmas.Bool.{and_from, both_ways, cases_lt, false≢true, false_from_ne_true, or_cases, or_left}
use Rattle.tb_model.specs.declared.action.Action.{Action}
use Rattle.tb_model.specs.declared.action.Action.TheVariants.{Spawn, Open, Close}
use Rattle.tb_model.specs.declared.event.Event.{Event}
use Rattle.tb_model.specs.Names.{Name, is_within, same_name}
use Rattle.tb_model.specs.Facts.{History, IsSpawned, ends, groups, holds, innermost, is_end, is_member, is_of, own, spawns}
use Rattle.tb_model.specs.Legal.{Cells, Continues, Legal, spawn_count}
use Rattle.tb_model.proofs.FactsLemmas.{grown, not_running, own_mine, spawn_bound, spawn_names}
use Rattle.tb_model.proofs.NeedsLemmas.{may_spawned}
use Rattle.tb_model.proofs.TestLemmas.{same_refl, same_true}
use Rattle.tb_steps.specs.Entries.{Entry}
use Rattle.tb_steps.specs.Scans.{AreLegal}
use Rattle.tb_steps.proofs.MemberLemmas.{at_close, at_last, at_open, behind_open, behind_other, member_behind}
use Rattle.tb_races.specs.declared.need_kind.NeedKind.TheVariants.{Group}
use Rattle.tb_races.specs.Kinds.{some_if, wait_kind}
use Rattle.tb_races.specs.Orders.{Order, Synchronised, counts_some}
use Rattle.tb_lanes.specs.declared.tasks.Tasks.{Tasks}
use Rattle.tb_lanes.specs.Clocks.{AreTasks, IsEnd, both_at, links_at, number, of_one, previous}
use Rattle.tb_lanes.specs.Linking.{order_of}
use Rattle.tb_lanes.specs.Rows.{waits_at}
use Rattle.tb_lanes.proofs.AfterLemmas.{at_read}
use Rattle.tb_lanes.proofs.AskedLemmas.{link_parts, waits_is}
use Rattle.tb_lanes.proofs.LinkLemmas.{both_is, end_is}
use Rattle.tb_lanes.proofs.OwnLemmas.{H, any_place, ev, head_here, head_none, legal_here, place_any}
use Rattle.tb_steps.proofs.FirstLemmas.{some_same}

-- ---- who was generated

parent_spawned : (cells : Cells) (G : History) (j : ℕ) (p : Name) → Legal cells G → list_any (spawns (j ∷ p)) G ≡ true → IsSpawned G p
parent_spawned cells [] j p l h = absurd (false≢true h)
parent_spawned cells (v ∷ G) j p l h =
    ⊎_elim
    (λ s. grown p v G (subst (IsSpawned G) (sym (tail (spawn_names cells v.task (j ∷ p) (own v.task G) v.action l.1.own s))) (may_spawned cells G v l.0 l.1)))
    (λ r. grown p v G (parent_spawned cells G j p l.0 r))
    (or_cases (spawns (j ∷ p) v) (list_any (spawns (j ∷ p)) G) h)
  where
    tail : {k n : ℕ} {s t : Name} → ◌≡◌ {A = Name} (k ∷ s) (n ∷ t) → s ≡ t
    tail e = cc

-- who was generated in front of a child isn't within it
pub without_next : (cells : Cells) (G : History) (t m : Name) → Legal cells G → IsSpawned G m → is_within (suc (spawn_count (own t G)) ∷ t) m ≡ false
without_next cells G t m l s = false_from_ne_true _ (λ h. by m s h)
  where
    by : (m : Name) → IsSpawned G m → is_within (suc (spawn_count (own t G)) ∷ t) m ≡ true → ⊥
    by [] s h = absurd (false≢true h)
    by (j ∷ p) s h =
        ⊎_elim
        (λ a.
        let q = same_true (suc (spawn_count (own t G)) ∷ t) (j ∷ p) a in
        absurd (omega (arith, spawn_bound cells G (suc (spawn_count (own t G))) t l (subst (λ u. list_any (spawns u) G ≡ true) (sym q) s))))
        (λ a. by p (parent_spawned cells G j p l s) a)
        (or_cases (same_name (suc (spawn_count (own t G)) ∷ t) (j ∷ p)) (is_within (suc (spawn_count (own t G)) ∷ t) p) h)

-- the undeferred child for which a task waits is a member, where a group is open
pub held_member : (acts : List Action) (u : Name) → holds acts u ≡ true → groups acts ≢ [] → is_member acts u ≡ true
held_member (Spawn s ∷ acts) u h some = by (groups acts) some
  where
    itself : (c m : Name) → same_name c m ≡ true → is_within c m ≡ true
    itself c [] h = h
    itself c (n ∷ m) h = or_left (same_name c (n ∷ m)) _ h

    last : (a b : Bool) → (a && b) ≡ true → b ≡ true
    last true b h = h
    last false b h = absurd (false≢true h)

    by : (gs : List (List Name)) → map (λ us. s.child ∷ us) gs ≢ [] → list_any (λ c. is_within c u) (innermost (map (λ us. s.child ∷ us) gs)) ≡ true
    by [] some = absurd (some refl)
    by (us ∷ gs) some = or_left (is_within s.child u) _ (itself s.child u (last _ (same_name s.child u) h))
held_member [] u h some = absurd (false≢true h)
held_member (_ ∷ acts) u h some = absurd (false≢true h)

-- ---- a walk back along the steps of a task

module _ (entries : List Entry) (tasks : Tasks) (are : AreTasks entries tasks) (legal : AreLegal entries) where
  -- who was generated stays so
  pub spawned_on : (m : Name) (b n : ℕ) → b ≤ n → n ≤ length entries → IsSpawned (H entries b) m → IsSpawned (H entries n) m
  spawned_on [] b n l i h = refl
  spawned_on (k ∷ m) b n l i h =
      let r = any_place entries (spawns (k ∷ m)) b (omega (arith, l, i)) h in
      place_any entries (spawns (k ∷ m)) n r.0 (omega (arith, r.1, l)) i r.2.0 r.2.1

  module _ (p : ℕ) (w : p < length entries) (v : Entry) (v_is : slice_get entries p ≡ Some v) where
    abbrev t : Name
    t = v.event.task

    task_here : (ev entries p w).task ≡ t
    task_here = ap (λ (e : Entry). e.event.task) (some_same _ v (sym (at_read Synchronised entries p w) ∙ v_is))

    task_at : (b : ℕ) (i : b < length entries) → number tasks b ≡ number tasks p → (ev entries b i).task ≡ t
    task_at b i same =
        same_true (ev entries b i).task (ev entries p w).task (sym (both_is Synchronised entries p b w i of_one) ∙ (sym (are.same p b w i) ∙ eq-eqb (number tasks p) (number tasks b) (sym same)))
        ∙ task_here

    mine : (b : ℕ) (i : b < length entries) → number tasks b ≡ number tasks p → is_of t (ev entries b i) ≡ true
    mine b i same = subst (λ s. is_of s (ev entries b i) ≡ true) (task_at b i same) (same_refl (ev entries b i).task)

    -- what a later part of the walk says, where q is the index so far, and b that of the step in
    -- front
    module _ (q b closed : ℕ) (l : b < q) (k : q ≤ p) (i : b < length entries) (same : number tasks q ≡ number tasks p) (prev : previous tasks q ≡ suc b) (of : number tasks b ≡ number tasks q)
        (rest : (m : Name) → IsSpawned (H entries q) m → is_member (own t (H entries p)) m ≡ member_behind closed false (own t (H entries q)) m) where
      abbrev u : Event
      u = ev entries b i

      abbrev G : History
      G = H entries b

      abbrev j : q < length entries
      j = omega (arith, k, w)

      is_mine : is_of t u ≡ true
      is_mine = mine b i (of ∙ same)

      head : own t (H entries q) ≡ own t (u ∷ G)
      head = subst (λ s. own s (H entries q) ≡ u.action ∷ own s G) (task_at q j same) (head_here entries tasks are q j b i prev of) ∙ sym (own_mine t u G is_mine)

      newest : (a : Action) → u.action ≡ a → own t (u ∷ G) ≡ a ∷ own t G
      newest a is = own_mine t u G is_mine ∙ ap (λ b. b ∷ own t G) is

      later : (m : Name) → IsSpawned G m → is_member (own t (H entries p)) m ≡ member_behind closed false (own t (u ∷ G)) m
      later m s = rest m (spawned_on m b q (omega (arith, l)) (omega (arith, j)) s) ∙ ap (λ acts. member_behind closed false acts m) head

      pub walk_open : u.action ≡ Open → closed ≢ 0 → (m : Name) → IsSpawned G m → is_member (own t (H entries p)) m ≡ member_behind (closed - 1) false (own t G) m
      walk_open is inside m s = later m s ∙ sym (behind_open t m (u ∷ G) G u refl is_mine closed false is inside)

      pub walk_close : u.action ≡ Close → (m : Name) → IsSpawned G m → is_member (own t (H entries p)) m ≡ member_behind (closed + 1) false (own t G) m
      walk_close is m s =
          later m s ∙ ap (λ acts. member_behind closed false acts m) (newest Close is) ∙ at_close closed false (own t G) m
          ∙ ap (λ n. member_behind n false (own t G) m) one
        where
          one : suc closed ≡ closed + 1
          one = omega arith

      pub walk_other : (u.action ≡ Open → ⊥) → (u.action ≡ Close → ⊥) → (m : Name) → IsSpawned G m → is_member (own t (H entries p)) m ≡ member_behind closed false (own t G) m
      walk_other f g m s = later m s ∙ by u.action refl
        where
          by : (a : Action) → u.action ≡ a → member_behind closed false (own t (u ∷ G)) m ≡ member_behind closed false (own t G) m
          by Open is = absurd (f is)
          by Close is = absurd (g is)
          by (Spawn x) is =
              sym
              (behind_other t m (u ∷ G) G u refl is_mine closed false x is
              (ap (λ c. is_within c m) (child x is) ∙ without_next legal.cells G t m (legal_here entries legal b i).0 s))
            where
              child : (x : _) → u.action ≡ Spawn x → x.child ≡ suc (spawn_count (own t G)) ∷ t
              child x is =
                  subst (λ n. x.child ≡ suc (spawn_count (own n G)) ∷ n) (task_at b i (of ∙ same))
                  (subst (Continues legal.cells u.task (own u.task G)) is (legal_here entries legal b i).1.own).1
          by a is = ap (λ acts. member_behind closed false acts m) (newest a is)

      -- here the group was opened
      pub walk_opened : u.action ≡ Open → closed ≡ 0 → (m : Name) → IsSpawned (H entries q) m → is_member (own t (H entries p)) m ≡ false
      walk_opened is none m s =
          rest m s ∙ ap (λ acts. member_behind closed false acts m) (head ∙ newest Open is) ∙ ap (λ n. member_behind n false (Open ∷ own t G) m) none
          ∙ at_open false (own t G) m

    -- without a step in front there is no group
    pub walk_none : (q closed : ℕ) → q ≤ p → number tasks q ≡ number tasks p → (previous tasks q ≡ 0) ⊎ ((b : ℕ) × (previous tasks q ≡ suc b) × (number tasks b ≢ number tasks q))
        → (m : Name) → is_member (own t (H entries p)) m ≡ member_behind closed false (own t (H entries q)) m → is_member (own t (H entries p)) m ≡ false
    walk_none q closed k same c m rest =
        let j : q < length entries = omega (arith, k, w) in
        rest
        ∙ ap (λ acts. member_behind closed false acts m) (subst (λ s. own s (H entries q) ≡ []) (task_at q j same) (head_none entries tasks are q j c))
        ∙ at_last closed false m

  -- ---- the end of a group

  -- it is linked to no end in front of who wasn't generated yet
  pub close_from : (p : ℕ) (w : p < length entries) → (ev entries p w).action ≡ Close → (from : ℕ) → from ≤ p → ((m : Name) → IsSpawned (H entries from) m → is_member (own (ev entries p w).task (H entries p)) m ≡ false)
      → (exclusion : Bool) (x : ℕ) → IsEnd entries p x → links_at (order_of exclusion) entries p x ≡ true → from ≤ x
  close_from p w is from low none exclusion x end link = ⊎_elim (λ a. absurd (early a)) (λ a. a) (cases_lt x from)
    where
      o : Order
      o = order_of exclusion

      i : x < length entries
      i = omega (arith, end.0, w)

      t : Name
      t = (ev entries p w).task

      goes_on : Continues legal.cells t (own t (H entries p)) Close
      goes_on = subst (Continues legal.cells t (own t (H entries p))) is (legal_here entries legal p w).1.own

      early : x < from → ⊥
      early a = by (link_parts o entries p x w i end.1 link)
        where
          out : is_member (own t (H entries p)) (ev entries x i).task ≡ false
          out = none (ev entries x i).task (spawned_on (ev entries x i).task x from (omega (arith, a)) (omega (arith, low, w)) (may_spawned legal.cells (H entries x) (ev entries x i) (legal_here entries legal x i).0 (legal_here entries legal x i).1))

          by : (both_at of_one entries p x ≡ true) ⊎ ((waits_at o entries p x ≡ true) ⊎ (holds (own t (H entries p)) (ev entries x i).task ≡ true)) → ⊥
          by (inl own_end) =
              not_running legal.cells (H entries p) t (legal_here entries legal p w).0
              (place_any entries (ends t) p x end.0 (omega (arith, w)) i
              (and_from (is_of t (ev entries x i)) (is_end (ev entries x i).action) (sym (both_is Synchronised entries p x w i of_one) ∙ own_end) (sym (end_is o entries p x w i) ∙ end.1)))
              goes_on.0
          by (inr (inl waits)) =
              both_ways (waits_at o entries p x)
              (waits_is o entries p x w i ∙ ap (λ a. counts_some o (wait_kind (H entries p) t a (ev entries x i).task)) is ∙ ap (λ b. counts_some o (some_if b Group)) out) waits
          by (inr (inr held)) = both_ways (is_member (own t (H entries p)) (ev entries x i).task) out (held_member (own t (H entries p)) (ev entries x i).task held goes_on.1)
