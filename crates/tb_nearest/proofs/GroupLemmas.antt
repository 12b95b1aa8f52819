-- A close after the end of a member: nearest, or by way of another close of a group over it.
use Rattle.std.proofs.Common.{◌≡◌, ◌⊎◌, inl, inr, ⊎_elim, ℕ, List, [], ◌∷◌, ◌++◌, true, ◌&&◌, refl, sym, ap, subst}
use Rattle.std.specs.List.{list_any}
use Rattle.std.proofs.lemmas.Bool.{or_cases, or_left, or_right, and_parts, cases_Bool, both_ways, false≢true}
use Rattle.tb_model.specs.declared.action.Action.{Action}
use Rattle.tb_model.specs.declared.action.Action.TheVariants.{Start, Let, Load, Store, Print, Spawn, Wait, Open, Close, Test, End, Fault}
use Rattle.tb_model.specs.declared.event.Event.{Event}
use Rattle.tb_model.specs.Names.{Name, same_name, is_within}
use Rattle.tb_model.specs.Facts.{History, HasEnded, IsSpawned, is_of, own, groups, innermost, is_member, is_end, ends, spawns}
use Rattle.tb_model.specs.Legal.{Cells, Legal, IsTimely}
use Rattle.tb_model.specs.Needs.{needs}
use Rattle.tb_model.proofs.TestLemmas.{same_true, same_refl}
use Rattle.tb_model.proofs.FactsLemmas.{cons_tail, spawn_names, grown, acted_spawned, begun, not_running, no_acts, AreChildren, group_children, first_children}
use Rattle.tb_model.proofs.NeighboursLemmas.{legal_below}
use Rattle.tb_model.proofs.NeedsLemmas.{may_spawned}
use Rattle.tb_model.proofs.SettledLemmas.{spawned_later, ended_later}
use Rattle.tb_nearest.specs.Nearest.{Nearest, close, is_close, some_close}
use Rattle.tb_nearest.proofs.WayLemmas.{any_there, needs_own, needs_end, Way, whole, way_by, by_ended}
use Rattle.tb_nearest.proofs.DirectLemmas.{by_waiting}

-- ---- the close

record FoundClose (m : Name) (between front : History) : Type 0 where
  who : Event
  later : History
  earlier : History
  split : between ≡ later ++ who ∷ earlier
  closes : who.action ≡ Close
  member : is_member (own who.task (earlier ++ front)) m ≡ true

close_only : (a : Action) → is_close a ≡ true → a ≡ Close
close_only Close h = refl
close_only Start h = absurd (false≢true h)
close_only (Let r x) h = absurd (false≢true h)
close_only (Load r c x) h = absurd (false≢true h)
close_only (Store c x) h = absurd (false≢true h)
close_only (Print x) h = absurd (false≢true h)
close_only (Spawn s) h = absurd (false≢true h)
close_only (Wait items) h = absurd (false≢true h)
close_only Open h = absurd (false≢true h)
close_only (Test b) h = absurd (false≢true h)
close_only End h = absurd (false≢true h)
close_only Fault h = absurd (false≢true h)

find_close : (m : Name) (between front : History) → some_close m between front ≡ true → FoundClose m between front
find_close m [] front h = absurd (false≢true h)
find_close m (w ∷ between) front h =
    ⊎_elim
    (λ c. let o = and_parts (is_close w.action) _ c in record { who = w; later = []; earlier = between; split = refl; closes = close_only w.action o.0; member = o.1 })
    (λ r. let f = find_close m between front r in record { who = f.who; later = w ∷ f.later; earlier = f.earlier; split = ap (λ l. w ∷ l) f.split; closes = f.closes; member = f.member })
    (or_cases (is_close w.action && is_member (own w.task (between ++ front)) m) (some_close m between front) h)

-- ---- names over one name

comparable : (c d x : Name) → is_within c x ≡ true → is_within d x ≡ true → (is_within c d ≡ true) ⊎ (is_within d c ≡ true)
comparable c d [] p q = inl (subst (λ y. is_within c y ≡ true) (sym (same_true d [] q)) p)
comparable c d (n ∷ x) p q =
    ⊎_elim (λ s. inr (subst (λ y. is_within d y ≡ true) (sym (same_true c (n ∷ x) s)) q))
    (λ r. ⊎_elim (λ s. inl (subst (λ y. is_within c y ≡ true) (sym (same_true d (n ∷ x) s)) p)) (λ t. comparable c d x r t) (or_cases (same_name d (n ∷ x)) (is_within d x) q))
    (or_cases (same_name c (n ∷ x)) (is_within c x) p)

-- a child of t over m
record Branch (t m : Name) (cs : List Name) : Type 0 where
  number : ℕ
  over : is_within (number ∷ t) m ≡ true
  among : (x : Name) → is_within (number ∷ t) x ≡ true → list_any (λ c. is_within c x) cs ≡ true

branch : (t m : Name) (cs : List Name) → AreChildren t cs → list_any (λ c. is_within c m) cs ≡ true → Branch t m cs
branch t m [] a h = absurd (false≢true h)
branch t m ([] ∷ cs) a h = absurd (false≢true a.0)
branch t m ((n ∷ c) ∷ cs) a h =
    ⊎_elim
    (λ w.
    let is : n ∷ c ≡ n ∷ t = ap (λ x. n ∷ x) (same_true c t a.0) in
    record { number = n; over = subst (λ y. is_within y m ≡ true) is w; among = λ x q. or_left (is_within (n ∷ c) x) _ (subst (λ y. is_within y x ≡ true) (sym is) q) })
    (λ r. let b = branch t m cs a.1 r in record { number = b.number; over = b.over; among = λ x q. or_right (is_within (n ∷ c) x) _ (b.among x q) })
    (or_cases (is_within (n ∷ c) m) (list_any (λ d. is_within d m) cs) h)

member_branch : (cells : Cells) (H : History) (t m : Name) → Legal cells H → is_member (own t H) m ≡ true → Branch t m (innermost (groups (own t H)))
member_branch cells H t m l h = branch t m _ (first_children t (groups (own t H)) (group_children cells H t l)) h

-- ---- those above a task were generated

parent_spawned : (cells : Cells) (H : History) (n : ℕ) (p : Name) → Legal cells H → IsSpawned H (n ∷ p) → IsSpawned H p
parent_spawned cells [] n p l h = absurd (false≢true h)
parent_spawned cells (v ∷ H) n p l h =
    ⊎_elim
    (λ s. let e = cons_tail (spawn_names cells v.task (n ∷ p) (own v.task H) v.action l.1.own s) in grown p v H (subst (IsSpawned H) (sym e) (may_spawned cells H v l.0 l.1)))
    (λ r. grown p v H (parent_spawned cells H n p l.0 r)) (or_cases (spawns (n ∷ p) v) (list_any (spawns (n ∷ p)) H) h)

above_spawned : (cells : Cells) (H : History) (n : ℕ) (p m : Name) → Legal cells H → is_within (n ∷ p) m ≡ true → IsSpawned H m → IsSpawned H p
above_spawned cells H n p [] l w s = absurd (false≢true w)
above_spawned cells H n p (k ∷ m) l w s =
    let up = parent_spawned cells H k m l s in
    ⊎_elim (λ e. subst (IsSpawned H) (sym (cons_tail (same_true (n ∷ p) (k ∷ m) e))) up) (λ r. above_spawned cells H n p m l r up) (or_cases (same_name (n ∷ p) (k ∷ m)) (is_within (n ∷ p) m) w)

-- ---- a close by way of a close

no_close_starts : (a : Action) → a ≡ Close → a ≡ Start → ⊥
no_close_starts a c s = cc

module _ (cells : Cells) (v u : Event) (between front : History) (l : Legal cells (v ∷ (between ++ u ∷ front))) (e : is_end u.action ≡ true) (a : v.action ≡ Close) (m : is_member (own v.task (between ++ u ∷ front)) u.task ≡ true) where
  abbrev H : History
  H = between ++ u ∷ front

  module _ (f : FoundClose u.task between (u ∷ front)) where
    abbrev E : History
    E = f.earlier ++ u ∷ front

    is : H ≡ f.later ++ f.who ∷ E
    is = whole u f.who between front f.later f.earlier f.split

    lw : Legal cells (f.who ∷ E)
    lw = legal_below cells f.later (f.who ∷ E) (subst (Legal cells) is l.0)

    down : needs E f.who u ≡ true
    down = needs_end E f.who u e (by_waiting E f.who.task f.who.action Close u.task f.closes f.member)

    -- that of one task
    by_own : v.task ≡ f.who.task → Way v u between front
    by_own n = way_by v u f.who between front f.later f.earlier f.split (needs_own H v f.who (subst (λ t. same_name f.who.task t ≡ true) (sym n) (same_refl f.who.task))) down

    -- that of a member of the group
    by_inner : is_member (own v.task H) f.who.task ≡ true → Way v u between front
    by_inner i =
        let spawned : IsSpawned H f.who.task = subst (λ K. IsSpawned K f.who.task) (sym is) (spawned_later f.who.task f.later (f.who ∷ E) (grown f.who.task f.who E (may_spawned cells E f.who lw.0 lw.1))) in
        let ended = (subst (IsTimely cells H v.task) a l.1.timely) f.who.task i spawned in
        by_ended v u f.who between front f.later f.earlier f.split ended (λ x. false≢true (subst (λ b. is_end b ≡ true) f.closes (and_parts (is_of f.who.task f.who) (is_end f.who.action) x).1))
        (λ x. ⊎_elim (λ s. no_close_starts f.who.action f.closes s) (λ r. not_running cells E f.who.task lw.0 x r) (begun cells f.who.task (own f.who.task E) f.who.action lw.1.own))
        (by_waiting H v.task v.action Close f.who.task a i) down

    -- that of a task above is after the end of v's
    no_outer : is_member (own f.who.task E) v.task ≡ true → IsSpawned E v.task → ⊥
    no_outer i s =
        let ended : HasEnded E v.task = (subst (IsTimely cells E f.who.task) f.closes lw.1.timely) v.task i s in
        let later : HasEnded H v.task = subst (λ K. HasEnded K v.task) (sym is) (ended_later v.task f.later (f.who ∷ E) (or_right (ends v.task f.who) _ ended)) in
        ⊎_elim (λ q. no_close_starts v.action a q) (λ r. not_running cells H v.task l.0 later r) (begun cells v.task (own v.task H) v.action l.1.own)

    by_found : Way v u between front
    by_found =
        let b = member_branch cells H v.task u.task l.0 m in
        let c = member_branch cells E f.who.task u.task lw.0 f.member in
        let acted : own u.task E ≡ [] → ⊥ = λ n. both_ways (list_any (is_of u.task) E) (no_acts u.task E n) (any_there (is_of u.task) f.earlier u front (same_refl u.task)) in
        let above = above_spawned cells E b.number v.task u.task lw.0 b.over (acted_spawned cells E u.task lw.0 acted) in
        let mine = b.number ∷ v.task in
        let its = c.number ∷ f.who.task in
        ⊎_elim (λ w. ⊎_elim (λ s. by_own (cons_tail (same_true mine its s))) (λ r. by_inner (b.among f.who.task r)) (or_cases (same_name mine its) (is_within mine f.who.task) w))
        (λ w. ⊎_elim (λ s. by_own (sym (cons_tail (same_true its mine s)))) (λ r. absurd (no_outer (c.among v.task r) above)) (or_cases (same_name its mine) (is_within its v.task) w))
        (comparable mine its u.task b.over c.over)

  pub by_close : Nearest v u between front ⊎ Way v u between front
  by_close =
      ⊎_elim (λ s. inr (by_found (find_close u.task between (u ∷ front) s))) (λ n. inl (close e a m n)) (cases_Bool (some_close u.task between (u ∷ front)))
