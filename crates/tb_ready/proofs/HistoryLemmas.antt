-- A step leads from the marks of a history to those of the history with it, and taking it back leads back.
use Rattle.std.proofs.Common.{◌≡◌, List, [], ◌∷◌, Bool, true, false, cond, ◌&&◌, ◌||◌, not, Option, Some, None, refl, sym, ap, ap₂, ◌∙◌, subst, ⊎_elim}
use Rattle.std.specs.Prelude.{option_map, unwrap_or}
use Rattle.std.specs.List.{list_any}
use Rattle.std.proofs.lemmas.Bool.{both_ways, false_from_ne_true, false≢true, or_left, or_cases}
use Rattle.tb_model.specs.declared.action.Action.{Action}
use Rattle.tb_model.specs.declared.action.Action.TheVariants.{Spawn, End, Fault}
use Rattle.tb_model.specs.declared.event.Event.{Event}
use Rattle.tb_model.specs.declared.spawn.Spawn.{Spawn as TheSpawn}
use Rattle.tb_model.specs.Names.{Name, same_name}
use Rattle.tb_model.specs.Facts.{History, own, is_of, is_end, ends, is_spawn_of, is_spawned, spawns, IsSpawned}
use Rattle.tb_model.specs.Legal.{Cells, Legal, Continues, IsRunning}
use Rattle.tb_model.specs.State.{is_unended}
use Rattle.tb_model.specs.Alike.{Alike}
use Rattle.tb_model.proofs.TestLemmas.{other_way, same_true, same_refl}
use Rattle.tb_model.proofs.FactsLemmas.{acted_spawned, not_again, not_running, not_started, ends_own, spawned_by}
use Rattle.tb_model.proofs.NeedsLemmas.{may_spawned}
use Rattle.tb_model.proofs.AlikeLemmas.{spawned_alike}
use Rattle.tb_ready.specs.Tasks.{mark_of, with_name, without_name, with_mark, is_candidate}
use Rattle.tb_ready.specs.Histories.{mark_behind, AreMarks, MarkedBy, MarkedBackBy}
use Rattle.tb_ready.proofs.ChangeLemmas.{added, added_others, marked, marked_others, removed, removed_others}

abbrev Table : Type 0
Table = List (Name × Bool)

-- ---- the mark of each name after a change, whatever the action

-- where o is the mark of u in front of it
abbrev marked_if : Bool → Bool → Bool → Option Bool → Option Bool
marked_if is_over mine mark o = cond is_over (cond mine (option_map (λ _. mark) o) o) o

marked_each : (ts : Table) (name : Name) (mark : Bool) (u : Name) → mark_of (with_mark ts name mark) u ≡ cond (same_name name u) (option_map (λ _. mark) (mark_of ts u)) (mark_of ts u)
marked_each ts name mark u = at (same_name name u) refl
  where
    at : (b : Bool) → same_name name u ≡ b → mark_of (with_mark ts name mark) u ≡ cond b (option_map (λ _. mark) (mark_of ts u)) (mark_of ts u)
    at true e =
        subst (λ w. mark_of (with_mark ts name mark) w ≡ option_map (λ _. mark) (mark_of ts w)) (same_true name u e) (marked ts name mark)
    at false e = marked_others ts name u mark (other_way name u e)

spawned_each : (ts : Table) (w u : Name) → mark_of ts w ≡ None → mark_of (with_mark (with_name ts w) w true) u ≡ cond (same_name w u) (Some true) (mark_of ts u)
spawned_each ts w u n = at (same_name w u) refl
  where
    at : (b : Bool) → same_name w u ≡ b → mark_of (with_mark (with_name ts w) w true) u ≡ cond b (Some true) (mark_of ts u)
    at true e =
        subst (λ x. mark_of (with_mark (with_name ts w) w true) x ≡ Some true) (same_true w u e)
        (marked (with_name ts w) w true ∙ ap (option_map (λ _. true)) (added ts w n))
    at false e = marked_others (with_name ts w) w u true (other_way w u e) ∙ added_others ts w u (other_way w u e)

removed_each : (ts : Table) (w u : Name) → mark_of (without_name ts w) u ≡ cond (same_name w u) None (mark_of ts u)
removed_each ts w u = at (same_name w u) refl
  where
    at : (b : Bool) → same_name w u ≡ b → mark_of (without_name ts w) u ≡ cond b None (mark_of ts u)
    at true e = subst (λ x. mark_of (without_name ts w) x ≡ None) (same_true w u e) (removed ts w)
    at false e = removed_others ts w u (other_way w u e)

changed : (t : Name) (a : Action) (old new : Table) → ((w : Name) → is_spawn_of w a ≡ true → mark_of old w ≡ None) → MarkedBy t a old new → (u : Name)
    → mark_of new u ≡ cond (is_spawn_of u a) (Some true) (marked_if (is_end a) (same_name t u) false (mark_of old u))
changed t (Spawn s) old new n h u = ap (λ ts. mark_of ts u) h ∙ spawned_each old s.child u (n s.child (same_refl s.child))
changed t End old new n h u = ap (λ ts. mark_of ts u) h ∙ marked_each old t false u
changed t Fault old new n h u = ap (λ ts. mark_of ts u) h ∙ marked_each old t false u
changed t _ old new n h u = ap (λ ts. mark_of ts u) h

changed_back : (t : Name) (a : Action) (old new : Table) → MarkedBackBy t a old new → (u : Name) → mark_of new u ≡ cond (is_spawn_of u a) None (marked_if (is_end a) (same_name t u) true (mark_of old u))
changed_back t (Spawn s) old new h u = ap (λ ts. mark_of ts u) h ∙ removed_each old s.child u
changed_back t End old new h u = ap (λ ts. mark_of ts u) h ∙ marked_each old t true u
changed_back t Fault old new h u = ap (λ ts. mark_of ts u) h ∙ marked_each old t true u
changed_back t _ old new h u = ap (λ ts. mark_of ts u) h

-- ---- what a history marks

-- who ends was under way
ends_running : (cells : Cells) (t : Name) (acts : List Action) (a : Action) → Continues cells t acts a → is_end a ≡ true → IsRunning acts
ends_running cells t acts End c e = c
ends_running cells t acts Fault c e = c
ends_running cells t acts _ c e = absurd (false≢true e)

ended_spawned : (cells : Cells) (H : History) (u : Name) → Legal cells H → list_any (ends u) H ≡ true → IsSpawned H u
ended_spawned cells H u l h = acted_spawned cells H u l (λ e. not_started u H (ends u) (ends_own u) e h)

still : (v : Event) (H : History) (u : Name) → spawns u v ≡ false → is_spawned (v ∷ H) u ≡ is_spawned H u
still v H [] n = refl
still v H (m ∷ u) n = ap (λ b. b || list_any (spawns (m ∷ u)) H) n

module _ (cells : Cells) (H : History) (v : Event) (l : Legal cells (v ∷ H)) (u : Name) where
  -- the child that the event generates wasn't there
  new_absent : spawns u v ≡ true → is_spawned H u ≡ false
  new_absent n = false_from_ne_true (is_spawned H u) (λ s. both_ways (spawns u v) (not_again cells H l.0 v l.1 u s) n)

  new_unended : spawns u v ≡ true → list_any (ends u) (v ∷ H) ≡ false
  new_unended n =
      let absent = new_absent n in
      false_from_ne_true (list_any (ends u) (v ∷ H)) (λ h.
      ⊎_elim (λ e. both_ways (is_spawned H u) absent (subst (IsSpawned H) (same_true v.task u (ends_own u v e)) (may_spawned cells H v l.0 l.1))) (λ e. both_ways (is_spawned H u) absent (ended_spawned cells H u l.0 e))
      (or_cases (ends u v) (list_any (ends u) H) h))

  new_mark : spawns u v ≡ true → mark_behind (v ∷ H) u ≡ Some true
  new_mark n =
      ap₂ (λ s e. cond s (Some (not e)) None) (spawned_by u (v ∷ H) (or_left (spawns u v) (list_any (spawns u) H) n)) (new_unended n)

  -- every other task
  old_mark : spawns u v ≡ false → mark_behind (v ∷ H) u ≡ marked_if (is_end v.action) (is_of u v) false (mark_behind H u)
  old_mark n =
      ap (λ s. cond s (Some (not (list_any (ends u) (v ∷ H)))) None) (still v H u n) ∙ at (is_spawned H u) (is_end v.action) (is_of u v)
    where
      at : (s e mine : Bool) → cond s (Some (not ((mine && e) || list_any (ends u) H))) None ≡ marked_if e mine false (cond s (Some (not (list_any (ends u) H))) None)
      at true true true = refl
      at true true false = refl
      at true false true = refl
      at true false false = refl
      at false true true = refl
      at false true false = refl
      at false false mine = refl

  -- it was unended in front of its end
  back_mark : marked_if (is_end v.action) (is_of u v) true (marked_if (is_end v.action) (is_of u v) false (mark_behind H u)) ≡ mark_behind H u
  back_mark = at (is_end v.action) (is_of u v) refl refl
    where
      unended : is_end v.action ≡ true → is_of u v ≡ true → list_any (ends u) H ≡ false
      unended e o =
          let r = ends_running cells v.task (own v.task H) v.action l.1.own e in
          false_from_ne_true (list_any (ends u) H) (λ h. not_running cells H v.task l.0 (subst (λ w. list_any (ends w) H ≡ true) (sym (same_true v.task u o)) h) r)

      both : (s : Bool) → option_map (λ _. true) (option_map (λ _. false) (cond s (Some (not (list_any (ends u) H))) None)) ≡ cond s (Some true) None
      both true = refl
      both false = refl

      at : (e mine : Bool) → is_end v.action ≡ e → is_of u v ≡ mine → marked_if e mine true (marked_if e mine false (mark_behind H u)) ≡ mark_behind H u
      at true true e o = both (is_spawned H u) ∙ sym (ap (λ x. cond (is_spawned H u) (Some (not x)) None) (unended e o))
      at true false e o = refl
      at false mine e o = refl

-- ---- the marks of a history

pub at_first : AreMarks [] (([], true) ∷ [])
at_first [] = refl
at_first (n ∷ t) = refl

pub stepped : (cells : Cells) (H : History) (v : Event) (old new : Table) → Legal cells (v ∷ H) → AreMarks H old → MarkedBy v.task v.action old new → AreMarks (v ∷ H) new
stepped cells H v old new l st h u = changed v.task v.action old new absent h u ∙ at (spawns u v) refl
  where
    absent : (w : Name) → spawns w v ≡ true → mark_of old w ≡ None
    absent w n = st w ∙ ap (λ s. cond s (Some (not (list_any (ends w) H))) None) (new_absent cells H v l w n)

    at : (b : Bool) → spawns u v ≡ b → cond b (Some true) (marked_if (is_end v.action) (is_of u v) false (mark_of old u)) ≡ mark_behind (v ∷ H) u
    at true n = sym (new_mark cells H v l u n)
    at false n = ap (marked_if (is_end v.action) (is_of u v) false) (st u) ∙ sym (old_mark cells H v l u n)

pub taken_back : (cells : Cells) (H : History) (v : Event) (old new : Table) → Legal cells (v ∷ H) → AreMarks (v ∷ H) old → MarkedBackBy v.task v.action old new → AreMarks H new
taken_back cells H v old new l st h u = changed_back v.task v.action old new h u ∙ at (spawns u v) refl
  where
    at : (b : Bool) → spawns u v ≡ b → cond b None (marked_if (is_end v.action) (is_of u v) true (mark_of old u)) ≡ mark_behind H u
    at true n = sym (ap (λ s. cond s (Some (not (list_any (ends u) H))) None) (new_absent cells H v l u n))
    at false n = ap (marked_if (is_end v.action) (is_of u v) true) (st u ∙ old_mark cells H v l u n) ∙ back_mark cells H v l u

pub kept_alike : (G H : History) (tasks : Table) → Alike G H → AreMarks G tasks → AreMarks H tasks
kept_alike G H tasks a st t = st t ∙ ap₂ (λ s e. cond s (Some (not e)) None) (spawned_alike t a) (a.any (ends t))

-- ---- who is marked

pub marked_unended : (H : History) (tasks : Table) (t : Name) → AreMarks H tasks → unwrap_or (mark_of tasks t) false ≡ is_unended H t
marked_unended H tasks t st = ap (λ o. unwrap_or o false) (st t) ∙ at (is_spawned H t)
  where
    at : (s : Bool) → unwrap_or (cond s (Some (not (list_any (ends t) H))) None) false ≡ (s && not (list_any (ends t) H))
    at true = refl
    at false = refl

pub candidates : (H : History) (tasks : Table) (skip : List Name) (name : Name) → AreMarks H tasks → is_candidate tasks skip name ≡ (is_unended H name && not (list_any (λ s. same_name s name) skip))
candidates H tasks skip name st = ap (λ b. b && not (list_any (λ s. same_name s name) skip)) (marked_unended H tasks name st)

-- a task that comes to be isn't there yet
pub absent_before : (cells : Cells) (H : History) (v : Event) (s : TheSpawn) (tasks : Table) → Legal cells (v ∷ H) → v.action ≡ Spawn s → AreMarks H tasks → mark_of tasks s.child ≡ None
absent_before cells H v s tasks l q st =
    let n : spawns s.child v ≡ true = ap (is_spawn_of s.child) q ∙ same_refl s.child in
    st s.child ∙ ap (λ b. cond b (Some (not (list_any (ends s.child) H))) None) (new_absent cells H v l s.child n)
