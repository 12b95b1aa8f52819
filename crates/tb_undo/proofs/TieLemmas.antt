-- The joined tables lead from the state of a history to that of the history with one event more, and back.
use Rattle.std.proofs.Common.{◌≡◌, ◌≢◌, ◌<◌, ◌≤◌, inl, inr, ℕ, suc, List, [], ◌∷◌, ◌++◌, Bool, true, false, cond, length, reverse, refl, sym, ap, ap₂, ◌∙◌, subst, arith, Option, Some, None, IsTrue, drop, unwrap_or}
use Rattle.std.proofs.lemmas.List.{length-map}
use Rattle.std.proofs.lemmas.Bool.{and_parts, and_from}
use Rattle.tb_model.specs.declared.action.Action.{Action}
use Rattle.tb_model.specs.declared.action.Action.TheVariants.{Start, Let, Load, Store, Print, Spawn, Wait, Open, Close, Test, End, Fault}
use Rattle.tb_model.specs.declared.event.Event.{Event}
use Rattle.tb_model.specs.Names.{Name, same_name, is_child}
use Rattle.tb_model.specs.Facts.{History, own, is_of, IsSpawned, items_of, prepend_if, ends, is_end}
use Rattle.tb_model.specs.Legal.{Cells, Legal, Continues, spawn_count, first_number}
use Rattle.tb_model.specs.State.{spawn_of, called_by}
use Rattle.tb_model.specs.Lines.{Departure, events_of, line_of}
use Rattle.tb_model.specs.Records.{args_in}
use Rattle.tb_model.specs.Alike.{Alike}
use Rattle.tb_model.proofs.TestLemmas.{same_true, same_refl}
use Rattle.tb_model.proofs.FactsLemmas.{acted_spawned, begun, running_acts, timely_start, grown}
use Rattle.tb_model.proofs.StateLemmas.{children_numbered}
use Rattle.tb_model.specs.Needs.{step_of}
use Rattle.tb_model.specs.Reordering.{IsUnneeded}
use Rattle.tb_model.proofs.AlikeLemmas.{spawned_alike}
use Rattle.tb_model.proofs.LinesLemmas.{line_again}
use Rattle.tb_model.proofs.ReorderingLemmas as order
use Rattle.tb_store.specs.declared.replaced.Replaced.{Replaced}
use Rattle.tb_excl.specs.Holders.{HasRoomFor}
use Rattle.tb_excl.proofs.HistoriesLemmas as sets
use Rattle.tb_ready.specs.Histories.{AreMarks}
use Rattle.tb_ready.proofs.HistoryLemmas as marks
use Rattle.tb_wait.specs.Histories.{AreKin}
use Rattle.tb_wait.proofs.HistoryLemmas as waits
use Rattle.tb_undo.specs.Tasks.{Task, task, IsRegister}
use Rattle.tb_undo.specs.Sets.{items_in, IsLinked, HasSetRoom}
use Rattle.tb_undo.specs.State.{Seen, AreLast, known_task, task_of, IsTaskState, IsState}
use Rattle.tb_undo.specs.Changes.{Changed, ChangedTasks, ChangedBack, CanChange, CanChangeTasks, CanChangeBack, IsCell, IsNextSpawn, IsLastSpawn, HasEndRoom, output_by, output_back, task_by, task_back}
use Rattle.tb_undo.specs.Steps.{replaced_for, Follows, FollowsTasks, Precedes}
use Rattle.tb_undo.proofs.StoreLemmas.{cells_more, output_more, cells_less, output_less}
use Rattle.tb_undo.proofs.TaskLemmas.{task_more, task_less}
use Rattle.tb_undo.proofs.HolderLemmas.{items_kept, holders_more, holders_less}

-- ---- one event more

task_by_same : (v : Event) (to : ℕ) (f g : Name → Option Task) → ((u : Name) → f u ≡ g u) → (u : Name) → task_by v to f u ≡ task_by v to g u
task_by_same v to f g e u = ap (λ (h : Name → Option Task). task_by v to h u) (λ i x. e x i)

task_back_same : (v : Event) (r : Replaced) (f g : Name → Option Task) → ((u : Name) → f u ≡ g u) → (u : Name) → task_back v r f u ≡ task_back v r g u
task_back_same v r f g e u = ap (λ (h : Name → Option Task). task_back v r h u) (λ i x. e x i)

pub applied_tasks : (first : Cells) (root_line : ℕ) (D : List Departure) (d : Departure) (old new : Seen) → Legal first (d.event ∷ events_of D) → IsTaskState root_line D old
    → ChangedTasks d.event d.to old new → IsTaskState root_line (d ∷ D) new
applied_tasks first root_line D d old new legal s k =
    let H = events_of D in
    let v = d.event in
    record {
      waiting = waits.stepped first H v old.waits.tasks new.waits.tasks legal s.waiting k.waits;
      marked = marks.stepped first H v old.marks.tasks new.marks.tasks legal s.marked k.marks;
      tasks = λ u. k.tasks u ∙ task_by_same v d.to (task old.rows) (task_of root_line D) s.tasks u ∙ sym (task_more first root_line D d legal u);
      holders = holders_more first root_line D v.task old.rows new.rows v.action legal s.tasks s.holders k.holders;
    }

pub applied : (first : Cells) (root_line : ℕ) (D : List Departure) (d : Departure) (old new : Seen) → Legal first (d.event ∷ events_of D) → IsState first root_line D old → Changed d.event d.to old new → IsState first root_line (d ∷ D) new
applied first root_line D d old new legal s k =
    let H = events_of D in
    let v = d.event in
    record {
      cells = subst (AreLast first (v ∷ H)) (sym k.cells) (cells_more first H v.task v.action old.store.cells s.cells);
      output = k.output ∙ ap (output_by v.action) s.output ∙ output_more H v.task v.action;
      of_tasks = applied_tasks first root_line D d old new legal s.of_tasks k.of_tasks;
    }

-- ---- and one less, where it is the newest

pub reverted_newest : (first : Cells) (root_line : ℕ) (D : List Departure) (d : Departure) (r : Replaced) (old new : Seen) → Legal first (d.event ∷ events_of D) → r ≡ replaced_for first root_line D d.event
    → IsState first root_line (d ∷ D) old → ChangedBack d.event r old new → IsState first root_line D new
reverted_newest first root_line D d r old new legal e s k =
    let H = events_of D in
    let v = d.event in
    let number = ap (λ (x : Replaced). x.number) e in
    let line = ap (λ (x : Replaced). x.at) e in
    let t = s.of_tasks in
    record {
      cells = subst (AreLast first H) (sym k.cells) (cells_less first H v.task v.action r.number old.store.cells s.cells number);
      output = k.output ∙ ap (output_back v.action) s.output ∙ output_less H v.task v.action;
      of_tasks = record {
        waiting = waits.taken_back first H v old.waits.tasks new.waits.tasks legal t.waiting k.waits;
        marked = marks.taken_back first H v old.marks.tasks new.marks.tasks legal t.marked k.marks;
        tasks = λ u. k.tasks u ∙ task_back_same v r (task old.rows) (task_of root_line (d ∷ D)) t.tasks u ∙ task_less first root_line D d legal r number line u;
        holders = holders_less first root_line D v.task old.rows new.rows d.to v.action legal t.tasks t.holders k.holders;
      };
    }

-- ---- histories that say the same, with the same lines

pub kept_alike : (first : Cells) (root_line : ℕ) (C D : List Departure) (s : Seen) → Alike (events_of C) (events_of D) → ((body : ℕ) (t : Name) → line_of body t C ≡ line_of body t D)
    → IsState first root_line C s → IsState first root_line D s
kept_alike first root_line C D s a lines k = record {
  cells = record { count = k.cells.count; number = λ c h. k.cells.number c h ∙ a.number (first_number first c) c };
  output = k.output ∙ ap reverse a.prints;
  of_tasks = record {
    waiting = waits.kept_alike (events_of C) (events_of D) s.waits.tasks a k.of_tasks.waiting;
    marked = marks.kept_alike (events_of C) (events_of D) s.marks.tasks a k.of_tasks.marked;
    tasks = λ t. k.of_tasks.tasks t ∙ same t;
    holders = λ p h e. sets.alike (events_of C) (events_of D) p h a (k.of_tasks.holders p h e);
  };
}
  where
    made : Name → Option Action → ℕ → List Action → Task
    made t spawn line acts = record {
      parent = drop 1 t;
      body = (called_by root_line spawn).line;
      at = line;
      steps = length acts;
      regs = Rattle.tb_undo.specs.State.registers (args_in spawn) acts;
      undeferred = Rattle.tb_undo.specs.State.undeferred_at acts;
      children = Rattle.tb_depend.specs.Relations.spawned_items acts;
    }

    same : (t : Name) → task_of root_line C t ≡ task_of root_line D t
    same t =
        ap₂ (λ b (k : Task). cond b (Some k) None) (spawned_alike t a)
        (ap₂ (λ o n. made t o n (own t (events_of C))) (a.spawn t) (lines (called_by root_line (spawn_of t (events_of C))).line t ∙ ap (λ o. line_of (called_by root_line o).line t D) (a.spawn t))
        ∙ ap (made t (spawn_of t (events_of D)) (line_of (called_by root_line (spawn_of t (events_of D))).line t D)) (a.acts t))

-- ---- what the tables ask for

-- a task that acts was generated
pub acting : (first : Cells) (H : History) (v : Event) → Legal first (v ∷ H) → IsSpawned H v.task
acting first H v l =
    elim (begun first v.task (own v.task H) v.action l.1.own) [
      | inl s ↦ timely_start first H v.task v.action s l.1.timely
      | inr r ↦ acted_spawned first H v.task l.0 (running_acts (own v.task H) r)
    ]

own_within : (t : Name) (H : History) → length (own t H) ≤ length H
own_within t [] = omega arith
own_within t (v ∷ H) = at (is_of t v) (own_within t H)
  where
    at : (b : Bool) → length (own t H) ≤ length H → length (prepend_if b v.action (own t H)) ≤ suc (length H)
    at true h = omega arith
    at false h = omega arith

linked : (first : Cells) (root_line : ℕ) (D : List Departure) (s : Seen) → Legal first (events_of D) → IsTaskState root_line D s → (t : Name) → IsSpawned (events_of D) t → IsLinked s.rows t
linked first root_line D s l k [] h = tt
linked first root_line D s l k (n ∷ p) h =
    let bound = (children_numbered first (events_of D) p n l).0 h in
    let acted : own p (events_of D) ≢ [] = λ e. omega (arith, bound.0, bound.1, ap spawn_count e) in
    let parent = acted_spawned first (events_of D) p l acted in (
      bound.0,
      known_task root_line D (n ∷ p),
      known_task root_line D p,
      k.tasks (n ∷ p) ∙ ap (λ b. cond b (Some (known_task root_line D (n ∷ p))) None) h,
      refl,
      k.tasks p ∙ ap (λ b. cond b (Some (known_task root_line D p)) None) parent,
    )

register : (first : Cells) (t : Name) (acts : List Action) (a : Action) → Continues first t acts a → IsRegister a
register first t acts (Let r x) k = k.1
register first t acts (Load r c x) k = k.1
register first t acts Start k = tt
register first t acts (Store c x) k = tt
register first t acts (Print x) k = tt
register first t acts (Spawn s) k = tt
register first t acts (Wait items) k = tt
register first t acts Open k = tt
register first t acts Close k = tt
register first t acts (Test b) k = tt
register first t acts End k = tt
register first t acts Fault k = tt

cell : (first : Cells) (t : Name) (acts : List Action) (a : Action) (count : ℕ) → count ≡ length first → Continues first t acts a → IsCell count a
cell first t acts (Store c x) count e k = subst (λ n. c < n) (sym e) k.1
cell first t acts Start count e k = tt
cell first t acts (Let r x) count e k = tt
cell first t acts (Load r c x) count e k = tt
cell first t acts (Print x) count e k = tt
cell first t acts (Spawn s) count e k = tt
cell first t acts (Wait items) count e k = tt
cell first t acts Open count e k = tt
cell first t acts Close count e k = tt
cell first t acts (Test b) count e k = tt
cell first t acts End count e k = tt
cell first t acts Fault count e k = tt

next_spawn : (first : Cells) (H : History) (s : Seen) (t : Name) (a : Action) → Legal first (record { task = t; action = a } ∷ H) → AreKin H s.waits.tasks → AreMarks H s.marks.tasks → IsNextSpawn s t a
next_spawn first H s t (Spawn spawn) l k m = (
  waits.spawn_next first H (record { task = t; action = Spawn spawn }) s.waits.tasks l spawn refl k,
  sym (ap (drop 1) l.1.own.1),
  l.1.own.2,
  marks.absent_before first H (record { task = t; action = Spawn spawn }) spawn s.marks.tasks l refl m,
)
next_spawn first H s t Start l k m = tt
next_spawn first H s t (Let r x) l k m = tt
next_spawn first H s t (Load r c x) l k m = tt
next_spawn first H s t (Store c x) l k m = tt
next_spawn first H s t (Print x) l k m = tt
next_spawn first H s t (Wait items) l k m = tt
next_spawn first H s t Open l k m = tt
next_spawn first H s t Close l k m = tt
next_spawn first H s t (Test b) l k m = tt
next_spawn first H s t End l k m = tt
next_spawn first H s t Fault l k m = tt

last_spawn : (first : Cells) (H : History) (s : Seen) (t : Name) (a : Action) → Legal first (record { task = t; action = a } ∷ H) → AreKin (record { task = t; action = a } ∷ H) s.waits.tasks → IsLastSpawn s t a
last_spawn first H s t (Spawn spawn) l k = waits.spawn_last first H (record { task = t; action = Spawn spawn }) s.waits.tasks l spawn refl k
last_spawn first H s t Start l k = tt
last_spawn first H s t (Let r x) l k = tt
last_spawn first H s t (Load r c x) l k = tt
last_spawn first H s t (Store c x) l k = tt
last_spawn first H s t (Print x) l k = tt
last_spawn first H s t (Wait items) l k = tt
last_spawn first H s t Open l k = tt
last_spawn first H s t Close l k = tt
last_spawn first H s t (Test b) l k = tt
last_spawn first H s t End l k = tt
last_spawn first H s t Fault l k = tt

-- what an end freed has its capacity
end_room : (first : Cells) (root_line : ℕ) (D : List Departure) (d : Departure) (s : Seen) → Legal first (d.event ∷ events_of D) → IsTaskState root_line (d ∷ D) s → IsTrue (ends d.event.task d.event) → HasSetRoom s.rows d.event.task
end_room first root_line D d s l k e p h c g = at d.event.task refl c
  where
    at : (t : Name) → d.event.task ≡ t → is_child p t ≡ true → HasRoomFor h (items_in s.rows t)
    at [] q c = absurd (cc)
    at (n ∷ q) w c =
        let same : q ≡ p = same_true q p c in
        let name : d.event.task ≡ n ∷ p = w ∙ ap (λ (x : Name). n ∷ x) same in
        let ended : IsTrue (ends (n ∷ p) d.event) = ap (λ x. ends x d.event) (sym name) ∙ e in
        let kept : items_in s.rows (n ∷ p) ≡ items_of (n ∷ p) (d.event ∷ events_of D) = items_kept first root_line (d ∷ D) s.rows l k.tasks n p in
        subst (λ (x : Name). HasRoomFor h (items_in s.rows (n ∷ x))) (sym same)
        (subst (HasRoomFor h) (sym (kept ∙ ap (λ is. is ++ items_of (n ∷ p) (events_of D)) (sets.end_items (n ∷ p) d.event.action (and_parts (is_of (n ∷ p) d.event) (is_end d.event.action) ended).1))) (sets.end_room first (events_of D) d.event p n h l ended (k.holders p h g)))

end_room_for : (first : Cells) (root_line : ℕ) (D : List Departure) (to : ℕ) (t : Name) (a : Action) (s : Seen) → Legal first (record { task = t; action = a } ∷ events_of D)
    → IsTaskState root_line (record { event = record { task = t; action = a }; to = to } ∷ D) s → HasEndRoom s t a
end_room_for first root_line D to t End s l k = end_room first root_line D (record { event = record { task = t; action = End }; to = to }) s l k (and_from (same_name t t) true (same_refl t) refl)
end_room_for first root_line D to t Fault s l k = end_room first root_line D (record { event = record { task = t; action = Fault }; to = to }) s l k (and_from (same_name t t) true (same_refl t) refl)
end_room_for first root_line D to t Start s l k = tt
end_room_for first root_line D to t (Let r x) s l k = tt
end_room_for first root_line D to t (Load r c x) s l k = tt
end_room_for first root_line D to t (Store c x) s l k = tt
end_room_for first root_line D to t (Print x) s l k = tt
end_room_for first root_line D to t (Spawn spawn) s l k = tt
end_room_for first root_line D to t (Wait items) s l k = tt
end_room_for first root_line D to t Open s l k = tt
end_room_for first root_line D to t Close s l k = tt
end_room_for first root_line D to t (Test b) s l k = tt

-- what the tables ask for where the event may follow
pub can_change_tasks : (first : Cells) (root_line : ℕ) (D : List Departure) (v : Event) (s : Seen) → FollowsTasks first root_line D v s → CanChangeTasks s v
can_change_tasks first root_line D v s f =
    let H = events_of D in
    let k = f.state in
    record {
      register = register first v.task (own v.task H) v.action f.legal.1.own;
      few = λ x e. few x e;
      linked = linked first root_line D s f.legal.0 k v.task (acting first H v f.legal);
      spawn = next_spawn first H s v.task v.action f.legal k.waiting k.marked;
    }
  where
    few : (x : Task) → task s.rows v.task ≡ Some x → x.steps < 4294967295
    few x e =
        let known = ap (λ b. cond b (Some (known_task root_line D v.task)) None) (sym (acting first (events_of D) v f.legal)) in
        let same : known_task root_line D v.task ≡ x = ap (λ o. unwrap_or o x) (known ∙ sym (f.state.tasks v.task) ∙ e) in
        omega (arith, ap (λ (y : Task). y.steps) same, own_within v.task (events_of D), length-map D (λ (d : Departure). d.event), f.few)

pub can_change : (first : Cells) (root_line : ℕ) (D : List Departure) (v : Event) (s : Seen) → Follows first root_line D v s → CanChange s v
can_change first root_line D v s f = record {
  cell = cell first v.task (own v.task (events_of D)) v.action (length s.store.cells) f.state.cells.count f.legal.1.own;
  of_tasks = can_change_tasks first root_line D v s (record { legal = f.legal; state = f.state.of_tasks; few = f.few });
}

-- what the tables ask for where the newest event is taken back
pub can_change_back : (first : Cells) (root_line : ℕ) (D : List Departure) (d : Departure) (s : Seen) → Legal first (d.event ∷ events_of D) → IsState first root_line (d ∷ D) s → CanChangeBack s d.event
can_change_back first root_line D d s l k =
    let H = events_of D in
    let v = d.event in
    record {
      register = register first v.task (own v.task H) v.action l.1.own;
      cell = cell first v.task (own v.task H) v.action (length s.store.cells) k.cells.count l.1.own;
      linked = linked first root_line (d ∷ D) s l k.of_tasks v.task (grown v.task v H (acting first H v l));
      spawn = last_spawn first H s v.task v.action l k.of_tasks.waiting;
      room = end_room_for first root_line D d.to v.task v.action s l k.of_tasks;
    }

-- ---- anywhere in the history

pub map_events : (C D : List Departure) → events_of (C ++ D) ≡ events_of C ++ events_of D
map_events [] D = refl
map_events (d ∷ C) D = ap (λ H. d.event ∷ H) (map_events C D)

-- the step at its index and at the end are the same
pub record AtEnd (first : Cells) (root_line : ℕ) (later front : List Departure) (d : Departure) (s : Seen) : Type 0 where
  pub legal : Legal first (d.event ∷ events_of (later ++ front))
  pub state : IsState first root_line (d ∷ (later ++ front)) s

pub at_end : (first : Cells) (root_line : ℕ) (later front : List Departure) (d : Departure) (r : Replaced) (s : Seen) → Precedes first root_line later front d r s → AtEnd first root_line later front d s
at_end first root_line later front d r s p =
    let B = events_of later in
    let F = events_of front in
    let v = d.event in
    let there = map_events later (d ∷ front) in
    let gone = map_events later front in
    let unneeded : IsUnneeded (step_of F v) (B ++ v ∷ F) = subst (IsUnneeded (step_of F v)) there p.unneeded in
    let again = order.again B F v unneeded first (subst (Legal first) there p.legal) in
    record {
      legal = subst (λ H. Legal first (v ∷ H)) (sym gone) again.legal;
      state =
          kept_alike first root_line (later ++ d ∷ front) (d ∷ (later ++ front)) s
          (subst (λ H. Alike (events_of (later ++ d ∷ front)) (v ∷ H)) (sym gone) (subst (λ H. Alike H (v ∷ (B ++ F))) (sym there) again.alike))
          (λ body t. line_again body t later front d unneeded)
          p.state;
    }
