-- The state at the beginning, and where only capacity has changed.
use Rattle.std.proofs.Common.{◌≡◌, ◌<◌, ◌↔◌, ℕ, List, [], ◌∷◌, ◌++◌, IsTrue, Bool, true, cond, length, refl, sym, ap, ◌∙◌, subst, ℤ, Option, Some, None, unwrap_or}
use Rattle.std.proofs.lemmas.Option.{unwrap_or-slice_get}
use Rattle.tb_model.specs.Names.{Name, same_name}
use Rattle.tb_model.specs.declared.event.Event.{Event}
use Rattle.tb_model.specs.declared.action.Action.{Action}
use Rattle.tb_model.specs.declared.action.Action.TheVariants.{Start, Let, Load, Store, Print, Spawn, Wait, Open, Close, Test, End, Fault}
use Rattle.tb_model.proofs.TestLemmas.{same_true, same_refl}
use Rattle.tb_model.specs.Facts.{History}
use Rattle.tb_model.specs.Legal.{Cells}
use Rattle.tb_model.specs.Lines.{Departure, events_of}
use Rattle.tb_store.specs.Contents.{number_at}
use Rattle.tb_store.specs.declared.replaced.Replaced.{Replaced}
use Rattle.tb_excl.specs.Holders.{Holders, KeepsRoom, IsSame}
use Rattle.tb_excl.specs.Histories.{AreHolders, is_held}
use Rattle.tb_excl.proofs.HistoriesLemmas as sets
use Rattle.tb_ready.proofs.HistoryLemmas as marks
use Rattle.tb_model.specs.declared.item.Item.{Item}
use Rattle.tb_ready.specs.Tasks.{Tasks as Marks}
use Rattle.tb_wait.specs.Kin.{Table as WaitTable, kin, fresh, HasRoomFor as HasRoomForChild}
use Rattle.tb_wait.proofs.HistoryLemmas as waits
use Rattle.tb_undo.specs.Tasks.{Task, Rows, task, holders_of, fresh_task, register_by, HasChildRoomIn}
use Rattle.tb_undo.specs.Sets.{Become, Comes}
use Rattle.tb_undo.specs.Places.{HasPlaceOrRoom}
use Rattle.tb_undo.specs.State.{Seen, AreLast, known_task, task_of, IsTaskState, IsState}
use Rattle.tb_undo.specs.Changes.{HasFamilyRoom, HasSpawnRoom, AreSame, replaced_in, Changed, ChangedBack, CanChange, CanChangeTasks, CanChangeBack, ChangedTasks, HasTaskRoomFor, HasTaskRoomOf, HasRoomFor, HasRoomOf}
use Rattle.tb_undo.specs.Steps.{Follows, FollowsTasks, IsAhead, IsAheadOfTasks, IsBehind, IsBehindTasks, IsRecord, Stands, IsWithout}
use Rattle.tb_undo.proofs.SetsLemmas.{reserves_none}
use Rattle.tb_undo.proofs.StoreLemmas.{number_right}
use Rattle.tb_undo.proofs.TieLemmas.{acting, applied, applied_tasks, can_change, can_change_tasks, can_change_back, at_end, reverted_newest}
use Rattle.tb_undo.proofs.RecordLemmas.{record_kept}

first_holders : (h : Holders) (new : Rows) (line : ℕ) → Comes [] [] (fresh_task [] line []) new → (p : Name) → holders_of new p ≡ Some h → AreHolders [] p h
first_holders h new line comes [] e = sets.first [] [] h (comes.founds.parent h e) (λ place. comes.founds.free h place e) (λ n. refl)
first_holders h new line comes (n ∷ p) e = absurd (none h (sym (comes.founds.others (n ∷ p) refl) ∙ e))
  where
    none : {A : Type 0} (x : A) → ◌≡◌ {A = Option A} None (Some x) → ⊥
    none x z = cc

pub first_state : (first : Cells) (root_line : ℕ) (s : Seen) → s.store.cells ≡ first → s.store.output ≡ [] → ((t : Name) → kin s.waits.tasks t ≡ cond (same_name [] t) (Some fresh) None)
    → s.marks.tasks ≡ ([], true) ∷ [] → Comes [] [] (fresh_task [] root_line []) s.rows → IsState first root_line [] s
first_state first root_line s cells output kins tasks comes = record {
  cells = record { count = ap length cells; number = λ c h. ap (λ xs. number_at xs c) cells ∙ sym (unwrap_or-slice_get first c (ℤ.pos 0)) };
  output = output;
  of_tasks = record {
    waiting = waits.at_first s.waits.tasks kins;
    marked = subst (λ ts. Rattle.tb_ready.specs.Histories.AreMarks [] ts) (sym tasks) marks.at_first;
    tasks = λ t. comes.tasks t ∙ at t;
    holders = λ p h e. first_holders h s.rows root_line comes p e;
  };
}
  where
    at : (t : Name) → cond (same_name [] t) (Some (fresh_task [] root_line [])) (task [] t) ≡ task_of root_line [] t
    at [] = refl
    at (n ∷ t) = refl

-- ---- where only capacity has changed

pub same_tables : (s : Seen) → AreSame s s
same_tables s = record { cells = refl; output = refl; waits = λ u. refl; marks = refl; rows = reserves_none s.rows }

same_holders : (H : History) (p : Name) (g h : Holders) → IsSame g h → KeepsRoom g h → AreHolders H p g → AreHolders H p h
same_holders H p g h same keeps a = record {
  parent = keeps.parent ∙ a.parent;
  held = λ place n. subst (λ o. (o ≡ Some n) ↔ IsTrue (is_held H p place n)) (sym (same place)) (a.held place n);
  room = λ n s place t. keeps.room place (a.room n s place t);
}

became : (o : Option Holders) (P : Holders → Type 0) (Q : Type 0) → ((g : Holders) → o ≡ Some g → P g → Q) → Become o P → Q
became None P Q f b = absurd b
became (Some g) P Q f b = f g refl b

pub tasks_same : (root_line : ℕ) (D : List Departure) (old new : Seen) → AreSame old new → IsTaskState root_line D old → IsTaskState root_line D new
tasks_same root_line D old new a s = record {
  waiting = λ t. a.waits t ∙ s.waiting t;
  marked = subst (Rattle.tb_ready.specs.Histories.AreMarks (events_of D)) (sym a.marks) s.marked;
  tasks = λ t. a.rows.tasks t ∙ s.tasks t;
  holders = λ p h e. became (holders_of old.rows p) _ (AreHolders (events_of D) p h) (λ g o k. same_holders (events_of D) p g h k.0 k.1 (s.holders p g o)) (a.rows.holders p h e);
}

pub state_same : (first : Cells) (root_line : ℕ) (D : List Departure) (old new : Seen) → AreSame old new → IsState first root_line D old → IsState first root_line D new
state_same first root_line D old new a s = record {
  cells = subst (AreLast first (events_of D)) (sym a.cells) s.cells;
  output = a.output ∙ s.output;
  of_tasks = tasks_same root_line D old new a s.of_tasks;
}

pub follows_same : (first : Cells) (root_line : ℕ) (D : List Departure) (v : Event) (old new : Seen) → AreSame old new → Follows first root_line D v old → Follows first root_line D v new
follows_same first root_line D v old new a f = record { legal = f.legal; state = state_same first root_line D old new a f.state; few = f.few }

pub follows_tasks_same : (first : Cells) (root_line : ℕ) (D : List Departure) (v : Event) (old new : Seen) → AreSame old new → FollowsTasks first root_line D v old → FollowsTasks first root_line D v new
follows_tasks_same first root_line D v old new a f = record { legal = f.legal; state = tasks_same root_line D old new a f.state; few = f.few }

-- ---- the calls

pub ahead_of_tasks : (s : Seen) (v : Event) → IsAheadOfTasks s v → CanChangeTasks s v
ahead_of_tasks s v h = can_change_tasks h.0 h.1 h.2 v s h.3

pub ahead_of_tasks_same : (old new : Seen) (v : Event) → AreSame old new → IsAheadOfTasks old v → CanChangeTasks new v
ahead_of_tasks_same old new v a h = can_change_tasks h.0 h.1 h.2 v new (follows_tasks_same h.0 h.1 h.2 v old new a h.3)

pub behind_tasks : (old mid new : Seen) (v : Event) (to : ℕ) → AreSame old mid → ChangedTasks v to mid new → IsBehindTasks old v to new
behind_tasks old mid new v to a k first root_line D f =
    applied_tasks first root_line D (record { event = v; to = to }) mid new f.legal (tasks_same root_line D old mid a f.state) k

pub ahead_can : (s : Seen) (v : Event) → IsAhead s v → CanChange s v
ahead_can s v h = can_change h.0 h.1 h.2 v s h.3

pub ahead_same : (old new : Seen) (v : Event) → AreSame old new → IsAhead old v → CanChange new v
ahead_same old new v a h = can_change h.0 h.1 h.2 v new (follows_same h.0 h.1 h.2 v old new a h.3)

pub behind : (old mid new : Seen) (v : Event) (to : ℕ) → AreSame old mid → Changed v to mid new → IsBehind old v to new
behind old mid new v to a k first root_line D f =
    applied first root_line D (record { event = v; to = to }) mid new f.legal (state_same first root_line D old mid a f.state) k

pub stands_can : (s : Seen) (v : Event) (r : Replaced) → Stands s v r → CanChangeBack s v
stands_can s v r h =
    let there = at_end h.0 h.1 h.2 h.3 (record { event = v; to = h.4 }) r s h.5 in
    can_change_back h.0 h.1 (h.2 ++ h.3) (record { event = v; to = h.4 }) s there.legal there.state

pub is_without : (old new : Seen) (v : Event) (r : Replaced) → ChangedBack v r old new → IsWithout old v r new
is_without old new v r k first root_line later front to p =
    let d : Departure = record { event = v; to = to } in
    let there = at_end first root_line later front d r old p in
    reverted_newest first root_line (later ++ front) d r old new there.legal (record_kept first root_line later front d r old p) there.state k

-- what the change says is what the event replaces
pub is_record : (old mid : Seen) (v : Event) (r : Replaced) → AreSame old mid → ((k : Task) → task mid.rows v.task ≡ Some k → r ≡ replaced_in v.action mid.store.cells k) → IsRecord old v r
is_record old mid v r a told first root_line D f =
    let H = events_of D in
    let s = state_same first root_line D old mid a f.state in
    let known = s.of_tasks.tasks v.task ∙ ap (λ b. cond b (Some (known_task root_line D v.task)) None) (acting first H v f.legal) in
    told (known_task root_line D v.task) known
    ∙ ap (λ x. made x) (number_right first H v.task v.action mid.store.cells f.legal.1.own s.cells)
  where
    made : Option ℤ → Replaced
    made x = record { number = x; reg = register_by v.action; at = (known_task root_line D v.task).at }

-- ---- capacity, and the copies of names

-- the capacity for an event is that among the tasks, but for a printed value
pub tasks_room : (s : Seen) (t : Name) (a : Action) → HasRoomOf s t a → HasTaskRoomOf s t a
tasks_room s t Start h = h
tasks_room s t (Spawn x) h = h
tasks_room s t Open h = h
tasks_room s t (Let r x) h = tt
tasks_room s t (Load r c x) h = tt
tasks_room s t (Store c x) h = tt
tasks_room s t (Print x) h = tt
tasks_room s t (Wait items) h = tt
tasks_room s t Close h = tt
tasks_room s t (Test b) h = tt
tasks_room s t End h = tt
tasks_room s t Fault h = tt

pub room_by_tasks : (s : Seen) (t : Name) (a : Action) → ((x : ℤ) → a ≡ Print x → ⊥) → HasTaskRoomOf s t a → HasRoomOf s t a
room_by_tasks s t Start not h = h
room_by_tasks s t (Spawn x) not h = h
room_by_tasks s t Open not h = h
room_by_tasks s t (Let r x) not h = tt
room_by_tasks s t (Load r c x) not h = tt
room_by_tasks s t (Store c x) not h = tt
room_by_tasks s t (Print x) not h = absurd (not x refl)
room_by_tasks s t (Wait items) not h = tt
room_by_tasks s t Close not h = tt
room_by_tasks s t (Test b) not h = tt
room_by_tasks s t End not h = tt
room_by_tasks s t Fault not h = tt

pub copied_test : (copied : Option Name) (key child : Name) (b : Bool) → Some key ≡ copied → b ≡ same_name key child → IsTrue b ↔ (copied ≡ Some child)
copied_test copied key child b e t = (
  λ h. sym e ∙ ap Some (same_true key child (sym t ∙ h)),
  λ h. t ∙ ap (same_name key) (sym (ap (λ o. unwrap_or o key) (e ∙ h))) ∙ same_refl key,
)

abbrev pub with_room : Seen → WaitTable → Marks → Seen
with_room s waits marks = record { store = s.store; waits = waits; marks = marks; rows = s.rows; row_room = s.row_room; copied = s.copied }

pub family_room : (grown : Seen) (waits : WaitTable) (marks : Marks) (p u : Name) (items : List Item) (deferred : Bool) (s : Seen)
    → s ≡ with_room grown waits marks → HasPlaceOrRoom waits.tasks u grown.row_room → HasChildRoomIn grown.rows p items deferred
    → HasRoomForChild waits p u → 0 < marks.room → HasFamilyRoom s p u items deferred
family_room grown waits marks p u items deferred s e row child room mark =
    subst (λ (x : Seen). HasFamilyRoom x p u items deferred) (sym e) (record { waits = room; marks = mark; row = row; child = child })

-- the names of the child are copied last
module _ (old family s : Seen) (e : s ≡ record family { copied = s.copied }) where
  pub spawn_room : (p u : Name) (items : List Item) (deferred : Bool) → HasFamilyRoom family p u items deferred → s.copied ≡ Some u → HasSpawnRoom s p u items deferred
  spawn_room p u items deferred f c =
      subst (λ (x : Seen). HasSpawnRoom x p u items deferred) (sym e) (record { waits = f.waits; marks = f.marks; row = f.row; child = f.child; copied = c })

  pub same_copied : AreSame old family → AreSame old s
  same_copied k = subst (AreSame old) (sym e) (record { cells = k.cells; output = k.output; waits = k.waits; marks = k.marks; rows = k.rows })
