-- What a step changes, and what taking it back changes, put together from what the tables' calls change.
use Rattle.std.proofs.Common.{◌≡◌, ℕ, suc, List, ◌∷◌, Bool, true, false, cond, Option, Some, None, refl, sym, ap, ap₂, ◌∙◌, subst, ℤ, arith, length}
use Rattle.std.specs.Option.{option_map, option_or}
use Rattle.tb_model.specs.declared.action.Action.{Action}
use Rattle.tb_model.specs.declared.action.Action.TheVariants.{Start, Let, Load, Store, Print, Spawn, Wait, Open, Close, Test, End, Fault}
use Rattle.tb_model.specs.declared.event.Event.{Event}
use Rattle.tb_model.specs.declared.spawn.Spawn.{Spawn as TheSpawn}
use Rattle.tb_model.specs.Names.{Name, same_name}
use Rattle.tb_model.specs.Facts.{is_of}
use Rattle.tb_store.specs.Contents.{Contents}
use Rattle.tb_store.specs.declared.replaced.Replaced.{Replaced}
use Rattle.tb_model.proofs.TestLemmas.{same_true}
use Rattle.tb_ready.specs.Tasks.{with_name, with_mark}
use Rattle.tb_wait.specs.Kin.{Adds, kin}
use Rattle.tb_wait.specs.Histories.{ChangesBy, ChangesBackBy}
use Rattle.tb_ready.specs.Histories.{MarkedBy, MarkedBackBy}
use Rattle.tb_undo.specs.Tasks.{Task, Rows, task, holders_of, advanced, retreated, fresh_task}
use Rattle.tb_undo.specs.Sets.{number_of, Holds, Sets, Comes}
use Rattle.tb_undo.specs.State.{Seen}
use Rattle.tb_undo.specs.Changes.{IsRest, ChangedTasks, ChangedBack, Acted, ActedBack, CanChangeTasks, HasTaskRoomFor, HasSpawnRoom, IsNextSpawn, HoldersFor, HoldersBack, cells_by, output_by, cells_back, output_back, cell_over, number_over, replaced_in}
use Rattle.tb_undo.specs.Tasks.{register_over, register_by}

-- the event with another action
abbrev as_by : Name → Action → Event
as_by t a = record { task = t; action = a }

pub acted_start : (v : Event) (old new : Seen) → v.action ≡ Start → new.store ≡ old.store → new.waits ≡ old.waits → new.marks ≡ old.marks
    → Sets old.rows v.task (number_of v.task) new.rows → Acted v old new
acted_start v old new q store waits marks sets =
    subst (λ a. Acted (as_by v.task a) old new) (sym q) (record {
      store = store;
      waits = λ u. ap (λ w. kin w.tasks u) waits;
      marks = ap (λ m. m.tasks) marks;
      tasks = sets.tasks;
      holders = sets.holds;
      own = sets.tasks v.task;
      room = λ r h. tt;
    })

pub acted_back_start : (v : Event) (old new : Seen) → v.action ≡ Start → new.store ≡ old.store → new.waits ≡ old.waits → new.marks ≡ old.marks
    → Sets old.rows v.task None new.rows → ActedBack v old new
acted_back_start v old new q store waits marks sets =
    subst (λ a. ActedBack (as_by v.task a) old new) (sym q) (record {
      store = store;
      waits = λ u. ap (λ w. kin w.tasks u) waits;
      marks = ap (λ m. m.tasks) marks;
      tasks = sets.tasks;
      holders = sets.holds;
    })

-- no task is its own child
pub not_own_child : (n : ℕ) (p : Name) → same_name (n ∷ p) p ≡ false
not_own_child n p = at (same_name (n ∷ p) p) refl
  where
    at : (b : Bool) → same_name (n ∷ p) p ≡ b → b ≡ false
    at false e = refl
    at true e = let same = ap length (same_true (n ∷ p) p e) in absurd (omega (arith, same))

pub acted_spawn : (v : Event) (old new : Seen) (s : TheSpawn) → v.action ≡ Spawn s
    → CanChangeTasks old v → HasTaskRoomFor old v
    → new.store ≡ old.store → Adds old.waits.tasks v.task s.child new.waits.tasks → new.marks.tasks ≡ with_mark (with_name old.marks.tasks s.child) s.child true
    → Comes old.rows s.child (fresh_task v.task s.body s.args) new.rows
    → Acted v old new
acted_spawn v old new s q can room store waits marks comes =
    let next : IsNextSpawn old v.task (Spawn s) = subst (IsNextSpawn old v.task) q can.spawn in
    let has : HasSpawnRoom old v.task s.child s.items s.deferred = subst (λ a. HasTaskRoomFor old (as_by v.task a)) q room in
    let other : same_name s.child v.task ≡ false = ap (λ x. same_name x v.task) next.0.2 ∙ not_own_child (suc next.0.0.children) v.task in
    subst (λ a. Acted (as_by v.task a) old new) (sym q) (record {
      store = store;
      waits = waits;
      marks = marks;
      tasks = comes.tasks;
      holders = comes.founds;
      own = comes.tasks v.task ∙ ap (λ b. cond b (Some (fresh_task v.task s.body s.args)) (task old.rows v.task)) other;
      room = λ r h. has.child r (sym (comes.rest v.task other) ∙ h);
    })

-- the value that is written over is a cell's or a register's
pub one_number : (a : Action) (cells regs : List ℤ) → option_or (cell_over a cells) (register_over a regs) ≡ number_over a cells regs
one_number (Store c x) cells regs = refl
one_number Start cells regs = refl
one_number (Let r x) cells regs = refl
one_number (Load r c x) cells regs = refl
one_number (Print x) cells regs = refl
one_number (Spawn s) cells regs = refl
one_number (Wait items) cells regs = refl
one_number Open cells regs = refl
one_number Close cells regs = refl
one_number (Test b) cells regs = refl
one_number End cells regs = refl
one_number Fault cells regs = refl

-- ---- the whole change

module _ (old mid new : Rows) (same : (p : Name) → holders_of new p ≡ holders_of mid p) where
  holds_on : (t : Name) (to : Option ℕ) → Holds old t to mid → Holds old t to new
  holds_on t to g = record { others = λ p c. same p ∙ g.others p c; parent = λ p x c e. g.parent p x c (sym (same p) ∙ e) }

  -- who holds what, where the holders stay from one to the other
  holders_on : (t : Name) (a : Action) → HoldersFor t a old mid → HoldersFor t a old new
  holders_on t Start g = holds_on t (number_of t) g
  holders_on t End g = holds_on t None g
  holders_on t Fault g = holds_on t None g
  holders_on t (Spawn s) g =
      record { others = λ p c. same p ∙ g.others p c; parent = λ x e. g.parent x (sym (same s.child) ∙ e); free = λ x p e. g.free x p (sym (same s.child) ∙ e) }
  holders_on t (Let r x) g = λ p. same p ∙ g p
  holders_on t (Load r c x) g = λ p. same p ∙ g p
  holders_on t (Store c x) g = λ p. same p ∙ g p
  holders_on t (Print x) g = λ p. same p ∙ g p
  holders_on t (Wait items) g = λ p. same p ∙ g p
  holders_on t Open g = λ p. same p ∙ g p
  holders_on t Close g = λ p. same p ∙ g p
  holders_on t (Test b) g = λ p. same p ∙ g p

  holders_back_on : (t : Name) (a : Action) → HoldersBack t a old mid → HoldersBack t a old new
  holders_back_on t Start g = holds_on t None g
  holders_back_on t End g = holds_on t (number_of t) g
  holders_back_on t Fault g = holds_on t (number_of t) g
  holders_back_on t (Spawn s) g = λ p. same p ∙ g p
  holders_back_on t (Let r x) g = λ p. same p ∙ g p
  holders_back_on t (Load r c x) g = λ p. same p ∙ g p
  holders_back_on t (Store c x) g = λ p. same p ∙ g p
  holders_back_on t (Print x) g = λ p. same p ∙ g p
  holders_back_on t (Wait items) g = λ p. same p ∙ g p
  holders_back_on t Open g = λ p. same p ∙ g p
  holders_back_on t Close g = λ p. same p ∙ g p
  holders_back_on t (Test b) g = λ p. same p ∙ g p

-- the event acted, and its task advanced
pub changed_tasks : (v : Event) (to : ℕ) (old acted front : Seen) → Acted v old acted
    → front ≡ acted → (new : Seen) → IsRest front new → ((u : Name) → task new.rows u ≡ cond (is_of u v) (option_map (advanced v.action to) (task front.rows u)) (task front.rows u))
    → ((p : Name) → holders_of new.rows p ≡ holders_of front.rows p)
    → ChangedTasks v to old new
changed_tasks v to old acted front a is new rest tasks holders =
    let rows : front.rows ≡ acted.rows = ap (λ s. s.rows) is in
    record {
      waits = subst (λ w. ChangesBy v.task v.action old.waits.tasks w.tasks) (sym (rest.waits ∙ ap (λ s. s.waits) is)) a.waits;
      marks = subst (λ w. MarkedBy v.task v.action old.marks.tasks w.tasks) (sym (rest.marks ∙ ap (λ s. s.marks) is)) a.marks;
      tasks = λ u. tasks u ∙ ap (λ o. cond (is_of u v) (option_map (advanced v.action to) o) o) (ap (λ r. task r u) rows ∙ a.tasks u);
      holders = holders_on old.rows acted.rows new.rows (λ p. holders p ∙ ap (λ r. holders_of r p) rows) v.task v.action a.holders;
    }

-- where the cells and the output alone have changed since
pub tasks_kept : (v : Event) (to : ℕ) (old mid : Seen) (store : Contents) → ChangedTasks v to old mid → ChangedTasks v to old (record mid { store = store })
tasks_kept v to old mid store k = record { waits = k.waits; marks = k.marks; tasks = k.tasks; holders = k.holders }

pub changed_back : (v : Event) (replaced : Replaced) (old acted stored front : Seen) → ActedBack v old acted
    → stored.store.cells ≡ cells_back v.action replaced.number acted.store.cells → stored.store.output ≡ output_back v.action acted.store.output → stored ≡ record acted { store = stored.store }
    → front ≡ stored → (new : Seen) → IsRest front new → ((u : Name) → task new.rows u ≡ cond (is_of u v) (option_map (retreated v.action replaced.number replaced.at) (task front.rows u)) (task front.rows u))
    → ((p : Name) → holders_of new.rows p ≡ holders_of front.rows p)
    → ChangedBack v replaced old new
changed_back v replaced old acted stored front a cells output same is new rest tasks holders =
    let all : front ≡ record acted { store = stored.store } = is ∙ same in
    let rows : front.rows ≡ acted.rows = ap (λ s. s.rows) all in
    record {
      cells = ap (λ s. s.cells) (rest.store ∙ ap (λ s. s.store) is) ∙ cells ∙ ap (λ s. cells_back v.action replaced.number s.cells) a.store;
      output = ap (λ s. s.output) (rest.store ∙ ap (λ s. s.store) is) ∙ output ∙ ap (λ s. output_back v.action s.output) a.store;
      waits = subst (λ w. ChangesBackBy v.task v.action old.waits.tasks w.tasks) (sym (rest.waits ∙ ap (λ s. s.waits) all)) a.waits;
      marks = subst (λ w. MarkedBackBy v.task v.action old.marks.tasks w.tasks) (sym (rest.marks ∙ ap (λ s. s.marks) all)) a.marks;
      tasks = λ u. tasks u ∙ ap (λ o. cond (is_of u v) (option_map (retreated v.action replaced.number replaced.at) o) o) (ap (λ r. task r u) rows ∙ a.tasks u);
      holders = holders_back_on old.rows acted.rows new.rows (λ p. holders p ∙ ap (λ r. holders_of r p) rows) v.task v.action a.holders;
    }

-- the record of what was written over
pub replaced_as : (a : Action) (cells : List ℤ) (k : Task) {number : Option ℤ} {reg : Option ℕ} {at : ℕ} → number ≡ option_or (cell_over a cells) (register_over a k.regs) → reg ≡ register_by a → at ≡ k.at
    → ◌≡◌ {A = Replaced} (record { number = number; reg = reg; at = at }) (replaced_in a cells k)
replaced_as a cells k n r l =
    ap₂ (λ (x : Option ℤ) (y : Option ℕ × ℕ). made x y) (n ∙ one_number a cells k.regs) (ap₂ (λ u w. (u, w)) r l)
  where
    made : Option ℤ → Option ℕ × ℕ → Replaced
    made x y = record { number = x; reg = y.0; at = y.1 }
