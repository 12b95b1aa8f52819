-- What a behaviour gives, and what retains it.
use Rattle.std.proofs.Common.{◌≡◌, inl, inr, ℕ, suc, ℤ, List, [], ◌∷◌, ◌++◌, false, cond, refl, sym, ap, ap₂, ◌∙◌, Option, Some, None, map}
use Rattle.std.specs.List.{list_any}
use Rattle.std.proofs.lemmas.Bool.{or_parts}
use Rattle.tb_model.specs.declared.action.Action.{Action}
use Rattle.tb_model.specs.declared.action.Action.TheVariants.{Load, Store, Spawn, Wait, Fault}
use Rattle.tb_model.specs.declared.item.Item.{Item}
use Rattle.tb_model.specs.declared.event.Event.{Event}
use Rattle.tb_model.specs.declared.statement.Statement.{Statement}
use Rattle.tb_model.specs.declared.statement.Statement.TheVariants.{Start as DoStart, Let as DoLet, Compute as DoCompute, Load as DoLoad, Store as DoStore, Print as DoPrint, Task as DoSpawn, Taskwait as DoWait, Taskgroup as DoOpen, EndTaskgroup as DoClose, Test as DoTest, End as DoEnd}
use Rattle.tb_model.specs.Names.{Name, child}
use Rattle.tb_model.specs.Facts.{History, is_of, own, spawns}
use Rattle.tb_model.specs.State.{called_by, spawn_of}
use Rattle.tb_model.specs.Legal.{Cells, spawn_count}
use Rattle.tb_model.specs.Needs.{needs}
use Rattle.tb_model.specs.Alike.{Alike}
use Rattle.tb_model.specs.Program.{Program, value, is_deferred, cell_at, or_fault, items_at, items_or_fault, action_of, config, instr_at, loaded, AllFollow, LegalFor, IsNext}
use Rattle.tb_model.proofs.FactsLemmas.{own_other, not_again}
use Rattle.tb_model.proofs.NeighboursLemmas.{same_sym, swapped}
use Rattle.tb_model.proofs.RunLemmas as runs
use Rattle.tb_model.proofs.RunLemmas.{Run}
use Rattle.tb_model.proofs.NeedsLemmas.{run_same, may_spawned}
use Rattle.tb_model.proofs.PartsLemmas.{Parts, own_same}
use Rattle.tb_model.proofs.RecordsLemmas.{spawn_same}
use Rattle.tb_model.specs.WellFormed.{WellFormed}
use Rattle.tb_laws.proofs.WellFormedLemmas.{no_dead_end_for}
use Rattle.tb_one_run.specs.Outcomes.{IsFinished}
use Rattle.tb_one_run.specs.Behaviours.{OnlyReads, Behaviour, given, AllBehave, IsRunOf, IsNextOf, IsOver}
use Rattle.tb_one_run.proofs.NumberLemmas.{IsBlind}

-- ---- a task's own past settles what it does

pub given_same : (B : Behaviour) (G H : History) (t : Name) (x : ℤ) → own t G ≡ own t H → spawn_of t G ≡ spawn_of t H → given B G t x ≡ given B H t x
given_same B G H t x o s = ap₂ (λ acts k. B.gives k t acts x) o (ap (called_by B.root_line) s)

pub given_stays : (B : Behaviour) {H K R : History} → Parts H K R → (t : Name) → list_any (is_of t) R ≡ false → list_any (spawns t) R ≡ false
    → (x : ℤ) → given B K t x ≡ given B H t x
given_stays B {H} {K} s t o n x = given_same B K H t x (own_same t s o) (spawn_same t s n)

given_alike : (B : Behaviour) {G H : History} → Alike G H → (t : Name) (x : ℤ) → given B G t x ≡ given B H t x
given_alike B {G} {H} a t x = given_same B G H t x (a.acts t) (a.spawn t)

given_other : (B : Behaviour) (g : Event) (H : History) (t : Name) (x : ℤ) → is_of t g ≡ false → spawns t g ≡ false → given B (g ∷ H) t x ≡ given B H t x
given_other B g H t x o s = given_same B (g ∷ H) H t x (own_other t g H o) (ap (λ b. cond b (Some g.action) (spawn_of t H)) s)

-- ---- two events that it gives to one task

pub some_one : {A : Type 0} {a b : A} → Some a ≡ Some b → a ≡ b
some_one e = cc

-- what a behaviour gives differs in the value that a load reads, if at all
pub blind_given : {A : Type 0} (f : Action → A) → IsBlind f → (g : ℤ → Option Action) → OnlyReads g → (a b : Action) → g (loaded a) ≡ Some a
    → g (loaded b) ≡ Some b → f a ≡ f b
blind_given f blind g (inl o) a b p q = ap f (some_one (sym p ∙ o.2 (loaded a) ∙ sym (o.2 (loaded b)) ∙ q))
blind_given f blind g (inr o) a b p q =
    let l : Load o.0 o.1 (loaded a) ≡ a = some_one (sym (o.2 (loaded a)) ∙ p) in
    let m : Load o.0 o.1 (loaded b) ≡ b = some_one (sym (o.2 (loaded b)) ∙ q) in
    ap f (sym l) ∙ blind o.0 o.1 (loaded a) (loaded b) ∙ ap f m

-- two actions that are given so are one where both read one value
pub one_given : (g : ℤ → Option Action) → OnlyReads g → (a b : Action) → g (loaded a) ≡ Some a → g (loaded b) ≡ Some b
    → ((r c : ℕ) (x y : ℤ) → a ≡ Load r c x → b ≡ Load r c y → x ≡ y) → a ≡ b
one_given g (inl o) a b p q same = some_one (sym p ∙ o.2 (loaded a) ∙ sym (o.2 (loaded b)) ∙ q)
one_given g (inr o) a b p q same =
    let l : Load o.0 o.1 (loaded a) ≡ a = some_one (sym (o.2 (loaded a)) ∙ p) in
    let m : Load o.0 o.1 (loaded b) ≡ b = some_one (sym (o.2 (loaded b)) ∙ q) in
    sym l ∙ ap (Load o.0 o.1) (same o.0 o.1 (loaded a) (loaded b) (sym l) (sym m)) ∙ m

-- ---- runs

-- the front of a run is a run
pub run_below : (B : Behaviour) (b F : History) → IsRunOf B (b ++ F) → IsRunOf B F
run_below B [] F l = l
run_below B (x ∷ b) F l = run_below B b F (l.0.0, l.1.0)

swap_behave : (B : Behaviour) (e f : Event) (H : History) → IsRunOf B (f ∷ e ∷ H) → needs (e ∷ H) f e ≡ false → AllBehave B (e ∷ f ∷ H)
swap_behave B e f H l n =
    let not_e = (or_parts (is_of f.task e) _ n).0 in
    let not_f = same_sym e.task f.task not_e in
    let mf = (swapped B.cells H e f l.0 n).0.0.1 in (
      (l.1.0.0, sym (given_other B e H f.task (loaded f.action) not_e (or_parts (spawns f.task e) _ (or_parts (is_of f.task e) _ n).1).0) ∙ l.1.1),
      given_other B f H e.task (loaded e.action) not_f (not_again B.cells H l.0.0.0 f mf e.task (may_spawned B.cells H e l.0.0.0 l.0.0.1)) ∙ l.1.0.1,
    )

-- changes of places retain them
pub run_of : (B : Behaviour) {G H : History} → IsRunOf B G → Run G H → IsRunOf B H
run_of B l r = ((run_same B.cells l.0 r).legal, at r l)
  where
    at : {G H : History} → Run G H → IsRunOf B G → AllBehave B H
    at (runs.same H) l = l.1
    at (runs.more v {G} {H} r) l =
        (at r (l.0.0, l.1.0), sym (given_alike B (run_same B.cells l.0.0 r).alike v.task (loaded v.action)) ∙ l.1.1)
    at (runs.swap e f H n) l = swap_behave B e f H l n
    at (runs.by_way r q) l = at q ((run_same B.cells l.0 r).legal, at r l)

-- ---- a program is a behaviour

pub statement_reads : (cells : Cells) (t : Name) (n : ℕ) (regs : List ℤ) (s : Statement) → OnlyReads (λ x. Some (action_of cells t n regs x s))
statement_reads cells t n regs (DoLoad r a) = at (cell_at cells (value regs a))
  where
    at : (o : Option ℕ) → OnlyReads (λ x. Some (or_fault o (λ c. Load r c x)))
    at None = inl (Some Fault, tt, λ x. refl)
    at (Some c) = inr (r, c, λ x. refl)
statement_reads cells t n regs (DoStore a b) = at (cell_at cells (value regs a))
  where
    at : (o : Option ℕ) → OnlyReads (λ x. Some (or_fault o (λ c. Store c (value regs b))))
    at None = inl (Some Fault, tt, λ x. refl)
    at (Some c) = inl (Some (Store c (value regs b)), tt, λ x. refl)
statement_reads cells t n regs (DoSpawn line args items q) = at (items_at cells regs items)
  where
    at : (o : Option (List Item)) → OnlyReads (λ x. Some (items_or_fault o (λ is. Spawn (record { child = child t n; body = line; args = map (value regs) args; items = is; deferred = is_deferred regs q }))))
    at None = inl (Some Fault, tt, λ x. refl)
    at (Some is) = inl (Some (Spawn (record { child = child t n; body = line; args = map (value regs) args; items = is; deferred = is_deferred regs q })), tt, λ x. refl)
statement_reads cells t n regs (DoWait items) = at (items_at cells regs items)
  where
    at : (o : Option (List Item)) → OnlyReads (λ x. Some (items_or_fault o Wait))
    at None = inl (Some Fault, tt, λ x. refl)
    at (Some is) = inl (Some (Wait is), tt, λ x. refl)
statement_reads cells t n regs DoStart = inl (_, tt, λ x. refl)
statement_reads cells t n regs (DoLet r a) = inl (_, tt, λ x. refl)
statement_reads cells t n regs (DoCompute r a o b) = inl (_, tt, λ x. refl)
statement_reads cells t n regs (DoPrint a) = inl (_, tt, λ x. refl)
statement_reads cells t n regs DoOpen = inl (_, tt, λ x. refl)
statement_reads cells t n regs DoClose = inl (_, tt, λ x. refl)
statement_reads cells t n regs (DoTest c) = inl (_, tt, λ x. refl)
statement_reads cells t n regs DoEnd = inl (_, tt, λ x. refl)

-- each task does what is at its line
abbrev pub of_program : Program → Behaviour
of_program P = record {
  cells = P.cells;
  root_line = P.root_line;
  gives = λ k t acts x. Some (action_of P.cells t (suc (spawn_count acts)) (config P k.line k.args acts).regs x (instr_at P (config P k.line k.args acts).line).statement);
  reads = λ k t acts. statement_reads P.cells t (suc (spawn_count acts)) (config P k.line k.args acts).regs (instr_at P (config P k.line k.args acts).line).statement;
}

all_behave : (P : Program) (H : History) → AllFollow P H → AllBehave (of_program P) H
all_behave P [] l = tt
all_behave P (v ∷ H) l = (all_behave P H l.0, ap Some (sym l.1))

all_follow : (P : Program) (H : History) → AllBehave (of_program P) H → AllFollow P H
all_follow P [] l = tt
all_follow P (v ∷ H) l = (all_follow P H l.0, sym (some_one l.1))

pub to_run : (P : Program) (H : History) → LegalFor P H → IsRunOf (of_program P) H
to_run P H l = (l.0, all_behave P H l.1)

pub from_run : (P : Program) (H : History) → IsRunOf (of_program P) H → LegalFor P H
from_run P H l = (l.0, all_follow P H l.1)

pub from_next : (P : Program) (H : History) (v : Event) → IsNextOf (of_program P) H v → IsNext P H v
from_next P H v n = record { may = n.may; follows = sym (some_one n.behaves) }

pub to_next : (P : Program) (H : History) (v : Event) → IsNext P H v → IsNextOf (of_program P) H v
to_next P H v n = record { may = n.may; behaves = ap Some (sym n.follows) }

-- a run of a program after which no task can step is over
pub over : (P : Program) (H : History) → WellFormed P → LegalFor P H → IsFinished P H → IsOver H
over P H w l done = λ t s. no_dead_end_for P w H l done t s
