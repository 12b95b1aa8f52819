-- At most one next event of a task; removal for a program.
use Rattle.std.proofs.Common.{◌≡◌, ℕ, suc, List, [], ◌∷◌, Bool, true, false, not, ◌⊎◌, inl, inr, refl, sym, ap, ap₂, ◌∙◌, subst, ℤ, Option, Some, None}
use Rattle.std.specs.List.{list_any}
use Rattle.std.proofs.lemmas.Bool.{or_parts}
use Rattle.tb_model.specs.declared.action.Action.{Action}
use Rattle.tb_model.specs.declared.action.Action.TheVariants.{Load}
use Rattle.tb_model.specs.declared.event.Event.{Event}
use Rattle.tb_model.specs.Names.{Name}
use Rattle.tb_model.specs.Facts.{History, own, is_of, spawns, last, prepend_if}
use Rattle.tb_model.specs.Legal.{Cells, first_number, spawn_count, IsTimely}
use Rattle.tb_model.specs.declared.step_id.StepId.{StepId}
use Rattle.tb_model.specs.Needs.{needs, is_step, removed, is_removed, without}
use Rattle.tb_model.specs.declared.statement.Statement.{Statement}
use Rattle.tb_model.specs.declared.statement.Statement.TheVariants.{Load as DoLoad}
use Rattle.tb_model.specs.State.{called_by}
use Rattle.tb_model.specs.Program.{Program, called, config, instr_at, action_of, cell_at, value, or_fault, planned, loaded, Follows, AllFollow, LegalFor, IsNext}
use Rattle.tb_model.proofs.TestLemmas.{none_weaker}
use Rattle.tb_model.proofs.PartsLemmas.{Parts, own_same}
use Rattle.tb_model.proofs.RemovalLemmas.{needs_own, needs_spawn, in_parts, removal}
use Rattle.tb_model.proofs.RecordsLemmas.{spawn_same}

-- a statement's action doesn't depend on the value read, or is a load of it
Reads : (ℤ → Action) → Type 0
Reads f = ((x y : ℤ) → f x ≡ f y) ⊎ ((r : ℕ) × (c : ℕ) × ((x : ℤ) → f x ≡ Load r c x))

reads : (cells : Cells) (t : Name) (n : ℕ) (regs : List ℤ) (s : Statement) → Reads (λ x. action_of cells t n regs x s)
unfolding Reads
reads cells t n regs (DoLoad r a) = at (cell_at cells (value regs a))
  where
    at : (o : Option ℕ) → ((x y : ℤ) → or_fault o (λ c. Load r c x) ≡ or_fault o (λ c. Load r c y)) ⊎ ((k : ℕ) × (c : ℕ) × ((x : ℤ) → or_fault o (λ d. Load r d x) ≡ Load k c x))
    at None = inl (λ x y. refl)
    at (Some c) = inr (r, c, λ x. refl)
reads cells t n regs _ = inl (λ x y. refl)

-- two next events of one task are one
same_action : (cells : Cells) (H : History) (t : Name) (f : ℤ → Action) (a b : Action) → Reads f → a ≡ f (loaded a) → b ≡ f (loaded b) → IsTimely cells H t a → IsTimely cells H t b → a ≡ b
unfolding Reads
same_action cells H t f a b (inl k) p q m n = p ∙ k (loaded a) (loaded b) ∙ sym q
same_action cells H t f a b (inr k) p q m n =
    let c = k.1 in
    let p' = p ∙ k.2 (loaded a) in
    let q' = q ∙ k.2 (loaded b) in
    let x : loaded a ≡ last (first_number cells c) c H = subst (IsTimely cells H t) p' m in
    let y : loaded b ≡ last (first_number cells c) c H = subst (IsTimely cells H t) q' n in
    p' ∙ ap (Load k.0 c) (x ∙ sym y) ∙ sym q'

-- there is at most one next event of a task
pub one_next : (P : Program) (H : History) (v w : Event) → IsNext P H v → IsNext P H w → v.task ≡ w.task → v ≡ w
one_next P H v w m n e =
    let k = called P v.task H in
    let c = config P k.line k.args (own v.task H) in
    let r = reads P.cells v.task (suc (spawn_count (own v.task H))) c.regs (instr_at P c.line).statement in
    let q : w.action ≡ planned P H v.task (loaded w.action) = n.follows ∙ ap (λ t. planned P H t (loaded w.action)) (sym e) in
    let a = same_action P.cells H v.task (planned P H v.task) v.action w.action r m.follows q m.may.timely (subst (λ t. IsTimely P.cells H t w.action) (sym e) n.may.timely) in
    λ i. record { task = e i; action = a i }

-- ---- removal for a program

called_same : (P : Program) (t : Name) {H K R : History} → Parts H K R → list_any (spawns t) R ≡ false → called P t K ≡ called P t H
called_same P t s n = ap (called_by P.root_line) (spawn_same t s n)

follow_at : (P : Program) (e : StepId) (v : Event) (H : History) (b : Bool) → is_removed e H v ≡ b → AllFollow P (without e H) → Follows P H v → AllFollow P (prepend_if (not b) v (without e H))
follow_at P e v H true g l f = l
follow_at P e v H false g l f =
    let none = (or_parts (is_step e H v) (list_any (needs H v) (removed e H)) g).1 in
    let s = in_parts e H in
    let o = own_same v.task s (none_weaker (is_of v.task) (needs H v) (needs_own H v.task v.action) (removed e H) none) in
    let c = called_same P v.task s (none_weaker (spawns v.task) (needs H v) (needs_spawn H v.task v.action) (removed e H) none) in (
      l,
      f
          ∙ ap₂ (λ acts k. action_of P.cells v.task (suc (spawn_count acts)) (config P k.line k.args acts).regs (loaded v.action) (instr_at P (config P k.line k.args acts).line).statement) (sym o) (sym c),
    )

all_follow : (P : Program) (e : StepId) (H : History) → AllFollow P H → AllFollow P (without e H)
all_follow P e [] l = tt
all_follow P e (v ∷ H) l = follow_at P e v H (is_removed e H v) refl (all_follow P e H l.0) l.1

pub removal_for : (P : Program) (e : StepId) (H : History) → LegalFor P H → LegalFor P (without e H)
removal_for P e H l = (removal P.cells e H l.0, all_follow P e H l.1)
