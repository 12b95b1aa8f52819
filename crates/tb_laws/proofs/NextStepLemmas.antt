-- A task's next event is computed, and whether it may be taken.
use Rattle.std.proofs.Common.{◌≡◌, ℕ, suc, ℤ, List, Bool, true, false, not, cond, ◌⊎◌, inl, inr, ⊎_elim, ◌↔◌, refl, sym, ap, ◌∙◌, subst, IsTrue, Option, Some, None, option_map, map}
use Rattle.std.specs.Prelude.{is_none}
use Rattle.std.specs.List.{list_any}
use Rattle.std.proofs.lemmas.Bool.{false_from_ne_true, false≢true}
use Rattle.tb_model.specs.declared.item.Item.{Item}
use Rattle.tb_model.specs.declared.action.Action.{Action}
use Rattle.tb_model.specs.declared.action.Action.TheVariants.{Load, Store, Spawn, Wait, Fault}
use Rattle.tb_model.specs.declared.event.Event.{Event}
use Rattle.tb_model.specs.declared.statement.Statement.{Statement}
use Rattle.tb_model.specs.declared.statement.Statement.TheVariants.{Load as DoLoad, Store as DoStore, Task as DoSpawn, Taskwait as DoWait}
use Rattle.tb_model.specs.Names.{Name, child}
use Rattle.tb_model.specs.Facts.{History, own, last, is_spawned, ends, IsSpawned, HasEnded}
use Rattle.tb_model.specs.Legal.{Cells, first_number, spawn_count, Continues, IsTimely, Legal}
use Rattle.tb_model.specs.Program.{Program, zero_ℤ, value, is_deferred, cell_at, or_fault, items_at, items_or_fault, action_of, situation, instr_at, planned, loaded, LegalFor, IsNext}
use Rattle.tb_model.specs.WellFormed.{WellFormed}
use Rattle.tb_model.specs.LeastNames.{IsLeastName}
use Rattle.tb_model.specs.Hindrances.{Hindrance, in_the_way, number_read, next_action, next_event, Refusal, NoSuchTask, Ended, By, refusal_of, can_step, least_ready}
use Rattle.tb_model.proofs.FactsLemmas.{begun, not_started, ends_own, not_running}
use Rattle.tb_model.proofs.NeedsLemmas.{may_spawned}
use Rattle.tb_laws.proofs.WellFormedLemmas.{what_fits, no_dead_end_for}
use Rattle.tb_model.proofs.LeastNameLemmas.{least_found}
use Rattle.tb_model.proofs.HindranceLemmas.{nothing_in_the_way, nothing_keeps}

-- ---- a statement's action, by the value that a load reads

-- what is planned is one action, which is no load
record IsOne (f : ℤ → Action) : Type 0 where
  action : Action
  same : (x : ℤ) → f x ≡ action
  reads : (cells : Cells) (H : History) → loaded action ≡ number_read cells H action
  zero : loaded action ≡ zero_ℤ

-- what is planned is a load of one cell
record IsLoad (f : ℤ → Action) : Type 0 where
  register : ℕ
  cell : ℕ
  same : (x : ℤ) → f x ≡ Load register cell x

abbrev Reads : (ℤ → Action) → Type 0
Reads f = IsOne f ⊎ IsLoad f

reads : (cells : Cells) (t : Name) (n : ℕ) (regs : List ℤ) (s : Statement) → Reads (λ x. action_of cells t n regs x s)
reads cells t n regs (DoLoad r a) = at (cell_at cells (value regs a))
  where
    at : (o : Option ℕ) → Reads (λ x. or_fault o (λ c. Load r c x))
    at None = inl (record { action = Fault; same = λ x. refl; reads = λ cs H. refl; zero = refl })
    at (Some c) = inr (record { register = r; cell = c; same = λ x. refl })
reads cells t n regs (DoStore a b) = at (cell_at cells (value regs a))
  where
    at : (o : Option ℕ) → Reads (λ x. or_fault o (λ c. Store c (value regs b)))
    at None = inl (record { action = Fault; same = λ x. refl; reads = λ cs H. refl; zero = refl })
    at (Some c) = inl (record { action = Store c (value regs b); same = λ x. refl; reads = λ cs H. refl; zero = refl })
reads cells t n regs (DoSpawn line args items q) = at (items_at cells regs items)
  where
    at : (o : Option (List Item)) → Reads (λ x. items_or_fault o (λ is. Spawn (record { child = child t n; body = line; args = map (value regs) args; items = is; deferred = is_deferred regs q })))
    at None = inl (record { action = Fault; same = λ x. refl; reads = λ cs H. refl; zero = refl })
    at (Some is) = inl (record { action = Spawn (record { child = child t n; body = line; args = map (value regs) args; items = is; deferred = is_deferred regs q }); same = λ x. refl; reads = λ cs H. refl; zero = refl })
reads cells t n regs (DoWait items) = at (items_at cells regs items)
  where
    at : (o : Option (List Item)) → Reads (λ x. items_or_fault o Wait)
    at None = inl (record { action = Fault; same = λ x. refl; reads = λ cs H. refl; zero = refl })
    at (Some is) = inl (record { action = Wait is; same = λ x. refl; reads = λ cs H. refl; zero = refl })
reads cells t n regs s = inl (record { action = action_of cells t n regs zero_ℤ s; same = λ x. refl; reads = λ cs H. refl; zero = refl })

module _ (cells : Cells) (H : History) (t : Name) (f : ℤ → Action) where
  abbrev number : ℤ
  number = number_read cells H (f zero_ℤ)

  -- the value that a load reads is its cell's
  load_number : (r : IsLoad f) → number ≡ last (first_number cells r.cell) r.cell H
  load_number r = ap (number_read cells H) (r.same zero_ℤ)

  -- the one action that the statement gives and that is timely
  only : Reads f → (a : Action) → a ≡ f (loaded a) → IsTimely cells H t a → a ≡ f number
  only (inl r) a e m = e ∙ r.same (loaded a) ∙ sym (r.same number)
  only (inr r) a e m =
      let p = e ∙ r.same (loaded a) in
      let x : loaded a ≡ last (first_number cells r.cell) r.cell H = subst (IsTimely cells H t) p m in
      p ∙ ap (Load r.register r.cell) (x ∙ sym (load_number r)) ∙ sym (r.same number)

  -- it is what it says that it reads
  says : Reads f → f number ≡ f (loaded (f number))
  says (inl r) = r.same number ∙ sym (r.same (loaded (f number)))
  says (inr r) = ap f (sym (ap loaded (r.same number)))

  -- which is the cell's value
  reads_number : Reads f → loaded (f number) ≡ number_read cells H (f number)
  reads_number (inl r) = ap loaded (r.same number) ∙ r.reads cells H ∙ sym (ap (number_read cells H) (r.same number))
  reads_number (inr r) = ap loaded (r.same number) ∙ load_number r ∙ sym (ap (number_read cells H) (r.same number))

  -- and what blocks it doesn't depend on the value
  kept_alike : Reads f → in_the_way H t (f zero_ℤ) ≡ in_the_way H t (f number)
  kept_alike (inl r) = ap (in_the_way H t) (r.same zero_ℤ ∙ sym (r.same number))
  kept_alike (inr r) = ap (in_the_way H t) (r.same zero_ℤ) ∙ sym (ap (in_the_way H t) (r.same number))

-- ---- the next event

planned_reads : (P : Program) (H : History) (t : Name) → Reads (planned P H t)
planned_reads P H t =
    let c = situation P t H in
    reads P.cells t (suc (spawn_count (own t H))) c.regs (instr_at P c.line).statement

-- what is next is the event that is computed
pub next_computed : (P : Program) (H : History) (v : Event) → IsNext P H v → v ≡ next_event P H v.task
next_computed P H v n =
    let e = only P.cells H v.task (planned P H v.task) (planned_reads P H v.task) v.action n.follows n.may.timely in
    λ i. record { task = v.task; action = e i }

-- ---- whether it may be taken

nothing_refused : (b c : Bool) (o : Option Hindrance) → cond (not b) (Some NoSuchTask) (cond c (Some Ended) (option_map By o)) ≡ None → (b ≡ true) × (c ≡ false) × (o ≡ None)
nothing_refused true false None e = (refl, refl, refl)
nothing_refused true false (Some h) e = cc
nothing_refused true true o e = cc
nothing_refused false c o e = cc

not_refused : (b c : Bool) (o : Option Hindrance) → b ≡ true → c ≡ false → o ≡ None → ◌≡◌ {A = Option Refusal} (cond (not b) (Some NoSuchTask) (cond c (Some Ended) (option_map By o))) None
not_refused true false None x y z = refl
not_refused true false (Some h) x y z = cc
not_refused true true o x y z = absurd (false≢true (sym y))
not_refused false c o x y z = absurd (false≢true x)

is_none_only : {A : Type 0} (o : Option A) → is_none o ≡ true → o ≡ None
is_none_only None h = refl
is_none_only (Some x) h = absurd (false≢true h)

-- who goes on hasn't ended
not_over : (cells : Cells) (H : History) (t : Name) (a : Action) → Legal cells H → Continues cells t (own t H) a → list_any (ends t) H ≡ false
not_over cells H t a l k =
    false_from_ne_true (list_any (ends t) H) (λ e.
    ⊎_elim (λ s. not_started t H (ends t) (ends_own t) (subst (Continues cells t (own t H)) s k) e)
    (λ r. not_running cells H t l e r)
    (begun cells t (own t H) a k))

-- a task that is there, hasn't ended and has a next event isn't refused
pub unrefused_by : (P : Program) (H : History) (t : Name) → IsSpawned H t → list_any (ends t) H ≡ false → IsNext P H (next_event P H t) → refusal_of P H t ≡ None
unrefused_by P H t s e n =
    not_refused (is_spawned H t) (list_any (ends t) H) (in_the_way H t (planned P H t zero_ℤ)) s e
    (kept_alike P.cells H t (planned P H t) (planned_reads P H t) ∙ nothing_keeps P.cells H t (next_action P H t) n.may)

module _ (P : Program) (w : WellFormed P) (H : History) (l : LegalFor P H) where
  unrefused_next : (t : Name) → refusal_of P H t ≡ None → IsNext P H (next_event P H t)
  unrefused_next t e =
      let o = nothing_refused (is_spawned H t) (list_any (ends t) H) (in_the_way H t (planned P H t zero_ℤ)) e in
      let f = planned P H t in
      let r = planned_reads P H t in
      record {
        may = (nothing_in_the_way P.cells H t (next_action P H t) o.0 (what_fits P w H l t (number P.cells H t f) o.1) (reads_number P.cells H t f r)).0 (sym (kept_alike P.cells H t f r) ∙ o.2);
        follows = says P.cells H t f r;
      }

  next_unrefused : (t : Name) → IsNext P H (next_event P H t) → refusal_of P H t ≡ None
  next_unrefused t n =
      unrefused_by P H t (may_spawned P.cells H (next_event P H t) l.0 n.may) (not_over P.cells H t (next_action P H t) l.0 n.may.own) n

  able_next : (t : Name) → IsTrue (can_step P H t) → IsNext P H (next_event P H t)
  able_next t h = unrefused_next t (is_none_only (refusal_of P H t) h)

  next_able : (t : Name) → IsNext P H (next_event P H t) → IsTrue (can_step P H t)
  next_able t n = ap is_none (next_unrefused t n)

  any_unrefused : (v : Event) → IsNext P H v → refusal_of P H v.task ≡ None
  any_unrefused v n = next_unrefused v.task (subst (IsNext P H) (next_computed P H v n) n)

  -- the least task that has a next event
  ready_least : IsLeastName (λ t. IsNext P H (next_event P H t)) (least_ready P H)
  ready_least =
      let r = least_found H (can_step P H) (λ t h. may_spawned P.cells H (next_event P H t) l.0 (able_next t h).may) in
      record { found = λ t e. able_next t (r.found t e); least = λ t n. r.least t (next_able t n) }

  -- no task is runnable once all have ended, and only then
  none_ready : least_ready P H ≡ None → (t : Name) → IsSpawned H t → HasEnded H t
  none_ready e = no_dead_end_for P w H l (λ v n.
      let m = ready_least.least v.task (subst (IsNext P H) (next_computed P H v n) n) in
      cc)

  all_over : ((t : Name) → IsSpawned H t → HasEnded H t) → least_ready P H ≡ None
  all_over f = at (least_ready P H) refl
    where
      at : (o : Option Name) → least_ready P H ≡ o → least_ready P H ≡ None
      at None e = e
      at (Some t) e =
          let n = ready_least.found t e in
          absurd (false≢true (sym (not_over P.cells H t (next_action P H t) l.0 n.may.own) ∙ f t (may_spawned P.cells H (next_event P H t) l.0 n.may)))

pub can_next : (P : Program) (H : History) (t : Name) → WellFormed P → LegalFor P H → IsTrue (can_step P H t) ↔ IsNext P H (next_event P H t)
can_next P H t w l = (able_next P w H l t, next_able P w H l t)

pub refused_next : (P : Program) (H : History) (t : Name) → WellFormed P → LegalFor P H → (refusal_of P H t ≡ None) ↔ IsNext P H (next_event P H t)
refused_next P H t w l = (unrefused_next P w H l t, next_unrefused P w H l t)

pub next_isnt_refused : (P : Program) (H : History) (v : Event) → WellFormed P → LegalFor P H → IsNext P H v → refusal_of P H v.task ≡ None
next_isnt_refused P H v w l n = any_unrefused P w H l v n

pub least_next : (P : Program) (H : History) → WellFormed P → LegalFor P H → IsLeastName (λ t. IsNext P H (next_event P H t)) (least_ready P H)
least_next P H w l = ready_least P w H l

pub done_ended : (P : Program) (H : History) → WellFormed P → LegalFor P H → (least_ready P H ≡ None) ↔ ((t : Name) → IsSpawned H t → HasEnded H t)
done_ended P H w l = (none_ready P w H l, all_over P w H l)
