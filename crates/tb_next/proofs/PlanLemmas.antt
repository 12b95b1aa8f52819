-- What a task would do next, by its program.
use Rattle.std.proofs.Common.{◌≡◌, ◌≢◌, ◌<◌, ◌≤◌, ◌↔◌, arith, cond, nat_lt, ℕ, suc, List, [], ◌∷◌, Bool, true, false, map, length, refl, sym, ap, ap₂, ◌∙◌, subst, ℤ, Option, Some, None, option_map, not, ◌⊎◌, ⊎_elim, set}
use Rattle.std.specs.List.{list_any}
use Rattle.std.proofs.lemmas.Bool.Decides.{nat_tests}
use Rattle.std.proofs.lemmas.List.{get_or_past}
use Rattle.std.proofs.lemmas.Bool.{false≢true, or_parts, both_ways, and_from, false_from_ne_true}
use Rattle.tb_model.specs.declared.item.Item.{Item}
use Rattle.tb_model.specs.declared.action.Action.{Action}
use Rattle.tb_model.specs.declared.action.Action.TheVariants.{Start, Let, Load, Store, Print, Spawn, Wait, Open, Close, Test, End, Fault}
use Rattle.tb_model.specs.declared.statement.Statement.{Statement}
use Rattle.tb_model.specs.declared.statement.Statement.TheVariants.{Start as DoStart, Let as DoLet, Compute as DoCompute, Load as DoLoad, Store as DoStore, Print as DoPrint, Task as DoTask, Taskwait as DoTaskwait, Taskgroup as DoTaskgroup, EndTaskgroup as DoEndTaskgroup, Test as DoTest, End as DoEnd}
use Rattle.tb_model.specs.Names.{Name, child}
use Rattle.tb_model.specs.Facts.{History, is_of, own, is_start, is_end, ends, spawns, is_spawned, IsSpawned}
use Rattle.tb_model.specs.Hindrances.{Hindrance, Refusal, NoSuchTask, Ended, By, refusal_of, can_step, least_ready, in_the_way, number_read, next_event}
use Rattle.tb_plan.specs.declared.config.Config.{Config}
use Rattle.tb_plan.specs.declared.planned.Plan.{Plan}
use Rattle.tb_plan.specs.Plans.{instruction}
use Rattle.tb_undo.specs.State.{registers}
use Rattle.tb_model.specs.declared.event.Event.{Event}
use Rattle.tb_model.specs.Legal.{Cells, spawn_count, IsRunning, Continues}
use Rattle.tb_model.specs.State.{spawn_of, called_by}
use Rattle.tb_model.specs.Records.{args_in}
use Rattle.tb_model.specs.Lines.{line_of}
use Rattle.tb_model.specs.Program.{Program, Instr, no_instr, Config as Place, instr_at, action_of, or_fault, items_or_fault, cell_at, items_at, value, is_deferred, is_met, zero_ℤ, called, config, situation, planned, loaded, moved, LegalFor}
use Rattle.tb_model.proofs.FactsLemmas.{begun, own_mine, own_other, acted_spawned, not_again}
use Rattle.tb_model.proofs.NeedsLemmas.{may_spawned}
use Rattle.tb_model.proofs.TestLemmas.{same_true}
use Rattle.tb_model.proofs.NeighboursLemmas.{start_only}
use Rattle.tb_model.proofs.LinesLemmas.{line_kept, situation_other}
use Rattle.tb_laws.proofs.WellFormedLemmas.{Placed, what_fits, stands}
use Rattle.tb_core.specs.Seen.{Seen, history}
use Rattle.tb_core.specs.Situation.{config_of}
use Rattle.tb_core.specs.Filling.{completed}
use Rattle.tb_core.specs.Outcomes.{has_ended, hindrance_of}
use Rattle.tb_core.specs.Outcomes as outcomes
use Rattle.tb_model.specs.WellFormed.{WellFormed, Begins, is_begin}
use Rattle.tb_read.specs.Meaning.{IsPosition}
use Rattle.tb_read.specs.Followed.{IsFollowed, is_last}
use Rattle.tb_next.specs.Fitting.{Fits}
use Rattle.tb_next.specs.Plans.{IsPlanOf}
use Rattle.std.specs.Prelude.{is_none}

-- ---- a task is where the program says

-- the registers that are stored are those of the definitions
registers_config : (P : Program) (line : ℕ) (args : List ℤ) (acts : List Action) → registers args acts ≡ (config P line args acts).regs
registers_config P line args [] = refl
registers_config P line args (Let r x ∷ acts) = ap (λ regs. set regs r x) (registers_config P line args acts)
registers_config P line args (Load r c x ∷ acts) = ap (λ regs. set regs r x) (registers_config P line args acts)
registers_config P line args (Test true ∷ acts) = registers_config P line args acts
registers_config P line args (Test false ∷ acts) = registers_config P line args acts
registers_config P line args (Start ∷ acts) = registers_config P line args acts
registers_config P line args (Store c x ∷ acts) = registers_config P line args acts
registers_config P line args (Print x ∷ acts) = registers_config P line args acts
registers_config P line args (Spawn s ∷ acts) = registers_config P line args acts
registers_config P line args (Wait items ∷ acts) = registers_config P line args acts
registers_config P line args (Open ∷ acts) = registers_config P line args acts
registers_config P line args (Close ∷ acts) = registers_config P line args acts
registers_config P line args (End ∷ acts) = registers_config P line args acts
registers_config P line args (Fault ∷ acts) = registers_config P line args acts

called_args : (root_line : ℕ) (o : Option Action) → (called_by root_line o).args ≡ args_in o
called_args root_line None = refl
called_args root_line (Some (Spawn s)) = refl
called_args root_line (Some Start) = refl
called_args root_line (Some (Let r x)) = refl
called_args root_line (Some (Load r c x)) = refl
called_args root_line (Some (Store c x)) = refl
called_args root_line (Some (Print x)) = refl
called_args root_line (Some (Wait items)) = refl
called_args root_line (Some Open) = refl
called_args root_line (Some Close) = refl
called_args root_line (Some (Test b)) = refl
called_args root_line (Some End) = refl
called_args root_line (Some Fault) = refl

pub stands_at : (P : Program) (run : Seen) (t : Name) → Fits P run → (config_of run t).at ≡ (situation P t (history run)).line
stands_at P run t f =
    ap (λ n. line_of (called_by n (spawn_of t (history run))).line t run.steps) f.root_line ∙ line_kept P run.steps t f.lines f.legal

pub holds_registers : (P : Program) (run : Seen) (t : Name) → (config_of run t).regs ≡ (situation P t (history run)).regs
holds_registers P run t =
    let k = called P t (history run) in
    registers_config P k.line (args_in (spawn_of t (history run))) (own t (history run))
    ∙ ap (λ args. (config P k.line args (own t (history run))).regs) (sym (called_args P.root_line (spawn_of t (history run))))

-- ---- the action that was planned, and the one that is taken

-- what doesn't look at a child's name is the same whatever the child's ordinal
module _ {B : Type 0} (f : Action → B) (cells : Cells) (t : Name) (n m : ℕ) (regs : List ℤ) (x : ℤ) (alike : (body : ℕ) (args : List ℤ) (items : List Item) (deferred : Bool) → f (Spawn (record { child = child t n; body = body; args = args; items = items; deferred = deferred })) ≡ f (Spawn (record { child = child t m; body = body; args = args; items = items; deferred = deferred }))) where
  spawns_alike : (body : ℕ) (args : List ℤ) (deferred : Bool) (o : Option (List Item)) → f (items_or_fault o (λ is. Spawn (record { child = child t n; body = body; args = args; items = is; deferred = deferred }))) ≡ f (items_or_fault o (λ is. Spawn (record { child = child t m; body = body; args = args; items = is; deferred = deferred })))
  spawns_alike body args deferred None = refl
  spawns_alike body args deferred (Some is) = alike body args is deferred

  pub numbered_alike : (s : Statement) → f (action_of cells t n regs x s) ≡ f (action_of cells t m regs x s)
  numbered_alike DoStart = refl
  numbered_alike (DoLet r a) = refl
  numbered_alike (DoCompute r a o b) = refl
  numbered_alike (DoLoad r a) = refl
  numbered_alike (DoStore a b) = refl
  numbered_alike (DoPrint a) = refl
  numbered_alike (DoTask body args depends c) = spawns_alike body (map (value regs) args) (is_deferred regs c) (items_at cells regs depends)
  numbered_alike (DoTaskwait depends) = refl
  numbered_alike DoTaskgroup = refl
  numbered_alike DoEndTaskgroup = refl
  numbered_alike (DoTest c) = refl
  numbered_alike DoEnd = refl

-- with the value that the load reads, and the child's ordinal, the planned action is the
-- definition's
module _ (cells : Cells) (H : History) (t : Name) where
  abbrev taken : Action → Action
  taken a = completed cells H t a

  abbrev next_number : ℕ
  next_number = suc (spawn_count (own t H))

  load_taken : (r : ℕ) (o : Option ℕ) → taken (or_fault o (λ c. Load r c zero_ℤ)) ≡ or_fault o (λ c. Load r c (loaded (taken (or_fault o (λ c. Load r c zero_ℤ)))))
  load_taken r None = refl
  load_taken r (Some c) = refl

  store_taken : (x : ℤ) (o : Option ℕ) → taken (or_fault o (λ c. Store c x)) ≡ or_fault o (λ c. Store c x)
  store_taken x None = refl
  store_taken x (Some c) = refl

  spawn_taken : (body : ℕ) (args : List ℤ) (deferred : Bool) (o : Option (List Item)) → taken (items_or_fault o (λ is. Spawn (record { child = child t 1; body = body; args = args; items = is; deferred = deferred }))) ≡ items_or_fault o (λ is. Spawn (record { child = child t next_number; body = body; args = args; items = is; deferred = deferred }))
  spawn_taken body args deferred None = refl
  spawn_taken body args deferred (Some is) = refl

  wait_taken : (o : Option (List Item)) → taken (items_or_fault o Wait) ≡ items_or_fault o Wait
  wait_taken None = refl
  wait_taken (Some is) = refl

  pub taken_planned : (regs : List ℤ) (s : Statement) → taken (action_of cells t 1 regs zero_ℤ s) ≡ action_of cells t next_number regs (loaded (taken (action_of cells t 1 regs zero_ℤ s))) s
  taken_planned regs DoStart = refl
  taken_planned regs (DoLet r a) = refl
  taken_planned regs (DoCompute r a o b) = refl
  taken_planned regs (DoLoad r a) = load_taken r (cell_at cells (value regs a))
  taken_planned regs (DoStore a b) = store_taken (value regs b) (cell_at cells (value regs a))
  taken_planned regs (DoPrint a) = refl
  taken_planned regs (DoTask body args depends c) = spawn_taken body (map (value regs) args) (is_deferred regs c) (items_at cells regs depends)
  taken_planned regs (DoTaskwait depends) = wait_taken (items_at cells regs depends)
  taken_planned regs DoTaskgroup = refl
  taken_planned regs DoEndTaskgroup = refl
  taken_planned regs (DoTest c) = refl
  taken_planned regs DoEnd = refl

  load_next : (r : ℕ) (o : Option ℕ) → taken (or_fault o (λ c. Load r c zero_ℤ)) ≡ or_fault o (λ c. Load r c (number_read cells H (or_fault o (λ d. Load r d zero_ℤ))))
  load_next r None = refl
  load_next r (Some c) = refl

  -- it is what the definitions compute
  pub taken_next : (regs : List ℤ) (s : Statement) → taken (action_of cells t 1 regs zero_ℤ s) ≡ action_of cells t next_number regs (number_read cells H (action_of cells t next_number regs zero_ℤ s)) s
  taken_next regs DoStart = refl
  taken_next regs (DoLet r a) = refl
  taken_next regs (DoCompute r a o b) = refl
  taken_next regs (DoLoad r a) = load_next r (cell_at cells (value regs a))
  taken_next regs (DoStore a b) = store_taken (value regs b) (cell_at cells (value regs a))
  taken_next regs (DoPrint a) = refl
  taken_next regs (DoTask body args depends c) = spawn_taken body (map (value regs) args) (is_deferred regs c) (items_at cells regs depends)
  taken_next regs (DoTaskwait depends) = wait_taken (items_at cells regs depends)
  taken_next regs DoTaskgroup = refl
  taken_next regs DoEndTaskgroup = refl
  taken_next regs (DoTest c) = refl
  taken_next regs DoEnd = refl

  -- neither number decides where the task is then
  pub moved_taken : (i : Instr) (c : Place) (a : Action) → (moved i c (taken a)).line ≡ (moved i c a).line
  moved_taken i c Start = refl
  moved_taken i c (Let r x) = refl
  moved_taken i c (Load r d x) = refl
  moved_taken i c (Store d x) = refl
  moved_taken i c (Print x) = refl
  moved_taken i c (Spawn s) = refl
  moved_taken i c (Wait items) = refl
  moved_taken i c Open = refl
  moved_taken i c Close = refl
  moved_taken i c (Test true) = refl
  moved_taken i c (Test false) = refl
  moved_taken i c End = refl
  moved_taken i c Fault = refl

-- ---- a plan of the program

-- the plan is the program's for the task's situation
pub record IsPlan (P : Program) (run : Seen) (p : Plan) : Type 0 where
  pub here : p.config ≡ config_of run p.config.task
  pub instr : instruction p.instr ≡ instr_at P p.config.at

-- what the program plans for the task's situation
pub is_plan : (P : Program) (run : Seen) (t : Name) (k : Config) (p : Plan) → k ≡ config_of run t → p.config ≡ k → instruction p.instr ≡ instr_at P k.at → IsPlan P run p
is_plan P run t k p e q i =
    let task : p.config.task ≡ t = ap (λ (c : Config). c.task) (q ∙ e) in record {
      here = q ∙ e ∙ ap (config_of run) (sym task);
      instr = i ∙ ap (λ (c : Config). instr_at P c.at) (sym q);
    }

-- the instruction and the registers are those at which the task is
pub plan_instr : (P : Program) (run : Seen) (p : Plan) → Fits P run → IsPlan P run p → instruction p.instr ≡ instr_at P (situation P p.config.task (history run)).line
plan_instr P run p f i = i.instr ∙ ap (λ (c : Config). instr_at P c.at) i.here ∙ ap (instr_at P) (stands_at P run p.config.task f)

pub plan_action : (P : Program) (run : Seen) (p : Plan) → Fits P run → IsPlan P run p → p.instr.cells ≡ length P.cells
    → p.action ≡ action_of P.cells p.config.task 1 (situation P p.config.task (history run)).regs zero_ℤ (instr_at P (situation P p.config.task (history run)).line).statement
plan_action P run p f i n =
    p.evaluated P.cells (sym n)
    ∙ ap₂ (λ (regs : List ℤ) (s : Statement). action_of P.cells p.config.task 1 regs zero_ℤ s)
    (ap (λ (c : Config). c.regs) i.here ∙ holds_registers P run p.config.task) (ap (λ (j : Instr). j.statement) (plan_instr P run p f i))

-- what is taken is what the definitions plan
pub plan_follows : (P : Program) (run : Seen) (p : Plan) → Fits P run → IsPlan P run p → p.instr.cells ≡ length P.cells
    → completed run.cells (history run) p.config.task p.action ≡ planned P (history run) p.config.task (loaded (completed run.cells (history run) p.config.task p.action))
plan_follows P run p f i n =
    let H = history run in
    let t = p.config.task in
    let c = situation P t H in
    let s = (instr_at P c.line).statement in
    let same : completed run.cells H t p.action ≡ completed P.cells H t (action_of P.cells t 1 c.regs zero_ℤ s) =
    ap₂ (λ (cells : Cells) (a : Action). completed cells H t a) f.cells (plan_action P run p f i n)
    in
    same ∙ taken_planned P.cells H t c.regs s ∙ ap (λ a. planned P H t (loaded a)) (sym same)

-- the plan's event is the next of its task, as the definitions compute it
pub plan_next : (P : Program) (run : Seen) (p : Plan) → Fits P run → IsPlan P run p → p.instr.cells ≡ length P.cells → outcomes.event_of run p ≡ next_event P (history run) p.config.task
plan_next P run p f i n =
    let H = history run in
    let t = p.config.task in
    let c = situation P t H in
    let s = (instr_at P c.line).statement in
    let same : completed run.cells H t p.action ≡ completed P.cells H t (action_of P.cells t 1 c.regs zero_ℤ s) =
    ap₂ (λ (cells : Cells) (a : Action). completed cells H t a) f.cells (plan_action P run p f i n)
    in
    ap (λ (a : Action). record { task = t; action = a }) (same ∙ taken_next P.cells H t c.regs s)

-- ---- it fits the core

starts_pending : (cells : Cells) (t : Name) (acts : List Action) (a : Action) → Continues cells t acts a → (is_start a ≡ true) ↔ (acts ≡ [])
starts_pending cells t acts a k = (λ h. subst (λ b. Continues cells t acts b) (start_only a h) k, λ e. at (begun cells t acts a k) e)
  where
    at : (a ≡ Start) ⊎ (IsRunning acts) → acts ≡ [] → is_start a ≡ true
    at b e = ⊎_elim (λ s. ap is_start s) (λ r. absurd (subst IsRunning e r)) b

abbrev is_close : Action → Bool
is_close Close = true
is_close _ = false

close_only : (a : Action) → is_close a ≡ true → a ≡ Close
close_only Start h = absurd (false≢true h)
close_only (Let r x) h = absurd (false≢true h)
close_only (Load r c x) h = absurd (false≢true h)
close_only (Store c x) h = absurd (false≢true h)
close_only (Print x) h = absurd (false≢true h)
close_only (Spawn s) h = absurd (false≢true h)
close_only (Wait items) h = absurd (false≢true h)
close_only Open h = absurd (false≢true h)
close_only Close h = refl
close_only (Test b) h = absurd (false≢true h)
close_only End h = absurd (false≢true h)
close_only Fault h = absurd (false≢true h)

-- the action that was planned differs from the definitions' by a child's name alone
pub planned_alike : {B : Type 0} (g : Action → B) (P : Program) (run : Seen) (p : Plan) → Fits P run → IsPlan P run p → p.instr.cells ≡ length P.cells
    → ((n m : ℕ) (body : ℕ) (args : List ℤ) (items : List Item) (deferred : Bool) → g (Spawn (record { child = child p.config.task n; body = body; args = args; items = items; deferred = deferred })) ≡ g (Spawn (record { child = child p.config.task m; body = body; args = args; items = items; deferred = deferred })))
    → g p.action ≡ g (planned P (history run) p.config.task zero_ℤ)
planned_alike g P run p f i n alike =
    let H = history run in
    let t = p.config.task in
    let c = situation P t H in
    ap g (plan_action P run p f i n)
    ∙ numbered_alike g P.cells t 1 (suc (spawn_count (own t H))) c.regs zero_ℤ (alike 1 (suc (spawn_count (own t H)))) (instr_at P c.line).statement

pub plan_fits : (P : Program) (run : Seen) (p : Plan) → Fits P run → IsPlan P run p → has_ended run p.config.task ≡ false → p.instr.cells ≡ length P.cells → outcomes.Fits run p
plan_fits P run p f i going n =
    let H = history run in
    let t = p.config.task in
    let a = planned P H t zero_ℤ in
    let fits : Continues P.cells t (own t H) a = what_fits P f.well_formed H f.legal t zero_ℤ going in
    let starts : is_start p.action ≡ is_start a = planned_alike is_start P run p f i n (λ k m body args items deferred. refl) in
    let closes : is_close p.action ≡ is_close a = planned_alike is_close P run p f i n (λ k m body args items deferred. refl) in
    let when = starts_pending P.cells t (own t H) a fits in
    record {
      cells = n ∙ ap length (sym f.cells);
      starts = λ here. (λ h. when.0 (sym starts ∙ h), λ e. starts ∙ when.1 e);
      closes = λ here e. (subst (Continues P.cells t (own t H)) (close_only a (sym closes ∙ ap is_close e)) fits).1;
    }

-- ---- what blocks the planned action of the task

pub known_refusal : (b c : Bool) (o : Option Hindrance) → b ≡ true → c ≡ false → ◌≡◌ {A = Option Refusal} (cond (not b) (Some NoSuchTask) (cond c (Some Ended) (option_map By o))) (option_map By o)
known_refusal true false o e f = refl
known_refusal true true o e f = absurd (false≢true (sym f))
known_refusal false c o e f = absurd (false≢true e)

pub refusal_planned : (P : Program) (run : Seen) (p : Plan) → Fits P run → IsPlan P run p → p.instr.cells ≡ length P.cells → is_spawned (history run) p.config.task ≡ true → has_ended run p.config.task ≡ false
    → refusal_of P (history run) p.config.task ≡ option_map By (hindrance_of run p)
refusal_planned P run p f i n there going =
    let H = history run in
    let t = p.config.task in
    known_refusal (is_spawned H t) (list_any (ends t) H) (in_the_way H t (planned P H t zero_ℤ)) there going
    ∙ ap (option_map By) (sym (planned_alike (in_the_way H t) P run p f i n (λ k m body args items deferred. refl)))

-- what refuses the plan of a task that goes on is its hindrance
pub refusal_of_plan : (P : Program) (run : Seen) (t : Name) (p : Plan) → Fits P run → IsPlanOf P run t p → refusal_of P (history run) t ≡ option_map By (hindrance_of run p)
refusal_of_plan P run t p f plan =
    ap (refusal_of P (history run)) (sym plan.of_task)
    ∙ refusal_planned P run p f (record { here = plan.current.here; instr = plan.instr }) (plan.fits.cells ∙ ap length f.cells) plan.current.spawned plan.current.going

-- the plan of the least task that can step
abbrev pub IsReadyPlan : Program → Seen → Plan → Type 0
IsReadyPlan P run p = IsPlanOf P run p.config.task p × (least_ready P (history run) ≡ Some p.config.task)

pub plan_ready : (P : Program) (run : Seen) (t : Name) (p : Plan) → IsPlanOf P run t p → least_ready P (history run) ≡ Some t → IsReadyPlan P run p
plan_ready P run t p plan l = (record { of_task = refl; current = plan.current; instr = plan.instr; fits = plan.fits }, l ∙ ap Some (sym plan.of_task))

pub nothing_by : (o : Option Hindrance) → option_map By o ≡ None → o ≡ None
nothing_by None e = refl
nothing_by (Some h) e = cc

-- a test of nothing being in the way
pub none_in_way : (b : Bool) (o : Option Hindrance) → (b ≡ true) ↔ (o ≡ None) → is_none (option_map By o) ≡ b
none_in_way true None c = refl
none_in_way true (Some h) c = cc (c.0 refl)
none_in_way false None c = absurd (false≢true (c.1 refl))
none_in_way false (Some h) c = refl

-- a task can step exactly where nothing is in the way of its plan
pub can_by_plan : (P : Program) (run : Seen) (t : Name) (p : Plan) (b : Bool) → Fits P run → IsPlanOf P run t p → (b ≡ true) ↔ (hindrance_of run p ≡ None) → can_step P (history run) t ≡ b
can_by_plan P run t p b f plan clear = ap is_none (refusal_of_plan P run t p f plan) ∙ none_in_way b (hindrance_of run p) clear

-- ---- a task that isn't over is at a statement

module _ (P : Program) (f : IsFollowed P) (i : Instr) (c : Place) (t : Name) (n : ℕ) (x : ℤ) where
  -- the step goes on to a line, unless it ends the task
  abbrev GoesOn : Action → Type 0
  GoesOn a = is_end a ≡ false → IsPosition P (moved i c a).line

  load_goes : (r : ℕ) (o : Option ℕ) → IsPosition P i.next → GoesOn (or_fault o (λ d. Load r d x))
  load_goes r None p h = absurd (false≢true (sym h))
  load_goes r (Some d) p h = p

  store_goes : (y : ℤ) (o : Option ℕ) → IsPosition P i.next → GoesOn (or_fault o (λ d. Store d y))
  store_goes y None p h = absurd (false≢true (sym h))
  store_goes y (Some d) p h = p

  items_go : (g : List Item → Action) (o : Option (List Item)) → ((is : List Item) → GoesOn (g is)) → GoesOn (items_or_fault o g)
  items_go g None p h = absurd (false≢true (sym h))
  items_go g (Some is) p h = p is h

  test_goes : (b : Bool) → IsPosition P i.next → IsPosition P i.otherwise → GoesOn (Test b)
  test_goes true p q h = p
  test_goes false p q h = q

  goes_on : (s : Statement) → (is_last s ≡ false → IsPosition P i.next) → (is_last s ≡ false → IsPosition P i.otherwise) → GoesOn (action_of P.cells t n c.regs x s)
  goes_on DoStart p q h = p refl
  goes_on (DoLet r a) p q h = p refl
  goes_on (DoCompute r a o b) p q h = p refl
  goes_on (DoLoad r a) p q h = load_goes r (cell_at P.cells (value c.regs a)) (p refl) h
  goes_on (DoStore a b) p q h = store_goes (value c.regs b) (cell_at P.cells (value c.regs a)) (p refl) h
  goes_on (DoPrint a) p q h = p refl
  goes_on (DoTask body args depends k) p q h =
      items_go (λ is. Spawn (record { child = child t n; body = body; args = map (value c.regs) args; items = is; deferred = is_deferred c.regs k })) (items_at P.cells c.regs depends) (λ is z. p refl) h
  goes_on (DoTaskwait depends) p q h = items_go Wait (items_at P.cells c.regs depends) (λ is z. p refl) h
  goes_on DoTaskgroup p q h = p refl
  goes_on DoEndTaskgroup p q h = p refl
  goes_on (DoTest k) p q h = test_goes (is_met c.regs k) (p refl) (q refl) h
  goes_on DoEnd p q h = absurd (false≢true (sym h))

starts_stands : (P : Program) (n : ℕ) → IsFollowed P → Begins P n → IsPosition P n
starts_stands P n f b = f.stands n (at (instr_at P n).statement b)
  where
    at : (s : Statement) → is_begin s ≡ true → is_last s ≡ false
    at DoStart b = refl
    at (DoLet r a) b = refl
    at (DoCompute r a o c) b = refl
    at (DoLoad r a) b = refl
    at (DoStore a c) b = refl
    at (DoPrint a) b = refl
    at (DoTask body args depends c) b = refl
    at (DoTaskwait depends) b = refl
    at DoTaskgroup b = refl
    at DoEndTaskgroup b = refl
    at (DoTest c) b = refl
    at DoEnd b = absurd (false≢true b)

-- a task's own event moves it on from where it was
pub own_moves : (P : Program) (t : Name) (v : Event) (H : History) → LegalFor P (v ∷ H) → is_of t v ≡ true → situation P t (v ∷ H) ≡ moved (instr_at P (situation P t H).line) (situation P t H) v.action
own_moves P t v H l e =
    let not_self : spawns t v ≡ false = not_again P.cells H l.0.0 v l.0.1 t (subst (IsSpawned H) (same_true v.task t e) (may_spawned P.cells H v l.0.0 l.0.1)) in
    ap (λ o. config P (called_by P.root_line o).line (called_by P.root_line o).args (own t (v ∷ H))) (ap (λ b. cond b (Some v.action) (spawn_of t H)) not_self)
    ∙ ap (config P (called P t H).line (called P t H).args) (own_mine t v H e)

-- a task that has acted and isn't over
acted_stands : (P : Program) (t : Name) (H : History) → IsFollowed P → LegalFor P H → own t H ≢ [] → list_any (ends t) H ≡ false → IsPosition P (situation P t H).line
acted_stands P t [] f l n o = absurd (n refl)
acted_stands P t (v ∷ H) f l n o = at (is_of t v) refl (λ m. acted_stands P t H f (l.0.0, l.1.0) m (or_parts (ends t v) (list_any (ends t) H) o).1)
  where
    at : (b : Bool) → is_of t v ≡ b → (own t H ≢ [] → IsPosition P (situation P t H).line) → IsPosition P (situation P t (v ∷ H)).line
    at false e rest =
        let m : own t H ≢ [] = λ z. n (own_other t v H e ∙ z) in
        let s = not_again P.cells H l.0.0 v l.0.1 t (acted_spawned P.cells H t l.0.0 m) in
        subst (λ c. IsPosition P c.line) (sym (situation_other P t v H e s)) (rest m)
    at true e rest =
        let same = same_true v.task t e in
        let c = situation P t H in
        let a = v.action in
        let going : is_end a ≡ false = false_from_ne_true (is_end a) (λ z. both_ways (ends t v) (or_parts (ends t v) (list_any (ends t) H) o).0 (and_from (is_of t v) (is_end a) e z)) in
        let follows : a ≡ planned P H t (loaded a) = subst (λ u. a ≡ planned P H u (loaded a)) same l.1.1 in
        let i = instr_at P c.line in
        let there : IsPosition P (moved i c a).line =
        subst (λ b. is_end b ≡ false → IsPosition P (moved i c b).line) (sym follows)
        (goes_on P f i c t (suc (spawn_count (own t H))) (loaded a) i.statement (f.next c.line) (f.otherwise c.line)) going
        in
        subst (λ (k : Place). IsPosition P k.line) (sym (own_moves P t v H l e)) there

pub stands_somewhere : (P : Program) (t : Name) (H : History) → WellFormed P → IsFollowed P → LegalFor P H → list_any (ends t) H ≡ false → IsPosition P (situation P t H).line
stands_somewhere P t H w f l o = at (own t H) refl
  where
    at : (acts : List Action) → own t H ≡ acts → IsPosition P (situation P t H).line
    at [] e =
        let begins : Begins P (called P t H).line = subst (λ acts. Placed P w.depth acts (config P (called P t H).line (called P t H).args acts)) e (stands P w H t l) in
        subst (λ acts. IsPosition P (config P (called P t H).line (called P t H).args acts).line) (sym e) (starts_stands P (called P t H).line f begins)
    at (a ∷ acts) e = acted_stands P t H f l (λ z. cc (sym e ∙ z)) o

-- a line at which a task can be is one of the program
pub position_within : (P : Program) (n lines : ℕ) → lines ≡ length P.lines → lines ≤ 65537 → IsPosition P n → n < 65537
position_within P n lines count few stands = at (nat_lt n 65537) refl
  where
    at : (b : Bool) → nat_lt n 65537 ≡ b → n < 65537
    at true e = grind (arith, nat_tests)
    at false e =
        let above : 65537 ≤ n = grind (arith, nat_tests) in
        absurd (stands (get_or_past P.lines n no_instr (omega (arith, above, count, few))))
