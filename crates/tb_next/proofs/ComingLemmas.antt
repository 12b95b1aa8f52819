-- What a task does next, by the plan of its next step.
use Rattle.std.proofs.Common.{◌≡◌, ◌<◌, ◌≤◌, ◌↔◌, suc, [], ◌∷◌, Bool, true, false, length, refl, sym, ap, ap₂, ◌∙◌, subst, arith, Option, Some, None, option_map}
use Rattle.std.specs.Prelude.{Result, Ok, Err, IfOk, IfSome}
use Rattle.std.proofs.lemmas.List.{length-map}
use Rattle.tb_model.specs.Names.{Name}
use Rattle.tb_model.specs.Facts.{History, is_of, own, is_spawned, prepend_if}
use Rattle.tb_model.specs.Hindrances.{By, Hindrance, can_step, in_the_way, least_ready, refusal_of}
use Rattle.tb_model.specs.Lines.{Departure}
use Rattle.tb_model.specs.Program.{Program, instr_at}
use Rattle.tb_plan.specs.declared.config.Config.{Config}
use Rattle.tb_plan.specs.declared.instr.Instr.{Instr}
use Rattle.tb_plan.specs.declared.planned.Plan.{Plan}
use Rattle.tb_plan.specs.Plans.{IsActionOf, instruction, line_behind, names_allowed}
use Rattle.tb_undo.specs.Standings.{Standing}
use Rattle.tb_core.specs.declared.step_refusal.StepRefusal.{StepRefusal}
use Rattle.tb_core.specs.Naming.{config_with}
use Rattle.tb_core.specs.Seen.{Seen, history}
use Rattle.tb_core.specs.Situation.{config_of}
use Rattle.tb_core.specs.Outcomes.{IsCurrent, IsKept, IsKeptBy, MayTake, has_ended, hindrance_of}
use Rattle.tb_core.proofs.ShownLemmas.{kept_by, open_takes}
use Rattle.tb_next.specs.declared.coming.Coming.{Coming}
use Rattle.tb_next.specs.Fitting.{Fits}
use Rattle.tb_next.specs.Plans.{IsComing, IsLeastComing, IsNext, IsStepOf}
use Rattle.tb_next.proofs.PlanLemmas.{IsReadyPlan, can_by_plan, plan_fits, plan_ready, refusal_of_plan}

-- ---- the statement at which a task is, evaluated for it

pub is_coming : (P : Program) (run : Seen) (t : Name) (k : Standing) (i : Instr) (m : Coming) → Fits P run → is_spawned (history run) t ≡ true → has_ended run t ≡ false → config_of run t ≡ config_with t k
    → instruction i ≡ instr_at P k.at → i.line ≡ k.at → i.cells ≡ length P.cells → IsActionOf i t k.regs m.action → names_allowed i.cells m.action ≡ true
    → m.at ≡ k.at → m.steps ≡ k.steps → ((c : Config) → c.at ≡ k.at → m.to ≡ line_behind i c m.action) → IsComing P run t m
is_coming P run t k i m f there going here instr line cells made allowed at steps to =
    let p : Plan = record { instr = i; config = config_with t k; action = m.action; at_one_line = line; evaluated = made; allowed = allowed } in
    record {
      plan = p;
      of_task = record {
        of_task = refl;
        current = record { spawned = there; going = going; here = sym here };
        instr = instr;
        fits = plan_fits P run p f (record { here = sym here; instr = instr }) going cells;
      };
      says = record { task = refl; action = refl; at = sym at; to = sym (to (config_with t k) refl); steps = sym steps };
    }

-- ---- whether it may do it now

pub way_so : (run : Seen) (t : Name) (m : Coming) (p : Plan) → IsStepOf t m p → hindrance_of run p ≡ in_the_way (history run) t m.action
way_so run t m p says = ap₂ (in_the_way (history run)) says.task says.action

module _ (P : Program) (run : Seen) (t : Name) (m : Coming) (k : IsComing P run t m) where
  pub is_there : is_spawned (history run) t ≡ true
  is_there = subst (λ u. is_spawned (history run) u ≡ true) k.says.task k.of_task.current.spawned

  pub goes_on : has_ended run t ≡ false
  goes_on = subst (λ u. has_ended run u ≡ false) k.says.task k.of_task.current.going

  pub can_by_coming : (b : Bool) → Fits P run → (b ≡ true) ↔ (in_the_way (history run) t m.action ≡ None) → can_step P (history run) t ≡ b
  can_by_coming b f clear =
      can_by_plan P run t k.plan b f k.of_task
      (subst (λ (o : Option Hindrance). (b ≡ true) ↔ (o ≡ None)) (sym (way_so run t m k.plan k.says)) clear)

  pub clear_of : Fits P run → in_the_way (history run) t m.action ≡ None → refusal_of P (history run) t ≡ None
  clear_of f clear = refusal_of_plan P run t k.plan f k.of_task ∙ ap (option_map By) (way_so run t m k.plan k.says ∙ clear)

  pub next_of : IsNext run t m
  next_of = record { plan = k.plan; says = k.says; fits = k.of_task.fits; current = k.of_task.current }

-- the refusal of a plan by what blocks its task's action
pub kept_of : (run : Seen) (t : Name) (m : Coming) (p : Plan) (e : StepRefusal) → IsStepOf t m p → IsCurrent run p → IsKeptBy run t m.action e → IsKept run p e
kept_of run t m p e says current k =
    kept_by run p e current (record { hindrance = k.hindrance; found = way_so run t m p says ∙ k.found; named = k.named })

-- the least task by its name
pub least_named : {E : Type 0} (P : Program) (run : Seen) (t : Name) (m : Coming) (r : Result (Option (Name × Coming)) E) → IsComing P run t m → least_ready P (history run) ≡ Some t → IfOk r (λ o. o ≡ Some (t, m)) → IfOk r (IsLeastComing P run)
least_named P run t m (Ok o) k l e = subst (IsLeastComing P run) (sym e) (k, l)
least_named P run t m (Err x) k l e = tt

-- the plan of the least task that can step
pub least_plan : (P : Program) (run : Seen) (t : Name) (m : Coming) (k : IsComing P run t m) → least_ready P (history run) ≡ Some t → IsReadyPlan P run k.plan
least_plan P run t m k l = plan_ready P run t k.plan k.of_task l

-- ---- it is taken

module _ (run : Seen) (t : Name) (m : Coming) (k : IsNext run t m) where
  pub may_go : in_the_way (history run) t m.action ≡ None → length run.steps < run.limit → MayTake run t m.action
  may_go clear room =
      subst (λ u. MayTake run u m.action) k.says.task
      (subst (λ a. MayTake run k.plan.config.task a) k.says.action
      (open_takes run k.plan k.fits (record { current = k.current; clear = way_so run t m k.plan k.says ∙ clear; room = room })))

  -- its steps are some of the history's
  pub few_steps : m.steps ≤ length run.steps
  few_steps =
      let here = ap (λ (c : Config). c.steps) k.current.here in
      omega (arith, here, k.says.steps, within k.plan.config.task (history run), length-map run.steps (λ (d : Departure). d.event))
    where
      within : (u : Name) (H : History) → length (own u H) ≤ length H
      within u [] = omega arith
      within u (w ∷ H) = at (is_of u w) (within u H)
        where
          at : (b : Bool) → length (own u H) ≤ length H → length (prepend_if b w.action (own u H)) ≤ suc (length H)
          at true h = omega arith
          at false h = omega arith

  pub next_there : is_spawned (history run) t ≡ true
  next_there = subst (λ u. is_spawned (history run) u ≡ true) k.says.task k.current.spawned

  pub next_goes : has_ended run t ≡ false
  next_goes = subst (λ u. has_ended run u ≡ false) k.says.task k.current.going

-- where one was found it is the least
pub if_some : {E : Type 0} (P : Program) (run : Seen) (result : Result (Option (Name × Coming)) E) → IfOk result (IsLeastComing P run)
    → IfOk result (λ found. IfSome found (λ r. IsLeastComing P run (Some r)))
if_some P run (Ok None) least = tt
if_some P run (Ok (Some r)) least = least
if_some P run (Err e) least = tt
