-- A plan of the program: what its event is, and what is said of its refusal.
use Rattle.std.proofs.Common.{◌≡◌, ◌≢◌, ℕ, List, length, refl, sym, ap, ◌∙◌, subst, Option, Some, None, option_map, ◌∷◌, ap₂, ℤ}
use Rattle.std.specs.Prelude.{Result, Ok, Err, IfOk}
use Rattle.std.proofs.lemmas.Bool.{both_ways}
use Rattle.tb_model.specs.Names.{Name}
use Rattle.tb_model.specs.Facts.{is_spawned}
use Rattle.tb_model.specs.Program.{Program, instr_at, Instr, Config as Place, IsNext, LegalFor, situation, moved}
use Rattle.tb_model.specs.Hindrances.{By, next_event}
use Rattle.tb_plan.specs.Plans.{instruction, line_behind}
use Rattle.tb_plan.specs.declared.planned.Plan.{Plan}
use Rattle.tb_core.specs.declared.step_refusal.StepRefusal.{StepRefusal}
use Rattle.tb_core.specs.declared.step_refusal.StepRefusal.TheVariants.{Memory, NoSuchTask, Ended, Full, Stale}
use Rattle.tb_core.specs.Seen.{Seen}
use Rattle.tb_core.specs.Seen as core
use Rattle.tb_core.specs.Situation.{config_of}
use Rattle.tb_core.specs.Outcomes.{event_of, has_ended, hindrance_of, IsKept}
use Rattle.tb_core.specs.Outcomes as outcomes
use Rattle.tb_next.specs.Plans.{IsPlanOf, IsNative, IsRefusalTo, IsRefusalOf, IsTold}
use Rattle.tb_next.specs.Fitting.{Fits}
use Rattle.tb_next.proofs.PlanLemmas.{IsPlan, plan_fits, plan_next, refusal_of_plan, stands_at, holds_registers, plan_instr, plan_follows, moved_taken, own_moves}
use Rattle.tb_model.specs.Legal.{Cells, MayFollow}
use Rattle.tb_model.proofs.TestLemmas.{same_refl}
use Rattle.tb_plan.specs.declared.config.Config.{Config}

-- ---- the event of a plan

pub next_so : (P : Program) (run : Seen) (p : Plan) → Fits P run → IsPlan P run p → p.instr.cells ≡ length P.cells → MayFollow run.cells (core.history run) (event_of run p) → IsNext P (core.history run) (event_of run p)
next_so P run p f i n m = record {
  may = subst (λ (cells : Cells). MayFollow cells (core.history run) (event_of run p)) f.cells m;
  follows = plan_follows P run p f i n;
}

pub line_fits : (P : Program) (run : Seen) (p : Plan) → Fits P run → IsPlan P run p → LegalFor P (event_of run p ∷ core.history run) → line_behind p.instr p.config p.action ≡ (situation P p.config.task (event_of run p ∷ core.history run)).line
line_fits P run p f i l =
    let H = core.history run in
    let t = p.config.task in
    let v = event_of run p in
    let c = situation P t H in
    let here : Rattle.tb_plan.specs.Plans.situation p.config ≡ c =
    ap (λ (k : Config). Rattle.tb_plan.specs.Plans.situation k) i.here
    ∙ ap₂ {C = Place} (λ (n : ℕ) (rs : List ℤ). record { line = n; regs = rs }) (stands_at P run t f) (holds_registers P run t)
    in
    ap₂ (λ (j : Instr) (k : Place). (moved j k p.action).line) (plan_instr P run p f i) here
    ∙ sym (moved_taken run.cells H t (instr_at P c.line) c p.action)
    ∙ ap (λ (k : Place). k.line) (sym (own_moves P t v H l (same_refl t)))

-- ---- a plan of the program

module _ (P : Program) (run : Seen) (p : Plan) (f : Fits P run) (native : IsNative P run p) where
  instr_so : instruction p.instr ≡ instr_at P p.config.at
  instr_so = native.program.instr ∙ ap (instr_at P) p.at_one_line

  is_plan_where : p.config ≡ config_of run p.config.task → IsPlan P run p
  is_plan_where here = record { here = here; instr = instr_so }

  fits_where : p.config ≡ config_of run p.config.task → outcomes.Fits run p
  fits_where here = plan_fits P run p f (is_plan_where here) native.going native.program.cells

  -- it fits the core, be it up to date or not
  pub native_fits : outcomes.Fits run p
  native_fits = record {
    cells = native.program.cells ∙ ap length (sym f.cells);
    starts = λ here. (fits_where here).starts here;
    closes = λ here. (fits_where here).closes here;
  }

  pub native_plan : p.config ≡ config_of run p.config.task → IsPlanOf P run p.config.task p
  native_plan here = record {
    of_task = refl;
    current = record { spawned = native.spawned; going = native.going; here = here };
    instr = instr_so;
    fits = native_fits;
  }

  pub native_next : p.config ≡ config_of run p.config.task → event_of run p ≡ next_event P (core.history run) p.config.task
  native_next here = plan_next P run p f (is_plan_where here) native.program.cells

-- ---- why it is refused

pub told_so : (P : Program) (run : Seen) (t : Name) (p : Plan) (e : StepRefusal) (o : Option StepRefusal) → Fits P run → IsPlanOf P run t p → IsKept run p e → IsTold e o → IsRefusalOf P run t o
told_so P run t p e None f plan k told = refusal_of_plan P run t p f plan ∙ ap (option_map By) (full_clear (subst (IsKept run p) told k))
  where
    full_clear : IsKept run p Full → hindrance_of run p ≡ None
    full_clear k = k.1
told_so P run t p e (Some r) f plan k told = at e r k told.0 told.1 told.2
  where
    mine : (e : StepRefusal) → IsKept run p e → (e ≢ Full) → (e ≢ Memory) → IsRefusalTo P run t e
    mine NoSuchTask k n m = absurd (both_ways (is_spawned (core.history run) p.config.task) k plan.current.spawned)
    mine Ended k n m = absurd (both_ways (has_ended run p.config.task) plan.current.going k.1)
    mine (Stale now) k n m = absurd (k.elsewhere (plan.current.here ∙ sym k.now_is))
    mine Memory k n m = absurd (m refl)
    mine Full k n m = absurd (n refl)
    mine _ k n m = refusal_of_plan P run t p f plan ∙ ap (option_map By) k.hindrance

    at : (e r : StepRefusal) → IsKept run p e → r ≡ e → (e ≢ Full) → (e ≢ Memory) → IsRefusalTo P run t r
    at e r k same n m = subst (IsRefusalTo P run t) (sym same) (mine e k n m)

pub told_result : {A : Type 0} (P : Program) (run : Seen) (t : Name) (p : Plan) (e : StepRefusal) (r : Result (Option StepRefusal) A) → Fits P run → IsPlanOf P run t p → IsKept run p e → IfOk r (IsTold e) → IfOk r (IsRefusalOf P run t)
told_result P run t p e (Ok o) f plan k told = told_so P run t p e o f plan k told
told_result P run t p e (Err x) f plan k told = told
