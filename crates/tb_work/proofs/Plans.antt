-- The plans of a task that was offered.
use Rattle.std.proofs.Common.{◌≡◌, List, [], ◌∷◌, ◌++◌, ap, sym, ◌∙◌, subst, IfOk, Result, Ok, Err}
use Rattle.std.specs.Prelude.{Vec}
use Rattle.std.specs.declared.alloc.Global.{Global}
use Rattle.tb_model.specs.Program.{Program}
use Rattle.tb_next.specs.declared.situated.Situated.{Situated}
use Rattle.tb_plan.specs.declared.planned.Plan.{Plan}
use Rattle.tb_plan.specs.declared.strip.Strip.{Strip}
use Rattle.tb_plan.specs.Bursts.{IsBurst}
use Rattle.tb_read.specs.Strips.{IsStripOf}
use Rattle.tb_work.specs.Claiming.{ArePlansOf, alone, burst}

-- of its statement alone
pub planned_alone : (P : Program) (n : Situated) (p : Plan) (old new : List Plan) → old ≡ [] → new ≡ old ++ p ∷ [] → p.instr ≡ n.instr → p.config ≡ n.config → ArePlansOf P n new
planned_alone P n p old new none pushed i c = subst (ArePlansOf P n) (sym (pushed ∙ ap (λ ps. ps ++ p ∷ []) none)) (alone P n p i c)

-- of the private ones that follow it too
pub planned_on : {E : Type 0} (P : Program) (n : Situated) (s : Strip) (r : Result (Vec Plan Global) E) → IsStripOf P n.config.at s → IfOk r (λ plans. IsBurst 63 s n.instr n.config plans.items) → IfOk r (λ plans. ArePlansOf P n plans.items)
planned_on P n s (Ok plans) strip h = burst P n s plans.items strip h
planned_on P n s (Err e) strip h = h
