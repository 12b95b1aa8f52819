-- The step of a task that was found as the least that can take one.
use Rattle.std.proofs.Common.{◌≡◌, ◌∙◌, ℕ, List, reverse, refl, sym, Option, Some}
use Rattle.std.specs.Prelude.{Result, OnErr, OnOk}
use Rattle.tb_model.specs.declared.entry.Entry.{Entry}
use Rattle.tb_model.specs.declared.step_id.StepId.{StepId}
use Rattle.tb_model.specs.Names.{Name}
use Rattle.tb_model.specs.Program.{Program}
use Rattle.tb_plan.specs.declared.planned.Plan.{Plan}
use Rattle.tb_core.specs.declared.step_refusal.StepRefusal.{StepRefusal}
use Rattle.tb_core.specs.Outcomes.{IsCurrent}
use Rattle.tb_core.specs.Seen.{Seen, history}
use Rattle.tb_next.specs.declared.coming.Coming.{Coming}
use Rattle.tb_control.specs.declared.control.Control.{Control}
use Rattle.tb_next.specs.Floor.{IsCarried, IsFloor}
use Rattle.tb_live.specs.Moves.{LeastStepsFor, for_least}
use Rattle.tb_live.specs.Entering.{Enters}
use Rattle.tb_next.specs.Plans.{IsClear, IsLeastComing, IsStepOf}
use Rattle.tb_live.specs.Session.{Session}
use Rattle.tb_live.specs.Soundness.{IsSound, IsLawful}
use Rattle.tb_next.proofs.ComingLemmas.{least_plan, next_of, way_so}
use Rattle.tb_live.proofs.FloorAfterLemmas.{floor_after}
use Rattle.tb_next.proofs.FloorStepLemmas.{plan_clear}
use Rattle.tb_live.proofs.RunLemmas.{shown}
use Rattle.tb_live.proofs.StepLemmas.{Keeps, live_least}

module _ (seat : ℕ) (P : Program) (limit : ℕ) (entries : List Entry) (before : Control) (run : Seen)
    (sound : IsSound P limit (reverse entries) run) (r : Name × Coming) (ready : IsLeastComing P run (Some r)) where
  pub clear_found : IsClear run r.0 r.1
  clear_found =
      let k = ready.0 in
      let plan = least_plan P run r.0 r.1 k ready.1 in
      record {
        next = next_of P run r.0 r.1 k;
        clear = sym (way_so run r.0 r.1 k.plan k.says) ∙ plan_clear P run k.plan sound.fits plan;
      }

  module _ (pushed : List Entry) (after : Control) (new : Seen) (result : Result StepId StepRefusal)
      (entered : (p : Plan) → IsStepOf r.0 r.1 p → IsCurrent run p → Enters limit seat run p new entries pushed before after result) where
    pub keeps_found : IsLawful (reverse entries) before → Keeps P limit pushed after new
    keeps_found lawful =
        let k = ready.0 in
        (live_least seat P limit entries before run (shown P limit entries before) refl (sound, lawful) k.plan (least_plan P run r.0 r.1 k ready.1)
        pushed after new result (entered k.plan k.says k.of_task.current)).keeps

    pub answer_found : (s : Session) → shown P limit entries before ≡ s → IsLawful (reverse entries) before → LeastStepsFor seat s (shown P limit pushed after) (for_least result)
    answer_found s shows lawful =
        let k = ready.0 in
        (live_least seat P limit entries before run s shows (sound, lawful) k.plan (least_plan P run r.0 r.1 k ready.1)
        pushed after new result (entered k.plan k.says k.of_task.current)).answer

    pub floor_found : (old now : Option Name) → OnOk result (IsCarried (history new) old now) → OnErr result (now ≡ old) → IsFloor P (history run) old → IsFloor P (history new) now
    floor_found old now carried stays floor =
        let k = ready.0 in
        let plan = least_plan P run r.0 r.1 k ready.1 in
        floor_after limit seat P run new k.plan.config.task k.plan entries pushed before after result sound.fits plan.0
        (entered k.plan k.says k.of_task.current) old now carried stays floor
