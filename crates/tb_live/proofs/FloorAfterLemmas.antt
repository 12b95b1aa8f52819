-- The search start after a step that is entered.
use Rattle.std.proofs.Common.{◌≡◌, ℕ, List, sym, subst, Option}
use Rattle.std.specs.Prelude.{Result, Ok, Err, OnOk, OnErr}
use Rattle.tb_model.specs.declared.entry.Entry.{Entry}
use Rattle.tb_model.specs.declared.step_id.StepId.{StepId}
use Rattle.tb_model.specs.Names.{Name}
use Rattle.tb_model.specs.Program.{Program}
use Rattle.tb_plan.specs.declared.planned.Plan.{Plan}
use Rattle.tb_core.specs.declared.step_refusal.StepRefusal.{StepRefusal}
use Rattle.tb_core.specs.Seen.{Seen}
use Rattle.tb_core.specs.Seen as core
use Rattle.tb_control.specs.declared.control.Control.{Control}
use Rattle.tb_next.specs.Floor.{IsFloor, IsCarried}
use Rattle.tb_next.specs.Plans.{IsPlanOf, IsNative}
use Rattle.tb_live.specs.Entering.{Enters}
use Rattle.tb_next.specs.Fitting.{Fits}
use Rattle.tb_next.proofs.FloorStepLemmas.{floor_stepped}
use Rattle.tb_next.proofs.NativeLemmas.{native_plan}

-- the search start stays where only memory is taken
pub floor_readied : (P : Program) (run new : Seen) (old now : Option Name) → new ≡ run → now ≡ old → IsFloor P (core.history run) old → IsFloor P (core.history new) now
floor_readied P run new old now same kept floor = subst (λ (z : Seen). IsFloor P (core.history z) now) (sym same) (subst (IsFloor P (core.history run)) (sym kept) floor)

pub floor_after : (limit seat : ℕ) (P : Program) (run new : Seen) (t : Name) (p : Plan) (entries pushed : List Entry) (before after : Control) (result : Result StepId StepRefusal) → Fits P run → IsPlanOf P run t p
    → Enters limit seat run p new entries pushed before after result → (old now : Option Name) → OnOk result (IsCarried (core.history new) old now) → OnErr result (now ≡ old) → IsFloor P (core.history run) old → IsFloor P (core.history new) now
floor_after limit seat P run new t p entries pushed before after (Ok i) f plan e old now carried stays floor =
    floor_stepped P run new t p i f plan e.0.steps old now carried floor
floor_after limit seat P run new t p entries pushed before after (Err r) f plan e old now carried stays floor =
    floor_readied P run new old now e.0 stays floor

-- the search start after a step of a plan of the program
pub floor_committed : (limit seat : ℕ) (P : Program) (run new : Seen) (p : Plan) (entries pushed : List Entry) (before after : Control) (result : Result StepId StepRefusal) → Fits P run → IsNative P run p
    → Enters limit seat run p new entries pushed before after result → (old now : Option Name) → OnOk result (IsCarried (core.history new) old now) → OnErr result (now ≡ old) → IsFloor P (core.history run) old → IsFloor P (core.history new) now
floor_committed limit seat P run new p entries pushed before after (Ok i) f native e old now carried stays floor =
    floor_stepped P run new p.config.task p i f (native_plan P run p f native e.0.steps.current.here) e.0.steps old now carried floor
floor_committed limit seat P run new p entries pushed before after (Err r) f native e old now carried stays floor =
    floor_readied P run new old now e.0 stays floor
