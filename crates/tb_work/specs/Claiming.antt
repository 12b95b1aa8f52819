-- What a seat gets that asks for work, and what that leaves of the run.
use Rattle.std.specs.Prelude.{◌≡◌, List, [], ◌∷◌, length, ⊤}
use Rattle.tb_model.specs.Facts.{History}
use Rattle.tb_model.specs.Names.{Name}
use Rattle.tb_model.specs.Program.{Program}
use Rattle.tb_plan.specs.declared.planned.Plan.{Plan}
use Rattle.tb_plan.specs.declared.strip.Strip.{Strip}
use Rattle.tb_plan.specs.Bursts.{IsBurst}
use Rattle.tb_read.specs.Strips.{IsStripOf}
use Rattle.tb_next.specs.declared.work.Work.{Work}
use Rattle.tb_next.specs.declared.claim.Claim.{Claim}
use Rattle.tb_next.specs.declared.claim.Claim.TheVariants.{Work as Works}
use Rattle.tb_live.specs.Session.{Session}
use Rattle.tb_next.specs.declared.offer.Offer.{Offer}
use Rattle.tb_next.specs.declared.offer.Offer.TheVariants.{Task}
use Rattle.tb_next.specs.declared.situated.Situated.{Situated}
use Rattle.tb_live.specs.Working.{IsSituated, IsWork}

-- the program's statement for the task, in its situation after some history, and the private ones
-- around it
pub record IsWorkFor (P : Program) (t : Name) (w : Work) : Type 0 where
  pub line : w.instr.line ≡ w.config.at
  pub history : History
  pub work : IsWork P history t w

abbrev pub IsClaim : Program → Claim → Type 0
IsClaim P (Works w) = IsWorkFor P w.config.task w
IsClaim P _ = ⊤

-- the program's statement for the task, in its situation after some history
pub record IsTask (P : Program) (n : Situated) : Type 0 where
  pub line : n.instr.line ≡ n.config.at
  pub history : History
  pub situated : IsSituated P history n.config.task n

-- the plan of the task's statement alone, or with those of the private statements around it that follow
pub data ArePlansOf : Program → Situated → List Plan → Type 0 where
  alone : (P : Program) (n : Situated) (p : Plan) → p.instr ≡ n.instr → p.config ≡ n.config → ArePlansOf P n (p ∷ [])
  burst : (P : Program) (n : Situated) (s : Strip) (ps : List Plan) → IsStripOf P n.config.at s → IsBurst 63 s n.instr n.config ps → ArePlansOf P n ps

abbrev pub IsOffer : Program → Offer → Type 0
IsOffer P (Task n) = IsTask P n
IsOffer P _ = ⊤

-- the journal, the breakpoints and the count of seats are as they were
pub record Keeps (old new : Session) : Type 0 where
  pub program : new.program ≡ old.program
  pub limit : new.limit ≡ old.limit
  pub journal : new.journal ≡ old.journal
  pub breakpoints : new.control.breakpoints ≡ old.control.breakpoints
  pub seats : length new.control.claims ≡ length old.control.claims
