use Rattle.std.proofs.Common.{ℕ, ◌<◌, get_or}
use Rattle.tb_work.specs.declared.ended.Ended.TheVariants.{Well}
use Rattle.tb_work.specs.Answering.{IsAnswer}
use Rattle.tb_work.specs.Ending.{IsEnding}
use Rattle.tb_work.specs.Receipts.{Seated}
use Rattle.tb_work.proofs.going.all_ended_well.Given as goal

-- the seats so far ended well
abbrev pub invariant-loop-seat : goal.invariant-loop-seat
invariant-loop-seat g l =
    (k : ℕ) (d : Seated) → k < l.seat-index
    → IsAnswer g.N.Team.program g.N.Team.limit g.N.Team.breakpoints g.N.Team.seats g.N.Team.begun (IsEnding (get_or l.seats k d).number Well)
