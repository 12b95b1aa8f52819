use Rattle.std.proofs.Common.{rules, ◌≡◌, ◌<◌, length, get_or, IsTrue}
use Rattle.tb_work.specs.declared.ended.Ended.TheVariants.{Well}
use Rattle.tb_work.specs.Answering.{IsAnswer}
use Rattle.tb_work.specs.Ending.{IsEnding}
use Rattle.tb_work.specs.Receipts.{Seated}
use Rattle.tb_work.proofs.Endings.{each_more}
use Rattle.tb_work.proofs.going.all_ended_well.Goals as goal

pub loop-seat-preserved : goal.loop-seat-preserved
loop-seat-preserved g c =
    let within : c.loop-seat.seat-index < length c.args.seats.now = search rules in
    let here : c.seat-item.result ≡ get_or c.args.seats.now c.loop-seat.seat-index c.seat-item.result = search rules in
    let well : IsTrue c.has_ended_well.result = search rules in
    each_more (λ (s : Seated). IsAnswer g.N.Team.program g.N.Team.limit g.N.Team.breakpoints g.N.Team.seats g.N.Team.begun (IsEnding s.number Well)) c.args.seats.now c.loop-seat.seat-index
    c.seat-item.result within here c.loop-seat.invariant (c.has_ended_well.ensures well)
