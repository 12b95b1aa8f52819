use Rattle.std.proofs.Common.{◌+◌, arith, take}
use Rattle.tb_steps.specs.Scans.{history_of}
use Rattle.tb_races.specs.Racing.{races}
use Rattle.tb_order.proofs.AnswerLemmas.{counted_more}
use Rattle.tb_order.proofs.racing.count_races.Goals as goal

pub loop-at-preserved : goal.loop-at-preserved
loop-at-preserved c =
    let l = c.loop-at in
    let entries = c.args.entries.now in
    let more = counted_more (races (history_of (take (l.at + 1) entries))) (races (history_of (take l.at entries))) c.in_ok-race.race c.in_ok-race.ensures.race in record {
      walk = c.in_ok-race.ensures.walk;
      count = omega (arith, l.invariant.count, c.count_of-count.ensures.count, more);
      few = omega (arith, l.invariant.few, c.count_of-count.ensures.one);
    }
