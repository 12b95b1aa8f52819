use Rattle.std.proofs.Common.{arith, ◌-◌, [], subst}
use Rattle.tb_plan.specs.Bursts.{IsFollower, Follow}
use Rattle.tb_plan.proofs.BurstLemmas.{burst_more, burst_all, none_follows, none_left}
use Rattle.tb_plan.proofs.burst.plan_burst.Goals as goal
use Rattle.tb_plan.proofs.burst.plan_burst.Goals.{else-loop-test, then-loop-test+in_ok-next+in-None}

pub loop-preserved : goal.loop-preserved
loop-preserved c =
    let follows = subst (IsFollower c.args.strip.now c.loop.last) c.in-Some.is c.in_ok-next.ensures in
    burst_more 63 c.loop.counter c.args.strip.now c.args.instr.now c.args.config.now c.loop.last c.in-Some.next c.loop.plans.items c.push.new.self.items c.loop-test.true c.in_ok-push-in-Some.ensures.items follows c.loop.invariant

pub returns : goal.returns
returns c =
    let last : Follow (63 - c.loop.counter) c.args.strip.now c.loop.last [] = elim c.loop-test.branch [
      | else-loop-test w ↦ none_left (63 - c.loop.counter) c.args.strip.now c.loop.last (omega (arith, w.loop-test))
      | then-loop-test+in_ok-next+in-None w ↦ none_follows (63 - c.loop.counter) c.args.strip.now c.loop.last (subst (IsFollower c.args.strip.now c.loop.last) w.in-None.is w.in_ok-next.ensures)
    ] in
    burst_all 63 c.loop.counter c.args.strip.now c.args.instr.now c.args.config.now c.loop.last c.loop.plans.items c.push-2.new.self.items c.in_ok-push.ensures.items last c.loop.invariant
