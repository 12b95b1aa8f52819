use Rattle.std.proofs.Common.{rules}
use Rattle.tb_model.specs.Names.{same_name}
use Rattle.tb_control.specs.Claims.{unless}
use Rattle.tb_control.proofs.ClaimLemmas.{next_changed, all_withdrawn}
use Rattle.tb_control.proofs.claims.withdraw_task.Goals as goal

pub loop-at-preserved : goal.loop-at-preserved
loop-at-preserved c =
    next_changed (unless (same_name c.args.task.now)) c.args.rows.now.items c.loop-at.rows.items c.loop-at.at c.args.end c.index_mut.result.now c.leave.new.row c.loop-at.invariant c.loop-at-test.true c.requires.within c.index_mut.ensures.value c.leave.ensures

pub returns : goal.returns
returns c =
    all_withdrawn (same_name c.args.task.now) c.args.rows.now.items c.loop-at.rows.items c.loop-at.at c.args.end c.loop-at.invariant (search rules) c.requires.free
