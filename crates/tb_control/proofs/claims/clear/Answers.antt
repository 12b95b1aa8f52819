use Rattle.std.proofs.Common.{true, rules}
use Rattle.tb_control.specs.Claims.{unless}
use Rattle.tb_control.proofs.ClaimLemmas.{next_changed, all_withdrawn}
use Rattle.tb_control.proofs.claims.clear.Goals as goal

pub loop-at-preserved : goal.loop-at-preserved
loop-at-preserved c =
    next_changed (unless (λ t. true)) c.args.rows.now.items c.loop-at.rows.items c.loop-at.at c.args.end c.index_mut.result.now c.forget.new.row c.loop-at.invariant c.loop-at-test.true c.requires.within c.index_mut.ensures.value c.forget.ensures

pub returns : goal.returns
returns c =
    all_withdrawn (λ t. true) c.args.rows.now.items c.loop-at.rows.items c.loop-at.at c.args.end c.loop-at.invariant (search rules) c.requires.free
