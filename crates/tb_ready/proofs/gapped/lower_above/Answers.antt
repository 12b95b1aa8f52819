use Rattle.std.proofs.Common.{arith}
use Rattle.tb_ready.proofs.GappedLemmas.{mapped}
use Rattle.tb_ready.proofs.gapped.lower_above.Goals as goal

pub returns-clause-items : goal.returns-clause-items
returns-clause-items c =
    mapped c.args.gone c.args.ring.now.items c.loop-k.ring.items c.loop-k.invariant.len
    (λ a h. c.loop-k.invariant.moved a (omega (arith, c.loop-k.invariant.len, h)))
