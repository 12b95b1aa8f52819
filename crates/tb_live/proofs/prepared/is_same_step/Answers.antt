use Rattle.std.proofs.Common.{rules}
use Rattle.tb_live.proofs.PreparedLemmas.{same_step}
use Rattle.tb_live.proofs.prepared.is_same_step.Goals as goal

pub returns-then-a-b : goal.returns-then-a-b
returns-then-a-b c = same_step c.args.a.now c.args.b.now c.eq.result (search rules) c.eq.ensures
