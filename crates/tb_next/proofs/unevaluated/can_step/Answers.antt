use Rattle.std.proofs.Common.{sym}
use Rattle.tb_next.proofs.UnevaluatedLemmas.{can_where_none}
use Rattle.tb_next.proofs.unevaluated.can_step.Goals as goal

pub returns : goal.returns
returns c = can_where_none c.args.program.now c.args.core.now.run c.args.task.now c.is_none.result c.kept_from.result (sym c.is_none.ensures) c.kept_from.ensures.some c.kept_from.ensures.none
