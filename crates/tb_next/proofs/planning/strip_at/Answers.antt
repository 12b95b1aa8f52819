use Rattle.tb_next.proofs.PlanLemmas.{position_within}
use Rattle.tb_next.proofs.planning.strip_at.Goals as goal

pub strip_around-requires : goal.strip_around-requires
strip_around-requires c = position_within c.args.program.now c.args.at c.line_count-lines.result c.line_count-lines.ensures.count c.line_count-lines.ensures.few c.requires
