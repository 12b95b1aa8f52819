use Rattle.std.proofs.Common.{◌∙◌}
use Rattle.tb_team.proofs.Records.{met_as_read}
use Rattle.tb_team.proofs.looking.is_met.Goals as goal

pub returns : goal.returns
returns c step here =
    c.meets_some.ensures ∙ met_as_read c.args.points.now step c.line.result c.task.result.now c.action.result.now (c.line.ensures step here) (c.task.ensures step here) (c.action.ensures step here)
