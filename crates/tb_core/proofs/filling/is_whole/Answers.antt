use Rattle.tb_core.proofs.FillingLemmas.{completed_other}
use Rattle.tb_core.proofs.filling.is_whole.Goals as goal

pub returns-in_default : goal.returns-in_default
returns-in_default c _ cells H t = completed_other cells H t c.args.action.now c.in_default.not-Load c.in_default.not-Spawn
