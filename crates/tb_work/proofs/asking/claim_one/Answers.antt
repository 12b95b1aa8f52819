use Rattle.tb_work.proofs.Claims.{keeps_task, task_is}
use Rattle.tb_work.proofs.asking.claim_one.Goals as goal

pub returns-clause-kept : goal.returns-clause-kept
returns-clause-kept c = keeps_task c.args.live.now.session _ c.args.seat _ c.claim_task.result c.claim_task.ensures.claimed

pub returns-clause-work : goal.returns-clause-work
returns-clause-work c = task_is c.args.live.now.session _ c.args.seat _ c.claim_task.result c.claim_task.ensures.claimed
