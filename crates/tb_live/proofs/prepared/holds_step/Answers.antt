use Rattle.std.proofs.Common.{rules}
use Rattle.tb_live.proofs.PreparedLemmas.{same_task}
use Rattle.tb_live.proofs.prepared.holds_step.Goals as goal

pub returns-then-whose-seat : goal.returns-then-whose-seat
returns-then-whose-seat c = same_task c.args.given.now c.args.seat c.in-Some-Step.whose c.in-Some-Step.event c.args.task.now c.eq.result (search rules) (search rules) c.eq.ensures
