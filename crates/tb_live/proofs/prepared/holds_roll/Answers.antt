use Rattle.std.proofs.Common.{rules}
use Rattle.tb_live.proofs.PreparedLemmas.{same_roll}
use Rattle.tb_live.proofs.prepared.holds_roll.Goals as goal

pub returns-then-whose-seat : goal.returns-then-whose-seat
returns-then-whose-seat c = same_roll c.args.given.now c.args.seat c.in-Some-Roll.whose c.in-Some-Roll.id c.args.step.now c.in-Some-Roll.field-0-2 c.is_same_step.result (search rules) (search rules) c.is_same_step.ensures
