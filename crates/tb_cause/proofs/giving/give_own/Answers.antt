use Rattle.tb_cause.specs.Keys.{has}
use Rattle.tb_cause.proofs.TaskKeyLemmas.{own_known}
use Rattle.tb_cause.proofs.giving.give_own.Goals as goal

pub returns-then-known : goal.returns-then-known
returns-then-known c = own_known c.args.task.now (has c.args.keys.now) (c.requires c.if-known.true)
