use Rattle.tb_cause.specs.Keys.{has}
use Rattle.tb_cause.proofs.TaskKeyLemmas.{key_known}
use Rattle.tb_cause.proofs.noting.note_own.Goals as goal

pub returns-then-known : goal.returns-then-known
returns-then-known c = key_known c.args.task.now (has c.args.keys.now) (c.requires c.if-known.true)
