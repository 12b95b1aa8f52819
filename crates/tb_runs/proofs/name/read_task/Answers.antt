use Rattle.tb_runs.proofs.ParsedLemmas.{parsed, long_spelled}
use Rattle.tb_runs.proofs.name.read_task.Goals as goal

pub returns-in-Ok-clause-ok : goal.returns-in-Ok-clause-ok
returns-in-Ok-clause-ok c = parsed c.args.word.now c.in-Ok.name (λ unspelled. let clash = c.in-Ok.ensures.bad.1 unspelled in cc) c.in-Ok.ensures.name

pub returns-in-Err-Memory-clause-memory : goal.returns-in-Err-Memory-clause-memory
returns-in-Err-Memory-clause-memory c = long_spelled c.args.word.now (c.in-Err-Memory.ensures.memory (let is = c.in-Err-Memory.field-0-is in cc))
