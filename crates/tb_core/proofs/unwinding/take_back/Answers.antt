use Rattle.std.proofs.Common.{subst}
use Rattle.tb_undo.specs.Steps.{IsWithout}
use Rattle.tb_core.proofs.unwinding.take_back.Goals as goal

pub returns-clause-without : goal.returns-clause-without
returns-clause-without c = subst (λ r. IsWithout c.args.tables.now (record { task = c.args.id.task; action = c.args.entry.action }) r c.revert.new.self) c.replaced-replaced.ensures c.revert.ensures.without
