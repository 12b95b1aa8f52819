use Rattle.tb_cause.proofs.OwnPlaceLemmas.{lent_at}
use Rattle.tb_cause.proofs.names.name_found.Goals as goal

pub step_among-requires-clause-own : goal.step_among-requires-clause-own
step_among-requires-clause-own c =
    lent_at c.args.entries.now c.args.core.now.run c.args.at c.task.result.now c.events_of-own.result.now c.task.ensures c.requires.same c.events_of-own.ensures

pub name_numbered-requires-clause-own : goal.name_numbered-requires-clause-own
name_numbered-requires-clause-own c =
    lent_at c.args.entries.now c.args.core.now.run c.args.at c.task.result.now c.events_of-own.result.now c.task.ensures c.requires.same c.events_of-own.ensures
