use Rattle.std.proofs.Common.{ap, ◌∙◌}
use Rattle.std.specs.Prelude.{is_some}
use Rattle.tb_core.specs.Seen.{history}
use Rattle.tb_next.proofs.ReadyLemmas.{taken_by}
use Rattle.tb_next.proofs.ready.can_take.Goals as goal

pub returns-in-Ok-Some : goal.returns-in-Ok-Some
returns-in-Ok-Some c =
    taken_by c.args.program.now (history c.args.core.now.run) c.args.claims.now c.args.seat c.args.task.now c.is_none.result c.held_beside.result (c.in-Ok-Some.ensures.can ∙ ap is_some c.in-Ok-Some.field-0-is) c.is_none.ensures c.held_beside.ensures.some c.held_beside.ensures.none
