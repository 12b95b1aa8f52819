use Rattle.std.proofs.Common.{refl}
use Rattle.std.proofs.lemmas.Bool.{both_ways}
use Rattle.tb_core.specs.Seen.{history}
use Rattle.tb_core.proofs.WalkLemmas.{fewer}
use Rattle.tb_next.proofs.FloorStepLemmas.{least_floor}
use Rattle.tb_next.proofs.ReadyLemmas.{behind_first, untaken_on, found_free}
use Rattle.tb_next.proofs.ReadyLemmas.{found_task}
use Rattle.tb_next.proofs.ready.task_behind.Goals as goal

pub tasks-init : goal.tasks-init
tasks-init c =
    let H = history c.args.core.now.run in
    behind_first c.args.program.now H c.args.claims.now c.args.seat c.args.first.now (least_floor c.args.program.now H c.args.first.now c.requires.first) c.requires.held

pub tasks-smaller : goal.tasks-smaller
tasks-smaller c = fewer (history c.args.core.now.run) _ c.in-Some.task.now (c.in-Some.ensures.found c.in-Some.task.now refl)

pub tasks-preserved : goal.tasks-preserved
tasks-preserved c =
    untaken_on c.args.program.now (history c.args.core.now.run) c.args.claims.now c.args.seat c.tasks.after.now c.tasks.invariant c.in-Some.task.now c.in-Some.ensures
    (λ q. both_ways c.in-Ok-false.field-0 c.in-Ok-false.field-0-test (c.in-Ok-false.ensures.1 q))

pub returns-in-Ok-true : goal.returns-in-Ok-true
returns-in-Ok-true c =
    found_task c.args.program.now c.args.core.now.run c.args.claims.now c.args.seat c.in-Some.task.now c.offer_of.result c.offer_of.ensures
    (found_free c.args.program.now (history c.args.core.now.run) c.args.claims.now c.args.seat c.tasks.after.now c.tasks.invariant c.in-Some.task.now c.in-Some.ensures (c.in-Ok-true.ensures.0 c.in-Ok-true.field-0-test))
