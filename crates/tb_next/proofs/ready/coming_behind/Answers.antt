use Rattle.std.proofs.Common.{refl, ◌∙◌, ap, subst, Option}
use Rattle.std.specs.Prelude.{is_some, IfSome}
use Rattle.tb_core.specs.Seen.{history}
use Rattle.tb_core.proofs.WalkLemmas.{fewer}
use Rattle.tb_next.specs.declared.coming.Coming.{Coming}
use Rattle.tb_next.specs.Plans.{IsComing}
use Rattle.tb_next.proofs.ComingLemmas.{least_named}
use Rattle.tb_next.proofs.ReadyLemmas.{passed_on, none_ready, next_ready}
use Rattle.tb_next.proofs.ready.coming_behind.Goals as goal

pub tasks-smaller : goal.tasks-smaller
tasks-smaller c = fewer (history c.args.core.now.run) _ c.in-Some.task.now (c.in-Some.ensures.found c.in-Some.task.now refl)

pub tasks-preserved : goal.tasks-preserved
tasks-preserved c = passed_on c.args.program.now (history c.args.core.now.run) _ c.tasks.invariant c.in-Some.task.now c.in-Some.ensures (c.in-Ok-None.ensures.can ∙ ap is_some c.in-Ok-None.field-0-is)

pub returns-in-Ok-Some : goal.returns-in-Ok-Some
returns-in-Ok-Some c =
    let P = c.args.program.now in
    let run = c.args.core.now.run in
    let t = c.in-Some.task.now in
    least_named P run t c.in-Ok-Some.coming c.named.result (subst (λ (o : Option Coming). IfSome o (IsComing P run t)) c.in-Ok-Some.field-0-is c.in-Ok-Some.ensures.coming)
    (next_ready P (history run) _ c.tasks.invariant t c.in-Some.ensures (c.in-Ok-Some.ensures.can ∙ ap is_some c.in-Ok-Some.field-0-is)) c.named.ensures

pub returns : goal.returns
returns c = none_ready c.args.program.now (history c.args.core.now.run) _ c.tasks.invariant c.in_default.ensures
