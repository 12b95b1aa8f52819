use Rattle.std.proofs.Common.{ap, sym, ◌∙◌, subst, Option}
use Rattle.std.specs.Prelude.{is_some, IfSome}
use Rattle.tb_core.specs.Seen.{history}
use Rattle.tb_next.specs.declared.coming.Coming.{Coming}
use Rattle.tb_next.specs.Floor.{IsFloor, IsPassed}
use Rattle.tb_next.specs.Plans.{IsComing}
use Rattle.tb_next.proofs.ComingLemmas.{least_named, if_some}
use Rattle.tb_next.proofs.FloorStepLemmas.{passed_floor, floor_ready}
use Rattle.tb_next.proofs.ready.known_coming.Goals as goal

pub returns-in-Ok-Some-clause-least : goal.returns-in-Ok-Some-clause-least
returns-in-Ok-Some-clause-least c =
    let P = c.args.program.now in
    let run = c.args.core.now.run in
    let t = c.in-Some.task.now in
    let floor = subst (IsFloor P (history run)) (sym c.in-Some.ensures) c.requires.floor in
    if_some P run c.named.result
    (least_named P run t c.in-Ok-Some.coming c.named.result (subst (λ (o : Option Coming). IfSome o (IsComing P run t)) c.in-Ok-Some.field-0-is c.in-Ok-Some.ensures.coming)
    (floor_ready P (history run) t floor (c.in-Ok-Some.ensures.can ∙ ap is_some c.in-Ok-Some.field-0-is)) c.named.ensures)

pub returns-in-Ok-None-clause-passed : goal.returns-in-Ok-None-clause-passed
returns-in-Ok-None-clause-passed c =
    let P = c.args.program.now in
    let H = history c.args.core.now.run in
    let t = c.in-Some.task.now in
    subst (IsPassed P H) c.in-Some.ensures
    (passed_floor P H t (subst (IsFloor P H) (sym c.in-Some.ensures) c.requires.floor) (c.in-Ok-None.ensures.can ∙ ap is_some c.in-Ok-None.field-0-is))
