use Rattle.std.proofs.Common.{subst, Option}
use Rattle.tb_model.specs.Names.{Name}
use Rattle.tb_core.specs.Seen.{history}
use Rattle.tb_next.specs.declared.coming.Coming.{Coming}
use Rattle.tb_next.specs.Plans.{IsLeastComing}
use Rattle.tb_next.proofs.FloorStepLemmas.{first_free, least_can}
use Rattle.tb_next.proofs.ReadyLemmas.{found_task}
use Rattle.tb_next.proofs.ready.free_task.Goals as goal

pub offer_of-requires-clause-can : goal.offer_of-requires-clause-can
offer_of-requires-clause-can c =
    let ready = subst (λ (o : Option (Name × Coming)). IsLeastComing c.args.program.now c.args.core.now.run o) c.in-Ok-Some.field-0-is c.in-Ok-Some.ensures.least in
    least_can c.args.program.now (history c.args.core.now.run) c.in-Ok-Some.found.0 ready.1

pub returns-clause-found : goal.returns-clause-found
returns-clause-found c =
    let run = c.args.core.now.run in
    let t = c.in-Ok-Some.found.0 in
    let ready = subst (λ (o : Option (Name × Coming)). IsLeastComing c.args.program.now run o) c.in-Ok-Some.field-0-is c.in-Ok-Some.ensures.least in
    found_task c.args.program.now run c.args.claims.now c.args.seat t c.offer_of.result c.offer_of.ensures (first_free c.args.program.now (history run) c.args.claims.now c.args.seat t ready.1 c.in-None.ensures.none)
