use Rattle.std.proofs.Common.{ap, ◌∙◌, arith}
use Rattle.tb_model.specs.Lines.{events_of}
use Rattle.tb_cause.proofs.AnswerLemmas.{some_first, without_first}
use Rattle.tb_cause.proofs.asking.needed_by.Goals as goal

pub behind_first-requires : goal.behind_first-requires
behind_first-requires c =
    let some = some_first c.args.step.now _ _ c.in-Ok.cone.steps.items (ap events_of c.legal_entries-entries.ensures.steps) c.in-Ok.ensures.cone.steps c.in_ok-at.ensures.there in
    omega (arith, some)

pub returns-in-Ok-clause-steps : goal.returns-in-Ok-clause-steps
returns-in-Ok-clause-steps c =
    c.behind_first.ensures
    ∙ without_first c.args.step.now _ _ c.in-Ok.cone.steps.items (ap events_of c.legal_entries-entries.ensures.steps) c.in-Ok.ensures.cone.steps c.in_ok-at.ensures.there
