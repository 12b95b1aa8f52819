use Rattle.std.proofs.Common.{ap, ◌∙◌, reverse}
use Rattle.tb_model.specs.Lines.{events_of}
use Rattle.tb_races.specs.Immediate.{immediate_of}
use Rattle.tb_order.proofs.AnswerLemmas.{immediate_at}
use Rattle.tb_order.proofs.asking.causes.Goals as goal
use Rattle.tb_steps.proofs.FirstLemmas.{there}

pub returns-in-Ok-clause-causes : goal.returns-in-Ok-clause-causes
returns-in-Ok-clause-causes c =
    let entries = c.legal_entries-entries.result in
    let x = there entries c.in-Some.at c.in-Some.ensures.within in
    c.in-Ok.ensures x.0 x.1
    ∙ ap reverse
    (immediate_at entries c.in-Some.at x.0 c.in-Some.ensures.within x.1 c.args.step.now c.in-Some.ensures.step
    ∙ ap (immediate_of c.args.step.now) (ap events_of c.legal_entries-entries.ensures.steps))
