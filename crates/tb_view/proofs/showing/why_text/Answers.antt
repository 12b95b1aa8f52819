use Rattle.std.proofs.Common.{◌∙◌, codes}
use Rattle.tb_cause.specs.Chains.{causes_of}
use Rattle.tb_view.proofs.NeedLemmas.{causes_of_are}
use Rattle.tb_view.proofs.ShownLemmas.{ok_then, steps_of, steps_text_is, it_stands, not_err}
use Rattle.tb_view.proofs.showing.why_text.Goals as goal

pub chosen_text-requires-clause-steps : goal.chosen_text-requires-clause-steps
chosen_text-requires-clause-steps c =
    steps_of c.args.live.now.session c.core-core.result.now.run c.legal_entries-entries.result c.core-core.ensures.history c.legal_entries-entries.ensures.steps causes_of c.args.id.now c.in-Ok.steps.items c.deref.result.now
    c.in-Ok.ensures.steps c.deref.ensures.value (causes_of_are c.args.id.now)

pub returns-in-Ok-clause-shown : goal.returns-in-Ok-clause-shown
returns-in-Ok-clause-shown c =
    let live = c.args.live.now.session in
    let run = c.core-core.result.now.run in
    let text = steps_text_is live run c.legal_entries-entries.result c.core-core.ensures.history c.legal_entries-entries.ensures.steps causes_of c.args.id.now c.in-Ok.steps.items c.deref.result.now
    c.in-Ok.ensures.steps c.deref.ensures.value (codes "why") c.program.result.now c.program.ensures
    in
    let there = it_stands live run c.args.id.now c.core-core.ensures.history (λ z. not_err _ _ (c.in-Ok.ensures.absent.1 z))
    in
    ok_then c.told.result _ _ (λ given is. record { unrefused = there; text_is = is ∙ text }) (c.told.ensures.ok _ c.chosen_text.ensures)
