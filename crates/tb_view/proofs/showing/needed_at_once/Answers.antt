use Rattle.std.proofs.Common.{◌∙◌}
use Rattle.tb_view.proofs.ReasonLemmas.{causes_shown}
use Rattle.tb_view.proofs.ShownLemmas.{ok_then, it_stands, not_err}
use Rattle.tb_view.proofs.showing.needed_at_once.Goals as goal

pub returns-in-Ok-clause-shown : goal.returns-in-Ok-clause-shown
returns-in-Ok-clause-shown c =
    let live = c.args.live.now.session in
    let run = c.core-core.result.now.run in
    let there = it_stands live run c.args.id.now c.core-core.ensures.history (λ z. not_err _ _ (c.in-Ok.ensures.absent.1 z)) in
    let text = causes_shown live run c.legal_entries-entries.result c.core-core.ensures.history c.legal_entries-entries.ensures.steps c.args.id.now c.in-Ok.causes.items c.deref.result.now
    c.in-Ok.ensures.causes c.deref.ensures.value c.program.result.now c.program.ensures
    in
    ok_then c.told.result _ _ (λ given is. record { unrefused = there; text_is = is ∙ text }) (c.told.ensures.ok _ c.causes_text.ensures)
