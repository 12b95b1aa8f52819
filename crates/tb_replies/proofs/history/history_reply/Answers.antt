use Rattle.tb_draft.proofs.WrittenLemmas.{on_err}
use Rattle.tb_view.proofs.ShownLemmas.{entries_are}
use Rattle.tb_replies.proofs.HistoryLemmas.{history_told, history_begins}
use Rattle.tb_replies.proofs.history.history_reply.Goals as goal

pub returns-in_err-tell_steps-clause-err : goal.returns-in_err-tell_steps-clause-err
returns-in_err-tell_steps-clause-err g c =
    let all = entries_are c.args.live.now.session c.core.result.now.run c.legal_entries-entries.result c.core.ensures.history c.legal_entries-entries.ensures.steps in
    on_err c.from_residual-in_err-tell_steps.result _ (history_begins c.args.live.now.session _ c.legal_entries-entries.result _ c.in_ok-text.ensures c.program.ensures all _ _ c.in_err-tell_steps.ensures.err)

pub returns-clause-told : goal.returns-clause-told
returns-clause-told g c =
    let all = entries_are c.args.live.now.session c.core.result.now.run c.legal_entries-entries.result c.core.ensures.history c.legal_entries-entries.ensures.steps in
    history_told c.args.live.now.session _ c.legal_entries-entries.result _ c.in_ok-text.ensures c.program.ensures all _ _ _ c.in_ok-tell_steps.ensures.told
