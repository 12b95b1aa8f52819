use Rattle.std.proofs.Common.{◌++◌, ◌∙◌, ap, sym, append-nil}
use Rattle.std.proofs.lemmas.Bool.{false_from_ne_true, false≢true}
use Rattle.tb_model.proofs.NumberTextLemmas.{on_ok}
use Rattle.tb_steps.specs.Scans.{history_of}
use Rattle.tb_view.proofs.ReasonLemmas.{line_missing, line_read}
use Rattle.tb_view.proofs.reasons.append_step.Goals as goal

pub returns-in-Some : goal.returns-in-Some
returns-in-Some c =
    let P = c.args.program.now in
    let entries = c.args.entries.now in
    on_ok c.append_line.result
    (λ is. is ∙ ap (λ l. c.args.text.now ++ l) (line_read P entries c.in-Some.at c.args.step.now c.task.result.now c.action.result.now c.in-Some.ensures.within c.in-Some.ensures.step c.task.ensures c.action.ensures))
    c.append_line.ensures

pub returns-in-None : goal.returns-in-None
returns-in-None c =
    let text = c.args.text.now in
    sym
    (ap (λ l. text ++ l)
    (line_missing c.args.program.now c.args.step.now (history_of c.args.entries.now) (false_from_ne_true _ (λ h. false≢true (c.in-None.ensures.there.1 h))))
    ∙ append-nil text)
