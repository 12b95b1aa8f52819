use Rattle.std.proofs.Common.{◌∙◌, ap, ap₂, sym, refl, subst}
use Rattle.tb_model.specs.Program.{Program}
use Rattle.tb_view.specs.Numbers.{cells_text, out_text}
use Rattle.tb_view.specs.Steps.{history_text}
use Rattle.tb_view.specs.Tasks.{tasks_text}
use Rattle.tb_view.specs.Breaks.{breaks_text}
use Rattle.tb_view.specs.Views.{IsShown}
use Rattle.std.specs.Prelude.{IfOk}
use Rattle.tb_view.proofs.ShownLemmas.{ok_then, entries_are}
use Rattle.tb_view.proofs.showing.draft.Goals as goal

pub returns-in-Cells-clause-shown : goal.returns-in-Cells-clause-shown
returns-in-Cells-clause-shown c =
    subst (λ v. IfOk c.told.result (λ text. IsShown c.args.live.now.session v text)) (sym c.in-Cells.is)
    (ok_then c.told.result _ _ (λ given is. record { unrefused = refl; text_is = is ∙ ap cells_text c.cells.ensures }) (c.told.ensures.ok _ c.cells_text.ensures))

pub returns-in-Out-clause-shown : goal.returns-in-Out-clause-shown
returns-in-Out-clause-shown c =
    subst (λ v. IfOk c.told-in-Out.result (λ text. IsShown c.args.live.now.session v text)) (sym c.in-Out.is)
    (ok_then c.told-in-Out.result _ _ (λ given is. record { unrefused = refl; text_is = is ∙ ap out_text c.output.ensures }) (c.told-in-Out.ensures.ok _ c.out_text.ensures))

pub returns-in-Hist-clause-shown : goal.returns-in-Hist-clause-shown
returns-in-Hist-clause-shown c =
    let all = entries_are c.args.live.now.session c.core.result.now.run c.legal_entries-entries.result c.core.ensures.history c.legal_entries-entries.ensures.steps in
    subst (λ v. IfOk c.told-in-Hist.result (λ text. IsShown c.args.live.now.session v text)) (sym c.in-Hist.is)
    (ok_then c.told-in-Hist.result _ _ (λ given is. record { unrefused = refl; text_is = is ∙ ap₂ (λ (P : Program) H. history_text P H) c.program.ensures all }) (c.told-in-Hist.ensures.ok _ c.history_text.ensures))

pub returns-in-Tasks-clause-shown : goal.returns-in-Tasks-clause-shown
returns-in-Tasks-clause-shown c =
    subst (λ v. IfOk c.told-in-Tasks.result (λ text. IsShown c.args.live.now.session v text)) (sym c.in-Tasks.is)
    (ok_then c.told-in-Tasks.result _ _ (λ given is. record { unrefused = refl; text_is = is ∙ ap₂ (λ (P : Program) H. tasks_text P H) c.program-in-Tasks.ensures c.core-in-Tasks.ensures.history }) (c.told-in-Tasks.ensures.ok _ c.tasks_text.ensures))

pub returns-in-Ready-clause-shown : goal.returns-in-Ready-clause-shown
returns-in-Ready-clause-shown c =
    subst (λ v. IfOk c.told-in-Ready.result (λ text. IsShown c.args.live.now.session v text)) (sym c.in-Ready.is)
    (ok_then c.told-in-Ready.result _ _ (λ given is. record { unrefused = refl; text_is = is }) (c.told-in-Ready.ensures.ok _ c.ready_text.ensures))

pub returns-in-Waits-clause-shown : goal.returns-in-Waits-clause-shown
returns-in-Waits-clause-shown c =
    subst (λ v. IfOk c.told-in-Waits.result (λ text. IsShown c.args.live.now.session v text)) (sym c.in-Waits.is)
    (ok_then c.told-in-Waits.result _ _ (λ given is. record { unrefused = refl; text_is = is }) (c.told-in-Waits.ensures.ok _ c.waits_text.ensures))

pub returns-in-Breaks-clause-shown : goal.returns-in-Breaks-clause-shown
returns-in-Breaks-clause-shown c =
    subst (λ v. IfOk c.told-in-Breaks.result (λ text. IsShown c.args.live.now.session v text)) (sym c.in-Breaks.is)
    (ok_then c.told-in-Breaks.result _ _ (λ given is. record { unrefused = refl; text_is = is ∙ ap₂ (λ (P : Program) points. breaks_text P points) c.program-in-Breaks.ensures c.breakpoints.ensures.standing }) (c.told-in-Breaks.ensures.ok _ c.breaks_text.ensures))
