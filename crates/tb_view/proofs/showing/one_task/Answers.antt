use Rattle.std.proofs.Common.{◌∙◌, ap₂, sym}
use Rattle.tb_model.specs.Facts.{History}
use Rattle.tb_model.specs.Program.{Program}
use Rattle.tb_view.specs.Tasks.{task_text}
use Rattle.tb_view.proofs.ShownLemmas.{ok_then, it_is_there, it_is_missing}
use Rattle.tb_view.proofs.showing.one_task.Goals as goal

pub returns-then-not-is_there-clause-refused : goal.returns-then-not-is_there-clause-refused
returns-then-not-is_there-clause-refused c = it_is_missing c.args.live.now.session c.core-core.result.now.run c.args.task.now c.core-core.ensures.history (sym c.is_there.ensures ∙ c.if-not-is_there.true)

pub returns-clause-shown : goal.returns-clause-shown
returns-clause-shown c =
    let there = it_is_there c.args.live.now.session c.core-core.result.now.run c.args.task.now c.core-core.ensures.history (sym c.is_there.ensures ∙ c.if-not-is_there.false) in
    ok_then c.told.result _ _ (λ given is. record { unrefused = there; text_is = is ∙ ap₂ (λ (P : Program) (H : History). task_text P H c.args.task.now) c.program.ensures c.core-core.ensures.history })
    (c.told.ensures.ok _ c.task_text.ensures)
