use Rattle.std.proofs.Common.{◌≡◌, refl, sym, ap, ◌∙◌}
use Rattle.tb_model.specs.Spelling.{ordinal_of, spells_name, spells_step_id, before_hash}
use Rattle.tb_model.proofs.StepIdLemmas.{no_number, by_task, id_written}
use Rattle.tb_model.proofs.step_id.StepId.parse.Goals as goal

pub returns-in-None-clause-bad : goal.returns-in-None-clause-bad
returns-in-None-clause-bad c =
    (λ _. no_number c.args.text.now c.ordinal.result (c.ordinal.ensures ∙ ap ordinal_of c.behind_hash.ensures) c.in-None.is, λ _. refl)

pub returns-in-Ok-clause-text : goal.returns-in-Ok-clause-text
returns-in-Ok-clause-text c =
    id_written c.args.text.now c.ordinal.result (c.ordinal.ensures ∙ ap ordinal_of c.behind_hash.ensures) c.in-Some.k c.in-Some.is c.in-Ok.task (c.in-Ok.ensures.text ∙ c.before_hash.ensures)

-- with its ordinal read, the text spells a step where it spells a task
pub returns-in-Ok-clause-bad : goal.returns-in-Ok-clause-bad
returns-in-Ok-clause-bad c =
    let same : spells_step_id c.args.text.now ≡ spells_name (before_hash c.args.text.now) = by_task c.args.text.now c.ordinal.result (c.ordinal.ensures ∙ ap ordinal_of c.behind_hash.ensures) c.in-Some.k c.in-Some.is in
    (λ clash. absurd cc, λ unspelled. absurd (let clash = c.in-Ok.ensures.bad.1 (ap spells_name c.before_hash.ensures ∙ sym same ∙ unspelled) in cc))

pub returns-in-Err-clause-bad : goal.returns-in-Err-clause-bad
returns-in-Err-clause-bad c =
    let same : spells_step_id c.args.text.now ≡ spells_name (before_hash c.args.text.now) = by_task c.args.text.now c.ordinal.result (c.ordinal.ensures ∙ ap ordinal_of c.behind_hash.ensures) c.in-Some.k c.in-Some.is in
    (λ bad. same ∙ ap spells_name (sym c.before_hash.ensures) ∙ c.in-Err.ensures.bad.0 (cc bad), λ unspelled. (let refused = c.in-Err.ensures.bad.1 (ap spells_name c.before_hash.ensures ∙ sym same ∙ unspelled) in cc))
