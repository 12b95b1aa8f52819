use Rattle.std.proofs.Common.{◌||◌, ap, ◌∙◌}
use Rattle.std.proofs.lemmas.Bool.{or_right}
use Rattle.tb_cause.specs.Asked.{same_key}
use Rattle.tb_cause.specs.Keys.{Task, has, held_any}
use Rattle.tb_cause.proofs.HasLemmas.{five_puts}
use Rattle.tb_cause.proofs.noting.note.Goals as goal

-- what is put before takes no key away
pub note_own-requires : goal.note_own-requires
note_own-requires c h =
    let k = Task c.args.task.now in
    c.in_ok-note_held.ensures k ∙ or_right _ _ (c.in_ok-note_by_action.ensures k ∙ or_right _ _ (c.in_ok-note_by_wait.ensures k ∙ or_right _ _ (c.in_ok-note_by_items.ensures k ∙ or_right _ _ (c.requires.of_task h))))

pub returns : goal.returns
returns c k =
    five_puts _ _ _ _ _ _ _ _ _ _ _ (c.in_ok-note_by_items.ensures k) (c.in_ok-note_by_wait.ensures k) (c.in_ok-note_by_action.ensures k)
    (c.in_ok-note_held.ensures k ∙ ap (λ o. held_any (λ a. same_key a k) o || has c.note_by_action.new.keys k) c.requires.held)
    (c.in_ok-note_own.ensures k)
