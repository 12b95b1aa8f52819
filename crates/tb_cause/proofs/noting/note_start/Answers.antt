use Rattle.std.proofs.Common.{◌||◌, true, sym, ap, ◌∙◌}
use Rattle.tb_cause.specs.Asked.{same_key}
use Rattle.tb_cause.specs.Keys.{has}
use Rattle.tb_cause.proofs.HasLemmas.{items_ask, start_asks}
use Rattle.tb_cause.proofs.noting.note_start.Goals as goal

pub returns-in_ok-note_new-in-Some : goal.returns-in_ok-note_new-in-Some
returns-in_ok-note_new-in-Some c k I same =
    c.in_ok-note_new-in-Some.ensures k
    ∙ ap (λ b. b || has c.args.keys.now k)
    (sym (items_ask c.in-Some.parent true c.args.items.now k)
    ∙ sym (start_asks (λ a. same_key a k) I c.args.task.now c.in-Some.parent c.args.items.now (sym c.in_ok-parent.ensures.parent ∙ c.in-Some.is) same))
