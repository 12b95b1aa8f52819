use Rattle.std.proofs.Common.{◌||◌, false, sym, ap, ◌∙◌}
use Rattle.std.specs.List.{list_any}
use Rattle.tb_cause.specs.Asked.{same_key}
use Rattle.tb_cause.specs.Indexes.{items_told}
use Rattle.tb_cause.specs.Keys.{has, item_any, items_any}
use Rattle.tb_cause.proofs.HasLemmas.{items_ask, wait_asks}
use Rattle.tb_cause.proofs.noting.note_by_items.Goals as goal

pub returns-in_ok-note_new-in-Wait : goal.returns-in_ok-note_new-in-Wait
returns-in_ok-note_new-in-Wait c k =
    let I = items_told c.args.indexed.now in
    let t = c.args.task.now in
    c.in_ok-note_new-in-Wait.ensures k
    ∙ ap (λ b. b || has c.args.keys.now k)
    (sym (items_ask t false c.as_slice.result.now k) ∙ ap (list_any (item_any (λ a. same_key a k) t false)) c.as_slice.ensures
    ∙ sym (wait_asks (λ a. same_key a k) I t c.in-Wait.items) ∙ sym (ap (items_any (λ a. same_key a k) I t) c.in-Wait.is))
