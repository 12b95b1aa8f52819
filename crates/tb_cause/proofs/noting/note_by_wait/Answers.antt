use Rattle.std.proofs.Common.{◌||◌, sym, ap, ◌∙◌}
use Rattle.tb_model.specs.Facts.{own, groups, innermost}
use Rattle.tb_steps.specs.Scans.{history_of}
use Rattle.tb_cause.specs.Asked.{same_key}
use Rattle.tb_cause.specs.Keys.{has, wait_any}
use Rattle.tb_cause.proofs.HasLemmas.{group_asks}
use Rattle.tb_cause.proofs.noting.note_by_wait.Goals as goal

pub returns-in_ok-note_members-in-Close : goal.returns-in_ok-note_members-in-Close
returns-in_ok-note_members-in-Close c k =
    let t = c.args.task.now in
    let H = history_of c.args.front.now in
    c.in_ok-note_members-in-Close.ensures k
    ∙ ap (λ b. b || has c.args.keys.now k) (sym (group_asks (innermost (groups (own t H))) k) ∙ sym (ap (wait_any (λ a. same_key a k) H t) c.in-Close.is))
