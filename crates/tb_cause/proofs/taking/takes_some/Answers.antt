use Rattle.std.proofs.Common.{sym, ap, ◌∙◌}
use Rattle.tb_model.specs.Facts.{own}
use Rattle.tb_steps.specs.Scans.{history_of}
use Rattle.tb_cause.specs.Indexes.{items_told}
use Rattle.tb_cause.specs.Keys.{Task, has, held_by, held_any, action_any, wait_any, items_any}
use Rattle.tb_cause.proofs.HasLemmas.{only_last}
use Rattle.tb_cause.proofs.taking.takes_some.Goals as goal

pub returns : goal.returns
returns c =
    let I = items_told c.args.indexed.now in
    let f = has c.args.keys.now in
    let t = c.args.task.now in
    let H = history_of c.args.front.now in
    only_last (f (Task t)) (held_any f (held_by (own t H))) (action_any f c.args.action.now) (wait_any f H t c.args.action.now) (items_any f I t c.args.action.now) c.in_ok-found.found
    (sym c.requires.of_task ∙ c.if-of_task.false)
    (sym (ap (held_any f) c.requires.held) ∙ sym c.takes_held.ensures ∙ c.if-takes_held.false)
    (sym c.takes_by_action.ensures ∙ c.if-takes_by_action.false)
    (sym c.takes_by_wait.ensures ∙ c.if-takes_by_wait.false)
    c.in_ok-found.ensures
