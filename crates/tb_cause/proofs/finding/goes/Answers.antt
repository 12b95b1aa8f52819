use Rattle.std.proofs.Common.{◌∙◌, ap, ap₂, sym, List, take}
use Rattle.tb_steps.specs.Entries.{Entry}
use Rattle.tb_steps.specs.Scans.{history_of}
use Rattle.tb_cause.specs.Indexes.{items_told}
use Rattle.tb_cause.specs.Keys.{Task, has, takes_any}
use Rattle.tb_cause.proofs.StandingLemmas.{held_here, spawned_here}
use Rattle.tb_cause.proofs.finding.goes.Goals as goal
use Rattle.tb_steps.proofs.FirstLemmas.{there}

pub takes_some-requires-clause-held : goal.takes_some-requires-clause-held
takes_some-requires-clause-held c =
    held_here c.args.indexed.now c.args.later c.requires.within c.task_at-task.result.now c.task_at-task.ensures c.front-front.result c.front-front.ensures _ c.held_at-held.ensures

pub takes_some-requires-clause-of_task : goal.takes_some-requires-clause-of_task
takes_some-requires-clause-of_task c =
    let w = there c.args.indexed.now c.args.later c.requires.within in
    c.requires.of_task w.0 w.1 ∙ ap (λ t. has c.args.keys.now (Task t)) (sym (c.task_at-task.ensures w.0 w.1))

pub returns : goal.returns
returns c e is =
    let I = items_told c.args.indexed.now in
    let f = has c.args.keys.now in
    let a = c.action_at-action.result.now in
    c.in_ok-found.ensures ∙ ap₂ (λ t (es : List Entry). takes_any f I (history_of es) (record { task = t; action = a })) (c.task_at-task.ensures e is) c.front-front.ensures
    ∙ ap (λ b. takes_any f I (history_of (take c.args.later c.args.indexed.now)) (record { task = e.event.task; action = b })) (c.action_at-action.ensures e is)

pub takes_some-requires-clause-there : goal.takes_some-requires-clause-there
takes_some-requires-clause-there c = spawned_here c.args.indexed.now c.args.later c.requires.within c.task_at-task.result.now c.task_at-task.ensures c.history_is_legal.ensures.legal
