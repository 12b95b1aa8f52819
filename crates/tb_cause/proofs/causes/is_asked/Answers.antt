use Rattle.std.proofs.Common.{◌∙◌, ap, ap₂, sym}
use Rattle.tb_cause.specs.Asked.{gives_any}
use Rattle.tb_cause.specs.Indexes.{items_told}
use Rattle.tb_cause.specs.Keys.{Task, has}
use Rattle.tb_cause.proofs.StandingLemmas.{spawned_here}
use Rattle.tb_cause.proofs.causes.is_asked.Goals as goal
use Rattle.tb_steps.proofs.FirstLemmas.{there}

pub gives_some-requires-clause-of_task : goal.gives_some-requires-clause-of_task
gives_some-requires-clause-of_task c =
    let w = there c.args.indexed.now c.args.at c.requires.within in
    c.requires.of_task w.0 w.1 ∙ ap (λ t. has c.args.keys.now (Task t)) (sym (c.task_at-task.ensures w.0 w.1))

pub returns : goal.returns
returns c e is = c.in_ok-found.ensures ∙ ap₂ (λ t a. gives_any (has c.args.keys.now) (items_told c.args.indexed.now) (record { task = t; action = a })) (c.task_at-task.ensures e is) (c.action_at-action.ensures e is)

pub gives_some-requires-clause-there : goal.gives_some-requires-clause-there
gives_some-requires-clause-there c = spawned_here c.args.indexed.now c.args.at c.requires.within c.task_at-task.result.now c.task_at-task.ensures c.history_is_legal.ensures.legal
