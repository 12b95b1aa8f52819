use Rattle.std.proofs.Common.{◌||◌, ◌∙◌, ap, ap₂, sym}
use Rattle.tb_cause.specs.Indexes.{items_told}
use Rattle.tb_cause.specs.Keys.{Task, gives, has}
use Rattle.tb_cause.proofs.StandingLemmas.{spawned_here}
use Rattle.tb_cause.proofs.finding.enter.Goals as goal
use Rattle.tb_steps.proofs.FirstLemmas.{there}

pub give-requires-clause-of_task : goal.give-requires-clause-of_task
give-requires-clause-of_task c h =
    let w = there c.args.indexed.now c.args.at c.requires.within in
    ap (λ t. has c.args.keys.now (Task t)) (c.task_at-task.ensures w.0 w.1) ∙ sym (c.requires.of_task h w.0 w.1)

pub returns-clause-keys : goal.returns-clause-keys
returns-clause-keys c k e is =
    c.in_ok-give.ensures k ∙ ap₂ (λ t a. gives (items_told c.args.indexed.now) (record { task = t; action = a }) k || has c.args.keys.now k) (c.task_at-task.ensures e is) (c.action_at-action.ensures e is)

pub give-requires-clause-there : goal.give-requires-clause-there
give-requires-clause-there c = spawned_here c.args.indexed.now c.args.at c.requires.within c.task_at-task.result.now c.task_at-task.ensures c.history_is_legal.ensures.legal
