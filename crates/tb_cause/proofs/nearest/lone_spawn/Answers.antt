use Rattle.std.proofs.Common.{◌≡◌, length, rules, sym, ap, ◌∙◌}
use Rattle.tb_model.specs.State.{spawn_of}
use Rattle.tb_steps.specs.Scans.{history_of}
use Rattle.tb_cause.specs.Indexes.{items_told}
use Rattle.tb_cause.proofs.StandingLemmas.{spawned_here}
use Rattle.tb_cause.proofs.LoneLemmas.{lone_reach, no_length}
use Rattle.tb_cause.proofs.nearest.lone_spawn.Goals as goal
use Rattle.tb_steps.proofs.FirstLemmas.{there}

pub returns-then-spawn-at : goal.returns-then-spawn-at
returns-then-spawn-at c =
    let entries = c.args.indexed.now in
    let b = c.in_ok-spawn-in-Start.spawn in
    let w = there entries c.args.at c.requires.within in
    let mine = c.task_at-task.ensures w.0 w.1 in
    let none : length c.items_of.result.now ≡ 0 = search rules in
    let bare = sym c.items_of.ensures ∙ no_length c.items_of.result.now none in (
      c.if-spawn-at.true,
      lone_reach entries c.history_is_legal.ensures.legal c.args.at c.requires.within w.0 w.1
          (sym (c.action_at.ensures w.0 w.1) ∙ c.in-Start.is)
          (ap (items_told entries) (sym mine) ∙ bare)
          b
          (ap (λ t. spawn_of t (history_of entries)) (sym mine) ∙ c.in_ok-spawn-in-Start.ensures.spawn)
          c.if-spawn-at.true,
    )

pub items_of-requires : goal.items_of-requires
items_of-requires c = spawned_here c.args.indexed.now c.args.at c.requires.within c.task_at-task.result.now c.task_at-task.ensures c.history_is_legal.ensures.legal
