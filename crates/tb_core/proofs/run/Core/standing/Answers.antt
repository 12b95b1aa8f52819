use Rattle.std.proofs.Common.{◌≡◌, map, option_map, reverse, subst}
use Rattle.tb_steps.specs.Entries.{departure}
use Rattle.tb_undo.specs.State.{task_of}
use Rattle.tb_undo.specs.Standings.{standing_of}
use Rattle.tb_core.specs.Seen.{Held}
use Rattle.tb_core.proofs.ShownLemmas.{some_stands, none_stands}
use Rattle.tb_core.specs.Storing.{entries_in}
use Rattle.tb_core.proofs.run.Core.standing.Goals as goal

pub returns-clause-some : goal.returns-clause-some
returns-clause-some c =
    let here = c.standing.ensures c.self.inside.root_line (map departure (reverse (entries_in c.self.inside.tables c.self.inside.entries.items))) c.self.invariant.0.state.of_tasks in
    some_stands c.args.self.now.run c.args.task.now c.standing.result (subst (λ (h : Held). c.standing.result ≡ option_map standing_of (task_of h.run.root_line h.run.steps c.args.task.now)) c.self.view_is here)

pub returns-clause-none : goal.returns-clause-none
returns-clause-none c =
    let here = c.standing.ensures c.self.inside.root_line (map departure (reverse (entries_in c.self.inside.tables c.self.inside.entries.items))) c.self.invariant.0.state.of_tasks in
    none_stands c.args.self.now.run c.args.task.now c.standing.result (subst (λ (h : Held). c.standing.result ≡ option_map standing_of (task_of h.run.root_line h.run.steps c.args.task.now)) c.self.view_is here)
