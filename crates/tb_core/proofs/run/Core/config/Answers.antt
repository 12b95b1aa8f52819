use Rattle.std.proofs.Common.{◌≡◌, map, option_map, reverse, ap, ◌∙◌, subst, Some}
use Rattle.tb_steps.specs.Entries.{departure}
use Rattle.tb_undo.specs.State.{task_of}
use Rattle.tb_undo.specs.Standings.{standing_of}
use Rattle.tb_core.specs.Seen.{Held}
use Rattle.tb_core.specs.Naming.{config_with}
use Rattle.tb_core.proofs.ShownLemmas.{config_told, none_told}
use Rattle.tb_core.specs.Storing.{entries_in}
use Rattle.tb_core.proofs.run.Core.config.Goals as goal

pub returns-in_ok-clone-in-Some : goal.returns-in_ok-clone-in-Some
returns-in_ok-clone-in-Some c =
    let here = c.standing.ensures c.self.inside.root_line (map departure (reverse (entries_in c.self.inside.tables c.self.inside.entries.items))) c.self.invariant.0.state.of_tasks in
    let told = subst (λ (h : Held). c.standing.result ≡ option_map standing_of (task_of h.run.root_line h.run.steps c.args.task.now)) c.self.view_is here in
    ap Some (c.config.ensures ∙ ap (λ t. config_with t c.in-Some.standing) c.in_ok-clone-in-Some.ensures.cases) ∙ config_told c.args.self.now.run c.args.task.now c.standing.result told c.in-Some.standing c.in-Some.is

pub returns-in-None : goal.returns-in-None
returns-in-None c =
    let here = c.standing.ensures c.self.inside.root_line (map departure (reverse (entries_in c.self.inside.tables c.self.inside.entries.items))) c.self.invariant.0.state.of_tasks in
    let told = subst (λ (h : Held). c.standing.result ≡ option_map standing_of (task_of h.run.root_line h.run.steps c.args.task.now)) c.self.view_is here in
    none_told c.args.self.now.run c.args.task.now c.standing.result told c.in-None.is
