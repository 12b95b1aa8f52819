use Rattle.std.proofs.Common.{◌≡◌, map, reverse, subst}
use Rattle.tb_steps.specs.Entries.{departure}
use Rattle.tb_core.specs.Seen.{Held}
use Rattle.tb_core.specs.Outcomes.{has_ended}
use Rattle.tb_core.specs.Storing.{entries_in}
use Rattle.tb_core.proofs.run.Core.has_ended_at.Goals as goal

pub returns : goal.returns
returns c =
    let sound = c.self.invariant.0 in
    let told = c.has_ended_at.ensures c.self.inside.first.items c.self.inside.root_line (map departure (reverse (entries_in c.self.inside.tables c.self.inside.entries.items))) sound.legal sound.state.of_tasks in
    subst (λ (h : Held). c.has_ended_at.result ≡ has_ended h.run c.args.task.now) c.self.view_is told
