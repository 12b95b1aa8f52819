use Rattle.std.proofs.Common.{◌≡◌, map, reverse, subst}
use Rattle.tb_steps.specs.Entries.{departure}
use Rattle.tb_model.specs.Facts.{is_spawned}
use Rattle.tb_core.specs.Seen.{Held, history}
use Rattle.tb_core.specs.Storing.{entries_in}
use Rattle.tb_core.proofs.run.Core.is_there.Goals as goal

pub returns : goal.returns
returns c =
    let told = c.is_there.ensures c.self.inside.root_line (map departure (reverse (entries_in c.self.inside.tables c.self.inside.entries.items))) c.self.invariant.0.state.of_tasks in
    subst (λ (h : Held). c.is_there.result ≡ is_spawned (history h.run) c.args.task.now) c.self.view_is told
