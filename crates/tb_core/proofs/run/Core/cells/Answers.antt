use Rattle.std.proofs.Common.{map, reverse, subst}
use Rattle.tb_steps.specs.Entries.{departure}
use Rattle.tb_undo.specs.State.{AreLast}
use Rattle.tb_core.specs.Seen.{Held, history}
use Rattle.tb_core.specs.Storing.{entries_in}
use Rattle.tb_core.proofs.run.Core.cells.Goals as goal

pub returns : goal.returns
returns c =
    let told = c.cells.ensures c.self.inside.first.items c.self.inside.root_line (map departure (reverse (entries_in c.self.inside.tables c.self.inside.entries.items))) c.self.invariant.0.state in
    subst (λ (h : Held). AreLast h.run.cells (history h.run) c.cells.result.now) c.self.view_is told
