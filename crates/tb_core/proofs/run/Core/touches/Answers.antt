use Rattle.std.proofs.Common.{ap}
use Rattle.tb_model.specs.Facts.{touches}
use Rattle.tb_core.specs.Seen.{Held}
use Rattle.tb_core.specs.Soundness.{names_in}
use Rattle.tb_core.specs.Renumbering.{events_in}
use Rattle.tb_core.proofs.IndexLemmas.{shown}
use Rattle.tb_core.specs.Storing.{entries_in}
use Rattle.tb_core.proofs.run.Core.touches.Goals as goal

pub returns : goal.returns
returns c =
    let i = c.self.inside in
    shown i.first.items i.root_line i.limit (entries_in i.tables i.entries.items) c.args.self.now.run (λ v. touches c.args.cell v.action) c.touches.result.now (ap (λ (h : Held). h.run) c.self.view_is) (c.touches.ensures (names_in i.tables) (events_in (entries_in i.tables i.entries.items)) c.self.invariant.2)
