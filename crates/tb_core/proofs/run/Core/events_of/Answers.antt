use Rattle.std.proofs.Common.{ap}
use Rattle.tb_model.specs.Facts.{is_of}
use Rattle.tb_core.specs.Seen.{Held}
use Rattle.tb_core.specs.Soundness.{names_in}
use Rattle.tb_core.specs.Renumbering.{events_in}
use Rattle.tb_core.proofs.IndexLemmas.{shown}
use Rattle.tb_core.specs.Storing.{entries_in}
use Rattle.tb_core.proofs.run.Core.events_of.Goals as goal

pub returns : goal.returns
returns c =
    let i = c.self.inside in
    shown i.first.items i.root_line i.limit (entries_in i.tables i.entries.items) c.args.self.now.run (is_of c.args.task.now) c.events_of.result.now (ap (λ (h : Held). h.run) c.self.view_is) (c.events_of.ensures (names_in i.tables) c.args.task.now (events_in (entries_in i.tables i.entries.items)) c.place.ensures c.self.invariant.2)
