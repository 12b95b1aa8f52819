use Rattle.std.proofs.Common.{ap}
use Rattle.tb_live.proofs.RunLemmas.{live_cells}
use Rattle.tb_live.specs.Session.{Held}
use Rattle.tb_live.proofs.live.Live.cells.Goals as goal

pub returns : goal.returns
returns c =
    let i = c.self.inside in
    live_cells i.program i.limit i.journal.items i.control i.core.run c.args.self.now.session c.cells.result.now (ap (λ (h : Held). h.session) c.self.view_is) c.self.invariant.0 c.cells.ensures
