use Rattle.std.proofs.Common.{ap}
use Rattle.tb_live.specs.Session.{Held}
use Rattle.tb_live.proofs.StepLemmas.{least_wanting_so}
use Rattle.tb_live.proofs.live.Live.least_refused.Goals as goal

pub returns : goal.returns
returns c =
    λ seat.
    let i = c.self.inside in
    let same = ap (λ (h : Held). h.session) c.self.view_is in
    least_wanting_so i.program i.limit i.journal.items i.control i.core.run c.args.self.now.session same c.self.invariant.0 seat c.is_full-full.result c.least_wanting.result c.is_full-full.ensures c.least_wanting.ensures
