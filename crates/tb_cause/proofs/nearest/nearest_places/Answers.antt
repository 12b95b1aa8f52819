use Rattle.std.proofs.Common.{List, subst, sym}
use Rattle.tb_steps.specs.Entries.{Entry}
use Rattle.tb_steps.specs.Scans.{AreLegal}
use Rattle.tb_cause.specs.Nearest.{AreNearest}
use Rattle.tb_cause.proofs.KeyedLemmas.{legal_so_far}
use Rattle.tb_cause.proofs.NearestPassLemmas.{nearest_in_front}
use Rattle.tb_cause.proofs.nearest.nearest_places.Goals as goal
use Rattle.tb_steps.proofs.FirstLemmas.{there}

pub nearest_among-requires-clause-legal : goal.nearest_among-requires-clause-legal
nearest_among-requires-clause-legal c =
    let w = there c.args.entries.now c.args.at c.requires.within in
    subst AreLegal (sym c.front.ensures) (legal_so_far c.args.entries.now c.args.at w.0 c.requires.within w.1 c.requires.legal)

pub returns : goal.returns
returns c = nearest_in_front c.args.entries.now c.args.at c.in_ok-places.places.items c.requires.within (subst (λ (es : List Entry). AreNearest es c.args.at c.in_ok-places.places.items) c.front.ensures c.in_ok-places.ensures)
