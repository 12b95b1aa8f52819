use Rattle.tb_excl.proofs.PlaceLemmas.{set_from_one}
use Rattle.tb_excl.proofs.holders.Holders.set_place.Goals as goal

pub invariant_of-self : goal.invariant_of-self
invariant_of-self c =
    set_from_one c.self.inside.parent c.self.inside.cells c.set.new.self c.self.inside.all c.args.to c.in-Cell.cell c.set.ensures c.requires.from_one c.self.invariant
