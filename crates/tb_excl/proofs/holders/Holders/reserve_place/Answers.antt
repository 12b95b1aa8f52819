use Rattle.tb_excl.proofs.PlaceLemmas.{reserved_from_one}
use Rattle.tb_excl.proofs.holders.Holders.reserve_place.Goals as goal

pub invariant_of-self : goal.invariant_of-self
invariant_of-self c =
    reserved_from_one c.self.inside.parent c.self.inside.cells c.reserve.new.self c.self.inside.all c.reserve.ensures.same c.self.invariant
