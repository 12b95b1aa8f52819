use Rattle.tb_wait.proofs.NearLemmas.{place_found}
use Rattle.tb_wait.proofs.near.Near.find_below.Goals as goal

pub returns-in-None : goal.returns-in-None
returns-in-None c =
    place_found c.args.name.now c.args.names.now.keys c.place_of.result c.stands_at.ensures.distinct (c.place_of.ensures c.args.names.now.keys c.requires.0 c.requires.1)
