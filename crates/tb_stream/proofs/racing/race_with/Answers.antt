use Rattle.tb_stream.specs.Halves.{event_of}
use Rattle.tb_stream.proofs.HalfLemmas.{none_found}
use Rattle.tb_stream.proofs.racing.race_with.Goals as goal

pub returns-in-None : goal.returns-in-None
returns-in-None c cells H exclusion r ids begins number found apart =
    none_found exclusion H (event_of c.args.name.now c.args.action.now) r begins c.args.earlier c.in-None.is found
