use Rattle.tb_model.specs.Facts.{is_of}
use Rattle.tb_cause.proofs.OwnPlaceLemmas.{lent}
use Rattle.tb_cause.proofs.asking.place_among.Goals as goal

pub place_in-requires : goal.place_in-requires
place_in-requires c = lent c.args.entries.now c.args.core.now.run (is_of c.args.step.now.task) c.events_of.result.now c.requires c.events_of.ensures
