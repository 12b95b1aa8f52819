use Rattle.tb_plain.proofs.DecidedLemmas.{follow_answer}
use Rattle.tb_plain.proofs.legality.may_follow.Goals as goal

pub returns : goal.returns
returns c = follow_answer c.args.cells.now c.args.history.now c.args.v.now c.follows.result c.follows.ensures
