use Rattle.tb_plain.proofs.DecidedLemmas.{legal_answer}
use Rattle.tb_plain.proofs.legality.is_legal.Goals as goal

pub returns : goal.returns
returns c = legal_answer c.args.cells.now c.args.history.now c.all_follow.result c.all_follow.ensures
