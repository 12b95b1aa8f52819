use Rattle.std.proofs.Common.{rules}
use Rattle.tb_wait.proofs.FewLemmas.{held_empty}
use Rattle.tb_wait.proofs.few.Few.is_empty.Goals as goal

pub returns : goal.returns
returns c = held_empty c.args.self.now.bits (search rules)
