use Rattle.std.proofs.Common.{arith}
use Rattle.tb_model.proofs.NumberTextLemmas.{one_digit}
use Rattle.tb_model.proofs.number_text.append_number.Goals as goal

pub returns-then-n-lt10-clause-ok : goal.returns-then-n-lt10-clause-ok
returns-then-n-lt10-clause-ok c = one_digit _ c.args.n _ _ c.push.result c.if-n-lt10.true (omega arith) c.push.ensures.bytes c.push.ensures.ascii
