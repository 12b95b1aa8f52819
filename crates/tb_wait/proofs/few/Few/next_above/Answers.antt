use Rattle.std.proofs.Common.{rules, arith}
use Rattle.tb_wait.proofs.FewLemmas.{held_next, held_last, held_far}
use Rattle.tb_wait.proofs.few.Few.next_above.Goals as goal

pub returns-then-low-ge63 : goal.returns-then-low-ge63
returns-then-low-ge63 c = held_far c.args.self.now.bits c.args.low c.if-low-ge63.true

pub returns-then-left-eq0 : goal.returns-then-left-eq0
returns-then-left-eq0 c = held_last c.args.self.now.bits c.args.low (search rules) c.if-left-eq0.true

pub returns-else-left-eq0 : goal.returns-else-left-eq0
returns-else-left-eq0 c = held_next c.args.self.now.bits c.args.low (search rules) (omega (arith, c.if-left-eq0.false))
