use Rattle.std.proofs.Common.{arith, sym}
use Rattle.tb_model.proofs.WithinLemmas.{different}
use Rattle.tb_model.proofs.numbers.Numbers.is_same_elsewhere.Goals as goal

pub returns-in-None : goal.returns-in-None
returns-in-None c = sym (different c.args.self.now c.args.other.now (λ e. omega (arith, e, c.in-Some.ensures.few, c.in-None.ensures.none)))

pub returns-in-Some-short-2 : goal.returns-in-Some-short-2
returns-in-Some-short-2 c = sym (different c.args.self.now c.args.other.now (λ e. omega (arith, e, c.in-Some-short-2.ensures.few, c.in_default.ensures.none)))
