use Rattle.std.proofs.Common.{ap, length, arith, subst}
use Rattle.tb_model.specs.Stored.{numbers_in, IsShortest}
use Rattle.tb_model.proofs.BlockLemmas.{deep_length}
use Rattle.tb_model.proofs.numbers.Numbers.short.Goals as goal

pub returns-in-Deep-clause-none : goal.returns-in-Deep-clause-none
returns-in-Deep-clause-none c =
    let kept = subst IsShortest c.in-Deep.is c.self.invariant in
    let long = deep_length _ _ kept.1 kept.0 in
    let same = ap (λ s. length (numbers_in s)) c.in-Deep.is in
    let seen = ap length c.self.view_is in
    omega (arith, long, same, seen)
