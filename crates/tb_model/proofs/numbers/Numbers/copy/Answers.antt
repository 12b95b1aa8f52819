use Rattle.std.proofs.Common.{ap, length, arith, subst}
use Rattle.tb_model.specs.Stored.{numbers_in, IsShortest}
use Rattle.tb_model.proofs.BlockLemmas.{deep_length}
use Rattle.tb_model.proofs.numbers.Numbers.copy.Goals as goal

pub returns-in_err-try_clone-in-Deep-clause-short : goal.returns-in_err-try_clone-in-Deep-clause-short
returns-in_err-try_clone-in-Deep-clause-short c few =
    let kept = subst IsShortest c.in-Deep.is c.self.invariant in
    let long = deep_length _ _ kept.1 kept.0 in
    let same = ap (λ s. length (numbers_in s)) c.in-Deep.is in
    let seen = ap length c.self.view_is in
    absurd (omega (arith, few, long, same, seen))
