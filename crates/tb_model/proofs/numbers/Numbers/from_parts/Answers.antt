use Rattle.std.proofs.Common.{◌<◌, subst, length, arith}
use Rattle.tb_model.proofs.BlockLemmas.{deep_length, not_zero}
use Rattle.tb_model.proofs.numbers.Numbers.from_parts.Goals as goal

pub shared-requires : goal.shared-requires
shared-requires c =
    subst (λ x. 128 < length x) c.parts.view_is (deep_length c.parts.inside.near c.parts.inside.far.now c.parts.invariant (not_zero _ c.if-is_empty.ensures))

pub returns-in_err-shared-clause-short : goal.returns-in_err-shared-clause-short
returns-in_err-shared-clause-short c few = absurd (omega (
  arith,
  few,
  subst (λ x. 128 < length x) c.parts.view_is (deep_length c.parts.inside.near c.parts.inside.far.now c.parts.invariant (not_zero _ c.if-is_empty.ensures)),
))

pub returns-in_err-new-clause-short : goal.returns-in_err-new-clause-short
returns-in_err-new-clause-short c few = absurd (omega (
  arith,
  few,
  subst (λ x. 128 < length x) c.parts.view_is (deep_length c.parts.inside.near c.parts.inside.far.now c.parts.invariant (not_zero _ c.if-is_empty.ensures)),
))
