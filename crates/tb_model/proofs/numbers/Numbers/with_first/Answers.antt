use Rattle.std.proofs.Common.{◌≤◌, inl, inr, arith, length, subst}
use Rattle.tb_model.proofs.BlockLemmas.{not_zero, at_least_full}
use Rattle.tb_model.proofs.numbers.Numbers.with_first.Goals.{else-is_empty-via-then-is_empty+else-near-lt-BLOCK, else-is_empty-via-else-is_empty}
use Rattle.tb_model.proofs.numbers.Numbers.with_first.Goals as goal

pub grown-requires : goal.grown-requires
grown-requires c =
    at_least_full c.rest.inside.near c.rest.inside.far.now c.args.rest.now c.rest.invariant c.rest.view_is
    (elim c.else-is_empty.branch [
      | else-is_empty-via-then-is_empty+else-near-lt-BLOCK w ↦ inl (subst (λ n. 128 ≤ length n) c.as_slice-near.ensures w.if-near-lt-BLOCK.false)
      | else-is_empty-via-else-is_empty w ↦ inr (not_zero _ w.if-is_empty.ensures)
    ])

pub returns-in_err-grown-clause-short : goal.returns-in_err-grown-clause-short
returns-in_err-grown-clause-short c few =
    absurd (omega (
      arith,
      few,
      at_least_full c.rest.inside.near c.rest.inside.far.now c.args.rest.now c.rest.invariant c.rest.view_is
          (elim c.else-is_empty.branch [
            | else-is_empty-via-then-is_empty+else-near-lt-BLOCK w ↦ inl (subst (λ n. 128 ≤ length n) c.as_slice-near.ensures w.if-near-lt-BLOCK.false)
            | else-is_empty-via-else-is_empty w ↦ inr (not_zero _ w.if-is_empty.ensures)
          ]),
    ))

pub returns-in_err-new-clause-short : goal.returns-in_err-new-clause-short
returns-in_err-new-clause-short c few =
    absurd (omega (
      arith,
      few,
      at_least_full c.rest.inside.near c.rest.inside.far.now c.args.rest.now c.rest.invariant c.rest.view_is
          (elim c.else-is_empty.branch [
            | else-is_empty-via-then-is_empty+else-near-lt-BLOCK w ↦ inl (subst (λ n. 128 ≤ length n) c.as_slice-near.ensures w.if-near-lt-BLOCK.false)
            | else-is_empty-via-else-is_empty w ↦ inr (not_zero _ w.if-is_empty.ensures)
          ]),
    ))
