use Rattle.std.proofs.Common.{◌≡◌, ◌+◌, ◌-◌, arith, append_assoc}
use Rattle.tb_draft.proofs.DigitLemmas.{decimal_pair, length_pair}
use Rattle.tb_draft.proofs.digits.put_digits.Goals as goal

pub overflow_sub-at : goal.overflow_sub-at
overflow_sub-at c = omega (arith, length_pair c.pairs.left c.pairs-test.true (omega arith))

pub pairs-preserved : goal.pairs-preserved
pairs-preserved c =
    let l = c.pairs in
    let long = length_pair l.left c.pairs-test.true (omega arith) in
    let back : l.at - 2 + 2 ≡ l.at = omega arith in
    record {
      room = omega arith;
      within = omega arith;
      start = omega arith;
      digits = rw (c.put_pair.ensures, back) (rw (decimal_pair l.left c.pairs-test.true (omega arith), append_assoc) at l.invariant.digits);
    }
