use Rattle.std.proofs.Common.{◌≡◌, ◌+◌, ◌-◌, ◌%◌, arith, append_assoc, length-set}
use Rattle.std.proofs.lemmas.Fmt.{decimal_step}
use Rattle.std.proofs.lemmas.List.{drop-set}
use Rattle.tb_draft.proofs.DigitLemmas.{length_step}
use Rattle.tb_draft.proofs.digits.put_long.Goals as goal

pub overflow_sub-at : goal.overflow_sub-at
overflow_sub-at c = omega (arith, length_step c.digits.left (omega arith) (omega arith))

pub digits-preserved : goal.digits-preserved
digits-preserved c =
    let l = c.digits in
    let step = length_step l.left (omega arith) (omega arith) in
    let back : l.at - 1 + 1 ≡ l.at = omega arith in
    record {
      room = omega arith;
      within = omega arith;
      long = omega (arith, length-set l.bytes (l.at - 1) (48 + l.left % 10));
      start = omega arith;
      digits = rw (drop-set l.bytes (l.at - 1) _ (omega arith), back) (rw (decimal_step l.left (omega arith) (omega arith), append_assoc) at l.invariant.digits);
    }
