use Rattle.std.proofs.Common.{◌≡◌, ◌∙◌, ◌&&◌, true, sym, arith, rules}
use Rattle.std.specs.Cmp.{first_so, second_so}
use Rattle.tb_draft.proofs.DigitLevelLemmas.{both_put, all_digits}
use Rattle.tb_draft.proofs.digit_levels.put_digit_levels.Goals as goal

pub returns-then-count-ge8-clause-put : goal.returns-then-count-ge8-clause-put
returns-then-count-ge8-clause-put c = λ _.
    let both : (c.are_eight_digits.result && c.are_eight_digits-then-count-ge8.result) ≡ true = search rules in
    both_put 8 c.args.end c.args.numbers.now c.args.bytes.now c.put_eight.new.bytes c.put_eight-then-count-ge8.new.bytes
    c.if-count-ge8.true (omega arith) c.requires.0 (sym c.are_eight_digits.ensures ∙ first_so _ _ both) c.put_eight.ensures c.put_eight-then-count-ge8.ensures

pub returns-then-count-ge8-clause-digits : goal.returns-then-count-ge8-clause-digits
returns-then-count-ge8-clause-digits c = λ _.
    let both : (c.are_eight_digits.result && c.are_eight_digits-then-count-ge8.result) ≡ true = search rules in
    all_digits 8 c.args.numbers.now c.if-count-ge8.true (omega arith) (sym c.are_eight_digits.ensures ∙ first_so _ _ both) (sym c.are_eight_digits-then-count-ge8.ensures ∙ second_so _ _ both)

pub returns-clause-put : goal.returns-clause-put
returns-clause-put c = λ _.
    let both : (c.are_four_digits.result && c.are_four_digits-2.result) ≡ true = search rules in
    both_put 4 c.args.end c.args.numbers.now c.args.bytes.now c.put_four.new.bytes c.put_four-2.new.bytes
    (omega arith) (omega arith) c.requires.0 (sym c.are_four_digits.ensures ∙ first_so _ _ both) c.put_four.ensures c.put_four-2.ensures

pub returns-clause-digits : goal.returns-clause-digits
returns-clause-digits c = λ _.
    let both : (c.are_four_digits.result && c.are_four_digits-2.result) ≡ true = search rules in
    all_digits 4 c.args.numbers.now (omega arith) (omega arith) (sym c.are_four_digits.ensures ∙ first_so _ _ both) (sym c.are_four_digits-2.ensures ∙ second_so _ _ both)
