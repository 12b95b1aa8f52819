use Rattle.std.proofs.Common.{sym, ◌∙◌}
use Rattle.tb_runs.proofs.PlainLemmas.{digits_read}
use Rattle.tb_runs.proofs.plain.plain_digits.Goals as goal

pub returns-clause-number : goal.returns-clause-number
returns-clause-number c =
    let begins = sym c.begins_digit.ensures ∙ c.if-not-begins_digit.false in
    digits_read c.args.bytes.now c.in_ok-value.rest.now c.in_ok-value.value begins c.in_ok-value.ensures.number c.in_ok-value.ensures.most
