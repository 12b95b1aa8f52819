use Rattle.std.proofs.Common.{arith, rules}
use Rattle.tb_model.proofs.NumberTextLemmas.{levels_are_text}
use Rattle.tb_draft.proofs.ShortTextLemmas.{text_is}
use Rattle.tb_draft.proofs.short_text.ShortText.prepend_digits.Goals as goal

pub invariant_of-self : goal.invariant_of-self
invariant_of-self c =
    (omega (arith, c.self.invariant.0), text_is _ _ _ (c.put_digit_levels-put.ensures.put (search rules)) (levels_are_text c.args.numbers.now (c.put_digit_levels-put.ensures.digits (search rules))) c.self.invariant.1)
