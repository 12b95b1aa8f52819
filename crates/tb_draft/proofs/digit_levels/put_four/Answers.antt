use Rattle.std.proofs.Common.{◌∙◌, ◌≡◌, arith, refl, rules}
use Rattle.tb_draft.proofs.DigitLevelLemmas.{turn_four, turned_four, four_text, text_at}
use Rattle.tb_draft.proofs.digit_levels.put_four.Goals as goal

pub returns : goal.returns
returns c =
    let turned : c.to_le_bytes-turned.result ≡ turned_four c.args.numbers.now = c.to_le_bytes-turned.ensures ∙ turn_four c.args.numbers.now c.from_be_bytes.result (search rules) (search rules) in
    rw turned (text_at c.args.at 8 c.args.bytes.now _ _ (four_text c.args.numbers.now c.requires.numbers.0 c.requires.numbers.1) refl (omega (arith, c.requires.room)))
