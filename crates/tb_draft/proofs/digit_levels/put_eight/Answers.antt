use Rattle.std.proofs.Common.{◌∙◌, ◌≡◌, arith, refl, rules}
use Rattle.tb_draft.proofs.DigitLevelLemmas.{turn_eight, turned_eight, eight_text, text_at}
use Rattle.tb_draft.proofs.digit_levels.put_eight.Goals as goal

pub returns : goal.returns
returns c =
    let turned : c.to_le_bytes-turned.result ≡ turned_eight c.args.numbers.now = c.to_le_bytes-turned.ensures ∙ turn_eight c.args.numbers.now c.from_be_bytes.result (search rules) (search rules) in
    rw turned (text_at c.args.at 16 c.args.bytes.now _ _ (eight_text c.args.numbers.now c.requires.numbers.0 c.requires.numbers.1) refl (omega (arith, c.requires.room)))
