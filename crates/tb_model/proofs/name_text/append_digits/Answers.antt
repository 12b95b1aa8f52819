use Rattle.std.proofs.Common.{sym, subst}
use Rattle.std.specs.Str.{IsUtf8}
use Rattle.tb_model.proofs.NumberTextLemmas.{levels_are_text}
use Rattle.tb_model.proofs.name_text.append_digits.Goals as goal

pub from_utf8_unchecked-requires : goal.from_utf8_unchecked-requires
from_utf8_unchecked-requires c = subst IsUtf8 (sym c.digit_levels-levels.ensures) (levels_are_text c.args.numbers.now c.requires.digits)
