use Rattle.std.proofs.Common.{◌≡◌, ◌-◌, drop, arith, subst}
use Rattle.std.specs.Str.{IsUtf8}
use Rattle.tb_draft.proofs.ShortTextLemmas.{level_is}
use Rattle.tb_draft.proofs.short_text.ShortText.prepend_four.Goals as goal

pub invariant_of-self : goal.invariant_of-self
invariant_of-self c =
    let at = c.self.inside.at in
    let four : at - 2 - 2 ≡ at - 4 = omega arith in
    let six : at - 4 - 2 ≡ at - 6 = omega arith in
    let eight : at - 6 - 2 ≡ at - 8 = omega arith in
    let first = level_is _ _ c.args.a c.put_digit_level.ensures (omega (arith, c.requires)) c.self.invariant.1 in
    let second = level_is _ _ c.args.b c.put_digit_level-2.ensures (omega (arith, c.requires)) first in
    let third = level_is _ _ c.args.c c.put_digit_level-3.ensures (omega (arith, c.requires)) (subst (λ k. IsUtf8 (drop k c.put_digit_level-2.new.bytes)) four second) in
    let fourth = level_is _ _ c.args.d c.put_digit_level-4.ensures (omega (arith, c.requires)) (subst (λ k. IsUtf8 (drop k c.put_digit_level-3.new.bytes)) six third) in
    (omega (arith, c.self.invariant.0), subst (λ k. IsUtf8 (drop k c.put_digit_level-4.new.bytes)) eight fourth)
