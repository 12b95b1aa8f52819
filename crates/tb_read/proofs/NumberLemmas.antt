-- What digits write.
use Rattle.std.proofs.Common.{◌≡◌, ℕ, ◌<◌, ◌≤◌, ◌^◌, ◌*◌, ◌+◌, List, [], ◌∷◌, Bool, true, false, cond, length, None, Some, arith, refl, nat_le, ◌&&◌}
use Rattle.std.proofs.lemmas.Bool.Decides.{nat_tests}
use Rattle.std.specs.Char.{digit_value}
use Rattle.std.specs.Str.Parse.{digits_value, digits_value_after}
use Rattle.tb_read.specs.Word.{is_numeral, magnitude_of}

value_grows : (value : ℕ) (digits : List ℕ) → value ≤ digits_value_after 10 value digits
value_grows value [] = omega arith
value_grows value (d ∷ digits) = omega (arith, value_grows (value * 10 + digit_value d) digits)

none_by : (numeral : Bool) (value most : ℕ) → most < value → None ≡ cond (numeral && nat_le value most) (Some value) None
none_by true value most h = grind (arith, nat_tests)
none_by false value most h = refl

-- one more digit makes the value too large, whatever comes after it
pub too_large : (digits left : List ℕ) (value : ℕ) → 1 ≤ length left → 922337203685477580 < value →
    digits_value_after 10 value left ≡ digits_value 10 digits → None ≡ magnitude_of digits
too_large digits [] value some above same = absurd (omega arith)
too_large digits (d ∷ left) value some above same =
    none_by (is_numeral digits) (digits_value 10 digits) (2 ^ 63) (omega (arith, same, value_grows (value * 10 + digit_value d) left))
