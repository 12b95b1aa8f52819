-- A number without a leading zero, by its value.
use Rattle.std.proofs.Common.{◌≡◌, ℕ, ◌<◌, ◌^◌, List, [], ◌∷◌, Bool, true, cond, not, length, Some, None, arith, refl, nat_le, nat_lt, ◌&&◌, ◌==◌}
use Rattle.std.proofs.lemmas.Bool.Decides.{nat_tests}
use Rattle.std.specs.List.{list_all}
use Rattle.std.specs.Char.{is_ascii_digit}
use Rattle.std.specs.Str.Parse.{digits_value}
use Rattle.tb_read.specs.Word.{magnitude_of}
use Rattle.tb_runs.specs.Names.{ordinal_of}

none_by : (some digits zero from_one : Bool) (value most : ℕ) → some ≡ true → most < 2 ^ 63 → cond ((some && digits) && nat_le value (2 ^ 63)) (Some value) None ≡ None →
    None ≡ cond (digits && (zero && (from_one && nat_le value most))) (Some value) None
none_by some digits zero from_one value most s small h = grind (arith, nat_tests)

some_length : (d : ℕ) (ds : List ℕ) → nat_lt 0 (length (d ∷ ds)) ≡ true
some_length d ds = grind (arith, nat_tests)

-- where the digits have no value in range, they are none
pub ordinal_none : (most : ℕ) (digits : List ℕ) → most < 2 ^ 63 → magnitude_of digits ≡ None → None ≡ ordinal_of most digits
ordinal_none most [] small h = refl
ordinal_none most (d ∷ ds) small h =
    none_by (nat_lt 0 (length (d ∷ ds))) (list_all is_ascii_digit (d ∷ ds)) (not (d == 48)) (nat_lt 0 (digits_value 10 (d ∷ ds))) (digits_value 10 (d ∷ ds)) most (some_length d ds) small h
