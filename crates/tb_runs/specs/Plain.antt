-- Words that are read as they are in a line: their ends aren't looked for first.
use Rattle.std.specs.Prelude.{ℕ, ◌+◌, ◌*◌, ◌==◌, ◌&&◌, not, Bool, false, List, [], ◌∷◌, Option, Some, None, if◌then◌else◌}
use Rattle.std.specs.Char.{is_ascii_digit, digit_value}

-- the number that goes on with these digits, up to a blank or the end, and what comes after it
abbrev pub numeral_on : ℕ → List ℕ → Option (ℕ × List ℕ)
numeral_on value [] = Some (value, [])
numeral_on value (b ∷ bytes) =
    if is_ascii_digit b then numeral_on (value * 10 + digit_value b) bytes
    else (if b == 32 then Some (value, bytes) else None)

abbrev pub begins_digit : List ℕ → Bool
begins_digit [] = false
begins_digit (b ∷ bytes) = is_ascii_digit b

-- a digit, and no leading zero
abbrev pub begins_ordinal : List ℕ → Bool
begins_ordinal [] = false
begins_ordinal (b ∷ bytes) = is_ascii_digit b && not (b == 48)
