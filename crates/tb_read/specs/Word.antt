-- What a word is: a number, a register, an operand, an operator, a comparison, a dependence type, a name.
use Rattle.std.specs.Prelude.{ℕ, ◌+◌, ◌-◌, ◌^◌, Bool, false, List, [], ◌∷◌, ◌==◌, if◌then◌else◌, nat_le, nat_lt, length, slice_index, ℤ, pos, neg_ℤ, Option, Some, None, ◌||◌, ◌&&◌, codes, nat_eq, slice_index_or}
use Rattle.std.specs.List.{list_all}
use Rattle.std.specs.Char.{is_ascii_alphabetic, is_ascii_digit}
use Rattle.std.specs.Str.Parse.{digits_value}
use Rattle.std.specs.Cmp.Lexicographic.{pointwise}
use Rattle.tb_model.specs.declared.operand.Operand.{Operand}
use Rattle.tb_model.specs.declared.operand.Operand.TheVariants.{Number, Register}
use Rattle.tb_model.specs.declared.operator.Operator.{Operator}
use Rattle.tb_model.specs.declared.operator.Operator.TheVariants.{Plus, Minus, Times}
use Rattle.tb_model.specs.declared.comparison.Comparison.{Comparison}
use Rattle.tb_model.specs.declared.comparison.Comparison.TheVariants.{Equal, Unequal, Less, AtMost}
use Rattle.tb_model.specs.declared.kind.Kind.{Kind}
use Rattle.tb_model.specs.declared.kind.Kind.TheVariants.{In, Out, Inout, Mutexinoutset, Inoutset}

abbrev pub Word : Type 0
Word = List ℕ

abbrev pub same_word : Word → Word → Bool
same_word a b = pointwise nat_eq a b

-- a word by its index; a line that is too short has an empty one there
abbrev pub word_at : List Word → ℕ → Word
word_at words at = slice_index_or words at []

abbrev pub is_numeral : List ℕ → Bool
is_numeral digits = nat_lt 0 (length digits) && list_all is_ascii_digit digits

-- the value of one or more digits, up to that of the least number
abbrev pub magnitude_of : List ℕ → Option ℕ
magnitude_of digits = if is_numeral digits && nat_le (digits_value 10 digits) (2 ^ 63) then Some (digits_value 10 digits) else None

abbrev pub number_above : List ℕ → Option ℤ
number_above digits = if is_numeral digits && nat_lt (digits_value 10 digits) (2 ^ 63) then Some (pos (digits_value 10 digits)) else None

abbrev pub number_below : List ℕ → Option ℤ
number_below digits = if is_numeral digits && nat_le (digits_value 10 digits) (2 ^ 63) then Some (neg_ℤ (pos (digits_value 10 digits))) else None

-- an optional `-` and one or more digits, with a value in i64
abbrev pub number_of : List ℕ → Option ℤ
number_of [] = None
number_of (b ∷ bytes) = if b == 45 then number_below bytes else number_above (b ∷ bytes)

-- `r0` to `r15`, spelled so
abbrev pub register_of : List ℕ → Option ℕ
register_of (r ∷ d ∷ []) = if (r == 114) && is_ascii_digit d then Some (d - 48) else None
register_of (r ∷ t ∷ d ∷ []) = if (r == 114) && ((t == 49) && (nat_le 48 d && nat_le d 53)) then Some (10 + (d - 48)) else None
register_of _ = None

-- `r` with digits after it
abbrev pub resembles_register : List ℕ → Bool
resembles_register [] = false
resembles_register (r ∷ digits) = (r == 114) && is_numeral digits

abbrev pub begins_name : ℕ → Bool
begins_name b = is_ascii_alphabetic b || (b == 95)

abbrev pub continues_name : ℕ → Bool
continues_name b = begins_name b || is_ascii_digit b

-- a letter or `_`, then letters, digits and `_`, at most 32 bytes
abbrev pub is_name : List ℕ → Bool
is_name word = nat_lt 0 (length word) && (nat_le (length word) 32 && (begins_name (slice_index word 0) && list_all continues_name word))

-- a number or a register
abbrev pub operand_by : Option ℤ → Option ℕ → Option Operand
operand_by (Some x) r = Some (Number x)
operand_by None (Some r) = Some (Register r)
operand_by None None = None

abbrev pub operand_of : Word → Option Operand
operand_of word = operand_by (number_of word) (register_of word)

abbrev pub operator_of : Word → Option Operator
operator_of word =
    if same_word word (codes "+") then Some Plus
    else (if same_word word (codes "-") then Some Minus
    else (if same_word word (codes "*") then Some Times
    else None))

abbrev pub comparison_of : Word → Option Comparison
comparison_of word =
    if same_word word (codes "==") then Some Equal
    else (if same_word word (codes "!=") then Some Unequal
    else (if same_word word (codes "<") then Some Less
    else (if same_word word (codes "<=") then Some AtMost
    else None)))

-- a dependence type: OpenMP 5.2, 15.9.5 depend Clause
abbrev pub kind_of : Word → Option Kind
kind_of word =
    if same_word word (codes "in") then Some In
    else (if same_word word (codes "out") then Some Out
    else (if same_word word (codes "inout") then Some Inout
    else (if same_word word (codes "mutexinoutset") then Some Mutexinoutset
    else (if same_word word (codes "inoutset") then Some Inoutset
    else None))))

-- `all` means all memory
abbrev pub is_all : Word → Bool
is_all word = same_word word (codes "all")
