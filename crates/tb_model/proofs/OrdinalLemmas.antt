-- What `parse` gives of digits is the number from 1 to 1,000,000 that they spell.
use Rattle.std.proofs.Common.{◌≡◌, ◌≢◌, ℕ, zero, suc, ◌<◌, ◌≤◌, ◌^◌, List, [], ◌∷◌, Bool, true, false, cond, length, get_or, Some, None, Result, Ok, Err, arith, refl, ap, ◌∙◌, rules, nat_le, not, ◌==◌, ◌&&◌}
use Rattle.std.proofs.lemmas.Bool.{and_parts, and_from}
use Rattle.std.proofs.lemmas.Bool.Decides.{nat_tests}
use Rattle.std.proofs.lemmas.Str.{IsUtf8-from_ascii}
use Rattle.std.specs.Str.{IsAscii, IsUtf8}
use Rattle.std.specs.List.{list_all}
use Rattle.std.specs.Result.{OkIff}
use Rattle.std.specs.Char.{is_ascii_digit}
use Rattle.std.specs.Str.Parse.{ParsesUnsigned, digits_value}
use Rattle.std.proofs.lemmas.Str.Parse.{IsNumeralModel, IsDigitsTest, numerals_by_value, parse_plain}
use Rattle.tb_model.specs.Spelling.{is_ordinal, ordinal_of}

digits_test : IsDigitsTest (λ ds. list_all is_ascii_digit ds ≡ true)
digits_test = search rules

pub numerals : IsNumeralModel (λ ds. list_all is_ascii_digit ds ≡ true) (digits_value 10)
numerals = numerals_by_value _ digits_test

-- what the test says
pub record Ordinal (digits : List ℕ) : Type 0 where
  pub some : 0 < length digits
  pub all : list_all is_ascii_digit digits ≡ true
  pub first : get_or digits 0 0 ≢ 48
  pub value : digits_value 10 digits ≤ 1000000

pub ordinal_parts : (digits : List ℕ) → is_ordinal digits ≡ true → Ordinal digits
ordinal_parts [] h = absurd (let e : false ≡ true = h in cc)
ordinal_parts (d ∷ ds) h =
    let p = and_parts _ _ h in
    let q = and_parts (not (d == 48)) _ p.1 in
    record { some = omega arith; all = p.0; first = λ e. (let b = q.0 in grind (arith, nat_tests)); value = (let b = q.1 in grind (arith, nat_tests)) }

pub ordinal_from : (digits : List ℕ) → Ordinal digits → is_ordinal digits ≡ true
ordinal_from [] o = absurd (omega (arith, o.some))
ordinal_from (d ∷ ds) o =
    let first : not (d == 48) ≡ true = (let f = o.first in grind (arith, nat_tests)) in
    let small : nat_le (digits_value 10 (d ∷ ds)) 1000000 ≡ true = (let v = o.value in grind (arith, nat_tests)) in
    and_from _ _ o.all (and_from _ _ first small)

none_unless : (t : Bool) (n : ℕ) → (t ≡ true → ⊥) → None ≡ cond t (Some n) None
none_unless true n h = absurd (h refl)
none_unless false n h = refl

some_where : (t : Bool) (n : ℕ) → t ≡ true → Some n ≡ cond t (Some n) None
some_where true n h = refl
some_where false n h = absurd (let e : false ≡ true = h in cc)

pub no_ordinal : (digits : List ℕ) → (Ordinal digits → ⊥) → None ≡ ordinal_of digits
no_ordinal digits h = none_unless (is_ordinal digits) _ (λ e. h (ordinal_parts digits e))

head_ascii : (d : ℕ) (t : Bool) → (is_ascii_digit d && t) ≡ true → d < 128
head_ascii d t h = grind (arith, nat_tests)

pub digits_ascii : (bytes : List ℕ) → list_all is_ascii_digit bytes ≡ true → IsAscii bytes
digits_ascii [] h i = omega arith
digits_ascii (d ∷ digits) h zero = head_ascii d (list_all is_ascii_digit digits) h
digits_ascii (d ∷ digits) h (suc i) = digits_ascii digits (and_parts (is_ascii_digit d) _ h).1 i

-- what isn't text spells none
pub no_text : (digits : List ℕ) → (IsUtf8 digits → ⊥) → None ≡ ordinal_of digits
no_text digits h = no_ordinal digits (λ o. h (IsUtf8-from_ascii _ (digits_ascii digits o.all)))

-- what `parse` gave
read : {E : Type 0} (digits : List ℕ) (r : Result ℕ E) → ParsesUnsigned 32 10 digits r → get_or digits 0 0 ≢ 43 → OkIff r ((list_all is_ascii_digit digits ≡ true) × (0 < length digits) × (digits_value 10 digits < 2 ^ 32)) (digits_value 10 digits)
read digits r h plain = parse_plain numerals 32 digits r h plain

pub small : {E : Type 0} (digits : List ℕ) (r : Result ℕ E) (n : ℕ) → ParsesUnsigned 32 10 digits r → r ≡ Ok n → get_or digits 0 0 ≢ 43 → get_or digits 0 0 ≢ 48 → n ≤ 1000000 → Some n ≡ ordinal_of digits
small {E} digits r n h is plain first le =
    let got = rw is at (read digits r h plain) in
    let o : Ordinal digits = record { some = got.0.1; all = got.0.0; first = first; value = omega (arith, got.1) } in
    ap Some got.1 ∙ some_where (is_ordinal digits) _ (ordinal_from digits o)

pub large : {E : Type 0} (digits : List ℕ) (r : Result ℕ E) (n : ℕ) → ParsesUnsigned 32 10 digits r → r ≡ Ok n → get_or digits 0 0 ≢ 43 → 1000000 < n → None ≡ ordinal_of digits
large {E} digits r n h is plain gt =
    let got = rw is at (read digits r h plain) in
    no_ordinal digits (λ o. omega (arith, o.value, got.1))

pub unread : {E : Type 0} (digits : List ℕ) (r : Result ℕ E) (e : E) → ParsesUnsigned 32 10 digits r → r ≡ Err e → get_or digits 0 0 ≢ 43 → None ≡ ordinal_of digits
unread {E} digits r e h is plain =
    let got = rw is at (read digits r h plain) in
    no_ordinal digits (λ o. got (o.all, o.some, omega (arith, o.value)))
