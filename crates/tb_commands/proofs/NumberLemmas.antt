-- What `parse` gives of digits is the value that they spell.
use Rattle.std.proofs.Common.{◌≡◌, ◌≢◌, ℕ, ◌<◌, ◌≤◌, ◌^◌, List, [], ◌∷◌, Bool, true, false, cond, length, get_or, Some, None, Result, Ok, Err, arith, refl, ap, ◌∙◌, nat_le, nat_lt}
use Rattle.std.proofs.lemmas.Bool.{and_parts, and_from}
use Rattle.std.proofs.lemmas.Bool.Decides.{nat_tests}
use Rattle.std.proofs.lemmas.Str.{IsUtf8-from_ascii}
use Rattle.std.specs.Str.{IsUtf8}
use Rattle.std.specs.List.{list_all}
use Rattle.std.specs.Result.{OkIff}
use Rattle.std.specs.Char.{is_ascii_digit}
use Rattle.std.specs.Str.Parse.{ParsesUnsigned, digits_value}
use Rattle.std.proofs.lemmas.Str.Parse.{parse_plain}
use Rattle.tb_model.proofs.OrdinalLemmas.{numerals, digits_ascii}
use Rattle.tb_commands.specs.Commands.{is_number, number_within}

-- what the test says
record Number (most : ℕ) (word : List ℕ) : Type 0 where
  pub some : 0 < length word
  pub all : list_all is_ascii_digit word ≡ true
  pub value : digits_value 10 word ≤ most

number_parts : (most : ℕ) (word : List ℕ) → is_number most word ≡ true → Number most word
number_parts most word h =
    let p = and_parts (nat_lt 0 (length word)) _ h in
    let q = and_parts (list_all is_ascii_digit word) _ p.1 in
    record { some = (let b = p.0 in grind (arith, nat_tests)); all = q.0; value = (let b = q.1 in grind (arith, nat_tests)) }

number_from : (most : ℕ) (word : List ℕ) → Number most word → is_number most word ≡ true
number_from most word n =
    let some : nat_lt 0 (length word) ≡ true = (let f = n.some in grind (arith, nat_tests)) in
    let small : nat_le (digits_value 10 word) most ≡ true = (let v = n.value in grind (arith, nat_tests)) in
    and_from _ _ some (and_from _ _ n.all small)

none_unless : (t : Bool) (n : ℕ) → (t ≡ true → ⊥) → None ≡ cond t (Some n) None
none_unless true n h = absurd (h refl)
none_unless false n h = refl

some_where : (t : Bool) (n : ℕ) → t ≡ true → Some n ≡ cond t (Some n) None
some_where true n h = refl
some_where false n h = absurd (let e : false ≡ true = h in cc)

no_number : (most : ℕ) (word : List ℕ) → (Number most word → ⊥) → None ≡ number_within most word
no_number most word h = none_unless (is_number most word) _ (λ e. h (number_parts most word e))

pub empty : (most : ℕ) (word : List ℕ) → length word ≡ 0 → None ≡ number_within most word
empty most word e = no_number most word (λ n. omega (arith, n.some))

plus_is_no_digit : (word : List ℕ) → get_or word 0 0 ≡ 43 → list_all is_ascii_digit word ≡ true → ⊥
plus_is_no_digit [] e h = cc
plus_is_no_digit (d ∷ ds) e h = let p = and_parts (is_ascii_digit d) _ h in let b = p.0 in grind (arith, nat_tests)

pub signed : (most : ℕ) (word : List ℕ) → get_or word 0 0 ≡ 43 → None ≡ number_within most word
signed most word e = no_number most word (λ n. plus_is_no_digit word e n.all)

-- what isn't text spells none
pub no_text : (most : ℕ) (word : List ℕ) → (IsUtf8 word → ⊥) → None ≡ number_within most word
no_text most word h = no_number most word (λ n. h (IsUtf8-from_ascii _ (digits_ascii word n.all)))

-- what `parse` gave
parsed : {E : Type 0} (word : List ℕ) (r : Result ℕ E) → ParsesUnsigned 32 10 word r → get_or word 0 0 ≢ 43 → OkIff r ((list_all is_ascii_digit word ≡ true) × (0 < length word) × (digits_value 10 word < 2 ^ 32)) (digits_value 10 word)
parsed word r h plain = parse_plain numerals 32 word r h plain

pub small : {E : Type 0} (most : ℕ) (word : List ℕ) (r : Result ℕ E) (n : ℕ) → ParsesUnsigned 32 10 word r → r ≡ Ok n → get_or word 0 0 ≢ 43 → n ≤ most → Some n ≡ number_within most word
small {E} most word r n h is plain le =
    let got = rw is at (parsed word r h plain) in
    let o : Number most word = record { some = got.0.1; all = got.0.0; value = omega (arith, got.1) } in
    ap Some got.1 ∙ some_where (is_number most word) _ (number_from most word o)

pub large : {E : Type 0} (most : ℕ) (word : List ℕ) (r : Result ℕ E) (n : ℕ) → ParsesUnsigned 32 10 word r → r ≡ Ok n → get_or word 0 0 ≢ 43 → most < n → None ≡ number_within most word
large {E} most word r n h is plain gt =
    let got = rw is at (parsed word r h plain) in
    no_number most word (λ o. omega (arith, o.value, got.1))

pub unread : {E : Type 0} (most : ℕ) (word : List ℕ) (r : Result ℕ E) (e : E) → ParsesUnsigned 32 10 word r → r ≡ Err e → get_or word 0 0 ≢ 43 → most < 2 ^ 32 → None ≡ number_within most word
unread {E} most word r e h is plain within =
    let got = rw is at (parsed word r h plain) in
    no_number most word (λ o. got (o.all, o.some, omega (arith, o.value)))
