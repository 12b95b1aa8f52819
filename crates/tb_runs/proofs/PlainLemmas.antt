-- Words that are read as they are in a line: where they end, and what they say.
use Rattle.std.proofs.Common.{◌≡◌, ◌⊎◌, inl, inr, ℕ, suc, ◌+◌, ◌*◌, ◌<◌, ◌≤◌, ◌^◌, ◌==◌, ◌&&◌, not, nat_lt, nat_le, Bool, true, false, cond, List, [], ◌∷◌, ◌++◌, take, drop, length, codes, refl, sym, ap, ◌∙◌, subst, arith, append_assoc, length-append, drop_of_length-le, eqb-true, Option, Some, None, Ok, ℤ}
use Rattle.std.proofs.lemmas.Bool.{and_from, and_parts, false≢true}
use Rattle.std.proofs.lemmas.Bool.Decides.{nat_tests}
use Rattle.std.proofs.lemmas.List.Folds.{list_all-append}
use Rattle.std.proofs.Math.Seq.{take-append_seam}
use Rattle.std.specs.Cmp.Lexicographic.{same_text}
use Rattle.std.specs.Char.{is_ascii_digit, digit_value}
use Rattle.std.specs.List.{list_all, position_or_len}
use Rattle.std.specs.Str.Parse.{digits_value, digits_value_after}
use Rattle.tb_model.specs.Names.{Name}
use Rattle.tb_model.specs.Spelling.{is_hash}
use Rattle.tb_read.specs.Text.{is_blank, line_words}
use Rattle.tb_read.specs.Word.{is_numeral, number_of, same_word}
use Rattle.tb_read.proofs.PieceLemmas.{word_found}
use Rattle.tb_runs.specs.Actions.{verb_in}
use Rattle.tb_runs.specs.Names.{task_of, id_of, ordinal_of, last_step}
use Rattle.tb_runs.specs.Plain.{begins_digit, begins_ordinal, numeral_on}
use Rattle.tb_runs.specs.Reading.{id_in, number_in}
use Rattle.tb_runs.specs.declared.verb.Verb.TheVariants as verb
use Rattle.tb_runs.proofs.NameLemmas.{numbered_some, with_hash}
use Rattle.tb_runs.proofs.NamedLemmas.{is_name_byte, named_bytes, split_at}

-- ---- where a word ends

-- a word ends in front of these bytes, and this comes after it: nothing, or what is after a blank
abbrev EndsWord : List ℕ → List ℕ → Type 0
EndsWord bytes rest = ((bytes ≡ []) × (rest ≡ [])) ⊎ (bytes ≡ 32 ∷ rest)

abbrev is_unblank : ℕ → Bool
is_unblank b = not (is_blank b)

end_on : (blank : Bool) (n m : ℕ) → not blank ≡ true → n ≡ m → suc n ≡ cond (not blank) (1 + m) 0
end_on true n m h e = absurd (false≢true h)
end_on false n m h e = omega (arith, e)

-- the word ends where the first blank is
end_at : (word tail rest : List ℕ) → list_all is_unblank word ≡ true → EndsWord tail rest → length word ≡ position_or_len is_blank (word ++ tail)
end_at [] tail rest h (inl none) = rw none.0 refl
end_at [] tail rest h (inr blank) = rw blank refl
end_at (b ∷ word) tail rest h ends =
    let p = and_parts (is_unblank b) (list_all is_unblank word) h in
    end_on (is_blank b) (length word) (position_or_len is_blank (word ++ tail)) p.0 (end_at word tail rest p.1 ends)

after_end : (word tail rest : List ℕ) → EndsWord tail rest → drop (suc (length word)) (word ++ tail) ≡ rest
after_end [] tail rest (inl none) = rw (none.0, none.1) refl
after_end [] tail rest (inr blank) = rw blank refl
after_end (b ∷ word) tail rest ends = after_end word tail rest ends

-- a word, which begins no comment, and what comes after it
pub word_led : (b : ℕ) (word tail rest : List ℕ) → (b == 35) ≡ false → list_all is_unblank (b ∷ word) ≡ true → EndsWord tail rest →
    line_words ((b ∷ word) ++ tail) ≡ (b ∷ word) ∷ line_words rest
word_led b word tail rest code h ends =
    let at = length (b ∷ word) in
    let all = (b ∷ word) ++ tail in
    let first = word_found [] all (line_words all) at (omega arith) code (end_at (b ∷ word) tail rest h ends) refl in
    sym first ∙ ap (λ w. w ∷ line_words (drop (suc at) all)) (take-append_seam (b ∷ word) tail) ∙ ap (λ l. (b ∷ word) ∷ line_words l)
    (after_end (b ∷ word) tail rest ends)

-- ---- digits

-- the digits that the number goes on with, and where their word ends
record Digits (value : ℕ) (bytes : List ℕ) (x : ℕ) (rest : List ℕ) : Type 0 where
  digits : List ℕ
  numeral : list_all is_ascii_digit digits ≡ true
  sum : digits_value_after 10 value digits ≡ x
  tail : List ℕ
  split : bytes ≡ digits ++ tail
  ends : EndsWord tail rest

module _ (x : ℕ) (rest : List ℕ) where
  none_led : (value : ℕ) (tail : List ℕ) → value ≡ x → EndsWord tail rest → Digits value tail x rest
  none_led value tail same ends = record { digits = []; numeral = refl; sum = same; tail = tail; split = refl; ends = ends }

  led_by : (digit space : Bool) (value b : ℕ) (bytes : List ℕ) → is_ascii_digit b ≡ digit → (b == 32) ≡ space →
      ((v : ℕ) → numeral_on v bytes ≡ Some (x, rest) → Digits v bytes x rest) →
      cond digit (numeral_on (value * 10 + digit_value b) bytes) (cond space (Some (value, bytes)) None) ≡ Some (x, rest) → Digits value (b ∷ bytes) x rest
  led_by true space value b bytes d s on e =
      let more = on (value * 10 + digit_value b) e in record {
        digits = b ∷ more.digits;
        numeral = and_from (is_ascii_digit b) (list_all is_ascii_digit more.digits) d more.numeral;
        sum = more.sum;
        tail = more.tail;
        split = ap (λ l. b ∷ l) more.split;
        ends = more.ends;
      }
  led_by false true value b bytes d s on e =
      let pair : ◌≡◌ {A = ℕ × List ℕ} (value, bytes) (x, rest) = cc in
      let blank : b ≡ 32 = eqb-true b 32 s in
      none_led value (b ∷ bytes) (ap (λ (p : ℕ × List ℕ). p.0) pair) (inr (rw blank (ap (λ (p : ℕ × List ℕ). 32 ∷ p.1) pair)))
  led_by false false value b bytes d s on e = absurd (let no : ◌≡◌ {A = Option (ℕ × List ℕ)} None (Some (x, rest)) = e in cc)

  digits_led : (value : ℕ) (bytes : List ℕ) → numeral_on value bytes ≡ Some (x, rest) → Digits value bytes x rest
  digits_led value [] e =
      let pair : ◌≡◌ {A = ℕ × List ℕ} (value, []) (x, rest) = cc in
      none_led value [] (ap (λ (p : ℕ × List ℕ). p.0) pair) (inl (refl, sym (ap (λ (p : ℕ × List ℕ). p.1) pair)))
  digits_led value (b ∷ bytes) e = led_by (is_ascii_digit b) (b == 32) value b bytes refl refl (λ v. digits_led v bytes) e

digit_unblank : (b : ℕ) → is_ascii_digit b ≡ true → is_unblank b ≡ true
digit_unblank b h = grind (arith, nat_tests)

digits_unblank : (digits : List ℕ) → list_all is_ascii_digit digits ≡ true → list_all is_unblank digits ≡ true
digits_unblank [] h = refl
digits_unblank (d ∷ digits) h =
    let p = and_parts (is_ascii_digit d) (list_all is_ascii_digit digits) h in
    and_from (is_unblank d) (list_all is_unblank digits) (digit_unblank d p.0) (digits_unblank digits p.1)

-- ---- numbers

numeral_is : (d : ℕ) (digits : List ℕ) → list_all is_ascii_digit (d ∷ digits) ≡ true → is_numeral (d ∷ digits) ≡ true
numeral_is d digits h =
    let some : nat_lt 0 (length (d ∷ digits)) ≡ true = grind (arith, nat_tests) in
    and_from (nat_lt 0 (length (d ∷ digits))) (list_all is_ascii_digit (d ∷ digits)) some h

unsigned_by : (d : ℕ) (digits : List ℕ) (x : ℕ) → is_ascii_digit d ≡ true → digits_value 10 (d ∷ digits) ≡ x → is_numeral (d ∷ digits) ≡ true → x < 2 ^ 63 →
    number_of (d ∷ digits) ≡ Some (ℤ.pos x)
unsigned_by d digits x digit value numeral few =
    let unsigned : (d == 45) ≡ false = grind (arith, nat_tests) in
    let fits : nat_lt x (2 ^ 63) ≡ true = grind (arith, nat_tests) in
    rw (unsigned, numeral, value, fits) refl

led_from : (bytes rest digits tail : List ℕ) (x : ℕ) → begins_digit bytes ≡ true → bytes ≡ digits ++ tail → EndsWord tail rest →
    list_all is_ascii_digit digits ≡ true →
    digits_value_after 10 0 digits ≡ x → x < 2 ^ 63 → number_in (line_words bytes) ≡ Ok (ℤ.pos x, line_words rest)
led_from bytes rest [] tail x begins split (inl none) numeral value few = absurd (let no : begins_digit bytes ≡ false = rw (split, none.0) refl in cc)
led_from bytes rest [] tail x begins split (inr blank) numeral value few = absurd (let no : begins_digit bytes ≡ false = rw (split, blank) refl in cc)
led_from bytes rest (d ∷ digits) tail x begins split ends numeral value few =
    let p = and_parts (is_ascii_digit d) (list_all is_ascii_digit digits) numeral in
    let code : (d == 35) ≡ false = (let digit = p.0 in grind (arith, nat_tests)) in
    let words : line_words bytes ≡ (d ∷ digits) ∷ line_words rest = rw split (word_led d digits tail rest code (digits_unblank (d ∷ digits) numeral) ends) in
    let number : number_of (d ∷ digits) ≡ Some (ℤ.pos x) = unsigned_by d digits x p.0 value (numeral_is d digits numeral) few in
    rw (words, number) refl

pub digits_read : (bytes rest : List ℕ) (x : ℕ) → begins_digit bytes ≡ true → numeral_on 0 bytes ≡ Some (x, rest) → x < 2 ^ 63 →
    number_in (line_words bytes) ≡ Ok (ℤ.pos x, line_words rest)
digits_read bytes rest x begins e few =
    let d = digits_led x rest 0 bytes e in
    led_from bytes rest d.digits d.tail x begins d.split d.ends d.numeral d.sum few

-- ---- verbs

pub load_led : (bytes rest : List ℕ) → bytes ≡ codes "load " ++ rest → verb_in (line_words bytes) ≡ Ok (verb.Load, line_words rest)
load_led bytes rest e = rw e refl

pub store_led : (bytes rest : List ℕ) → bytes ≡ codes "store " ++ rest → verb_in (line_words bytes) ≡ Ok (verb.Store, line_words rest)
store_led bytes rest e = rw e refl

pub let_led : (bytes rest : List ℕ) → bytes ≡ codes "let " ++ rest → verb_in (line_words bytes) ≡ Ok (verb.Let, line_words rest)
let_led bytes rest e = rw e refl

-- ---- steps

name_byte_unblank : (b : ℕ) → is_name_byte b ≡ true → is_unblank b ≡ true
name_byte_unblank b h = grind (arith, nat_tests)

name_unblank : (name : List ℕ) → list_all is_name_byte name ≡ true → list_all is_unblank name ≡ true
name_unblank [] h = refl
name_unblank (b ∷ name) h =
    let p = and_parts (is_name_byte b) (list_all is_name_byte name) h in
    and_from (is_unblank b) (list_all is_unblank name) (name_byte_unblank b p.0) (name_unblank name p.1)

hash_on : (hash : Bool) (n m : ℕ) → hash ≡ false → n ≡ m → suc n ≡ cond (not hash) (1 + m) 0
hash_on true n m h e = absurd (false≢true (sym h))
hash_on false n m h e = omega (arith, e)

-- a name has no `#`
hash_at : (name digits : List ℕ) → list_all is_name_byte name ≡ true → length name ≡ position_or_len is_hash (name ++ 35 ∷ digits)
hash_at [] digits h = refl
hash_at (b ∷ name) digits h =
    let p = and_parts (is_name_byte b) (list_all is_name_byte name) h in
    let other : is_hash b ≡ false = (let byte = p.0 in grind (arith, nat_tests)) in
    hash_on (is_hash b) (length name) (position_or_len is_hash (name ++ 35 ∷ digits)) other (hash_at name digits p.1)

name_dropped : (name digits : List ℕ) → drop (suc (length name)) (name ++ 35 ∷ digits) ≡ digits
name_dropped [] digits = refl
name_dropped (b ∷ name) digits = name_dropped name digits

ordinal_by : (d : ℕ) (digits : List ℕ) (k : ℕ) → (d == 48) ≡ false → list_all is_ascii_digit (d ∷ digits) ≡ true → digits_value 10 (d ∷ digits) ≡ k →
    0 < k → k ≤ 9999999999 →
    ordinal_of last_step (d ∷ digits) ≡ Some k
ordinal_by d digits k leading numeral value some few =
    let above : nat_lt 0 k ≡ true = grind (arith, nat_tests) in
    let below : nat_le k 9999999999 ≡ true = grind (arith, nat_tests) in
    rw (numeral, leading, value, above, below) refl

-- no digits begin with 0
ordinal_digits : (bytes rest digits tail : List ℕ) (k : ℕ) → begins_ordinal bytes ≡ true → bytes ≡ digits ++ tail → EndsWord tail rest →
    list_all is_ascii_digit digits ≡ true →
    digits_value_after 10 0 digits ≡ k → 0 < k → k ≤ 9999999999 → ordinal_of last_step digits ≡ Some k
ordinal_digits bytes rest [] tail k begins split (inl none) numeral value some few = absurd
    (let no : begins_ordinal bytes ≡ false = rw (split, none.0) refl in cc)
ordinal_digits bytes rest [] tail k begins split (inr blank) numeral value some few = absurd
    (let no : begins_ordinal bytes ≡ false = rw (split, blank) refl in cc)
ordinal_digits bytes rest (d ∷ digits) tail k begins split ends numeral value some few =
    let first : (is_ascii_digit d && not (d == 48)) ≡ true = subst (λ l. begins_ordinal l ≡ true) split begins in
    let p = and_parts (is_ascii_digit d) (not (d == 48)) first in
    let leading : (d == 48) ≡ false = (let h = p.1 in grind (arith, nat_tests)) in
    ordinal_by d digits k leading numeral value some few

pub root_named : (bytes : List ℕ) → same_word bytes (codes "0") ≡ true → task_of bytes ≡ Some []
root_named bytes same = ap task_of (same_text bytes (codes "0") (sym same))

no_name : (t : Name) → task_of [] ≡ Some t → ⊥
no_name t e = (let no : ◌≡◌ {A = Option Name} None (Some t) = e in cc)

-- the name, `#` and the digits are a word
step_word : (name digits tail rest : List ℕ) (t : Name) (k : ℕ) → task_of name ≡ Some t → list_all is_ascii_digit digits ≡ true → EndsWord tail rest →
    ordinal_of last_step digits ≡ Some k → id_in (line_words (name ++ 35 ∷ (digits ++ tail))) ≡ Ok (record { task = t; step = Some k }, line_words rest)
step_word [] digits tail rest t k task numeral ends step = absurd (no_name t task)
step_word (b ∷ name) digits tail rest t k task numeral ends step =
    let bytes = named_bytes (b ∷ name) t task in
    let word = (b ∷ name) ++ 35 ∷ digits in
    let first = and_parts (is_name_byte b) (list_all is_name_byte name) bytes in
    let code : (b == 35) ≡ false = (let h = first.0 in grind (arith, nat_tests)) in
    let unblank : list_all is_unblank word ≡ true =
    list_all-append is_unblank (b ∷ name) (35 ∷ digits) ∙ rw (name_unblank (b ∷ name) bytes, digits_unblank digits numeral) refl in
    let whole : (b ∷ name) ++ 35 ∷ (digits ++ tail) ≡ word ++ tail = sym (append_assoc (b ∷ name) (35 ∷ digits) tail) in
    let words : line_words ((b ∷ name) ++ 35 ∷ (digits ++ tail)) ≡ word ∷ line_words rest =
    ap line_words whole ∙ word_led b (name ++ 35 ∷ digits) tail rest code unblank ends in
    let at = hash_at (b ∷ name) digits bytes in
    let within : length (b ∷ name) < length word = (let sum = length-append (b ∷ name) (35 ∷ digits) in omega (arith, sum)) in
    let front : task_of (take (length (b ∷ name)) word) ≡ Some t = ap task_of (take-append_seam (b ∷ name) (35 ∷ digits)) ∙ task in
    let back : ordinal_of last_step (drop (suc (length (b ∷ name))) word) ≡ Some k = ap (ordinal_of last_step) (name_dropped (b ∷ name) digits) ∙ step in
    let id : id_of word ≡ Some (record { task = t; step = Some k }) = with_hash word (length (b ∷ name)) at within ∙ sym
    (numbered_some word (length (b ∷ name)) t k at front back) in
    rw (words, id) refl

pub id_led : (bytes rest digits : List ℕ) (at k : ℕ) (t : Name) → at ≡ position_or_len is_hash bytes → digits ≡ drop (suc at) bytes →
    begins_ordinal digits ≡ true →
    numeral_on 0 digits ≡ Some (k, rest) → 0 < k → k ≤ 9999999999 → task_of (take at bytes) ≡ Some t →
    id_in (line_words bytes) ≡ Ok (record { task = t; step = Some k }, line_words rest)
id_led bytes rest digits at k t e behind begins number some few task =
    let d = digits_led k rest 0 digits number in
    let step = ordinal_digits digits rest d.digits d.tail k begins d.split d.ends d.numeral d.sum some few in
    let within : position_or_len is_hash bytes < length bytes = hash_within bytes (subst (λ n. begins_ordinal (drop (suc n) bytes) ≡ true) e
    (subst (λ l. begins_ordinal l ≡ true) behind begins)) in
    let split : bytes ≡ take at bytes ++ 35 ∷ (d.digits ++ d.tail) =
    subst (λ n. bytes ≡ take n bytes ++ 35 ∷ drop (suc n) bytes) (sym e) (split_at bytes within) ∙ ap (λ l. take at bytes ++ 35 ∷ l) (sym behind ∙ d.split) in
    ap (λ l. id_in (line_words l)) split ∙ step_word (take at bytes) d.digits d.tail rest t k task d.numeral d.ends step
  where
    none_behind : (n : ℕ) (l : List ℕ) → length l ≤ n → begins_ordinal (drop n l) ≡ true → ⊥
    none_behind n l h b = (let no : drop n l ≡ [] = drop_of_length-le l h in absurd (false≢true (ap begins_ordinal (sym no) ∙ b)))

    hash_within : (bytes : List ℕ) → begins_ordinal (drop (suc (position_or_len is_hash bytes)) bytes) ≡ true → position_or_len is_hash bytes < length bytes
    hash_within bytes b = by (nat_lt (position_or_len is_hash bytes) (length bytes)) refl
      where
        by : (less : Bool) → nat_lt (position_or_len is_hash bytes) (length bytes) ≡ less → position_or_len is_hash bytes < length bytes
        by true h = grind (arith, nat_tests)
        by false h = absurd (none_behind (suc (position_or_len is_hash bytes)) bytes (grind (arith, nat_tests)) b)
