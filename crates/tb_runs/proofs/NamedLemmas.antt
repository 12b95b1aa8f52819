-- What names a task has digits and dots alone.
use Rattle.std.proofs.Common.{◌≡◌, ℕ, suc, ◌+◌, ◌<◌, ◌==◌, ◌&&◌, ◌||◌, not, nat_lt, Bool, true, false, cond, List, [], ◌∷◌, ◌++◌, take, drop, length, refl, ap, ◌∙◌, eqb-true, Option, Some, None, arith}
use Rattle.std.proofs.lemmas.Bool.{and_from, and_parts}
use Rattle.std.proofs.lemmas.Bool.Decides.{nat_tests}
use Rattle.std.specs.Char.{is_ascii_digit}
use Rattle.std.proofs.lemmas.List.Folds.{list_all-append}
use Rattle.std.specs.List.{list_all, position_or_len}
use Rattle.std.specs.Option.{option_and_then}
use Rattle.std.specs.Str.Parse.{digits_value}
use Rattle.tb_model.specs.Names.{Name, child}
use Rattle.tb_model.specs.Spelling.{parts, onto_first, is_dot, is_zero, is_hash, before_hash, behind_hash}
use Rattle.tb_runs.specs.Names.{descendant, is_within, last_child, last_step, named_by, next_of, numbered_of, ordinal_of, id_of, task_of}
use Rattle.tb_runs.specs.declared.name.Id.{Id}

abbrev pub is_name_byte : ℕ → Bool
is_name_byte b = is_ascii_digit b || is_dot b

abbrev are_digits : List ℕ → Bool
are_digits bytes = list_all is_ascii_digit bytes

onto_first_digits : (b : ℕ) (ps : List (List ℕ)) → list_all are_digits (onto_first b ps) ≡ true → (is_ascii_digit b ≡ true) × (list_all are_digits ps ≡ true)
onto_first_digits b [] h = ((and_parts (is_ascii_digit b) true (and_parts (are_digits (b ∷ [])) true h).0).0, refl)
onto_first_digits b (p ∷ ps) h =
    let whole = and_parts (are_digits (b ∷ p)) (list_all are_digits ps) h in
    let first = and_parts (is_ascii_digit b) (are_digits p) whole.0 in
    (first.0, and_from (are_digits p) (list_all are_digits ps) first.1 whole.1)

digit_or_dot : (b : ℕ) → is_ascii_digit b ≡ true → is_name_byte b ≡ true
digit_or_dot b h = rw h refl

dot_too : (b : ℕ) → is_dot b ≡ true → is_name_byte b ≡ true
dot_too b h = grind (arith, nat_tests)

parts_by : (dot : Bool) (b : ℕ) (bytes : List ℕ) → is_dot b ≡ dot → (list_all are_digits (parts bytes) ≡ true → list_all is_name_byte bytes ≡ true) →
    list_all are_digits (cond dot ([] ∷ parts bytes) (onto_first b (parts bytes))) ≡ true → list_all is_name_byte (b ∷ bytes) ≡ true
parts_by true b bytes e on h = and_from (is_name_byte b) (list_all is_name_byte bytes) (dot_too b e) (on h)
parts_by false b bytes e on h =
    let p = onto_first_digits b (parts bytes) h in
    and_from (is_name_byte b) (list_all is_name_byte bytes) (digit_or_dot b p.0) (on p.1)

parts_bytes : (bytes : List ℕ) → list_all are_digits (parts bytes) ≡ true → list_all is_name_byte bytes ≡ true
parts_bytes [] h = refl
parts_bytes (b ∷ bytes) h = parts_by (is_dot b) b bytes refl (parts_bytes bytes) h

ordinal_by : (numeral rest : Bool) (value n : ℕ) → cond (numeral && rest) (Some value) None ≡ Some n → numeral ≡ true
ordinal_by true rest value n e = refl
ordinal_by false rest value n e = absurd (let no : ◌≡◌ {A = Option ℕ} None (Some n) = e in cc)

pub ordinal_digits : (most : ℕ) (level : List ℕ) (n : ℕ) → ordinal_of most level ≡ Some n → list_all is_ascii_digit level ≡ true
ordinal_digits most [] n e = refl
ordinal_digits most (d ∷ ds) n e =
    ordinal_by (list_all is_ascii_digit (d ∷ ds)) (not (d == 48) && is_within most (digits_value 10 (d ∷ ds))) (digits_value 10 (d ∷ ds)) n e

some_in : {A B : Type 0} (o : Option A) (more : A → Option B) (y : B) → option_and_then more o ≡ Some y → (x : A) × ((o ≡ Some x) × (more x ≡ Some y))
some_in {A} {B} None more y e = absurd (let no : ◌≡◌ {A = Option B} None (Some y) = e in cc)
some_in (Some x) more y e = (x, (refl, e))

levels_digits : (t : Name) (levels : List (List ℕ)) (u : Name) → descendant t levels ≡ Some u → list_all are_digits levels ≡ true
levels_digits t [] u e = refl
levels_digits t (level ∷ levels) u e =
    let first = some_in (ordinal_of last_child level) (λ n. descendant (child t n) levels) u e in
    and_from (are_digits level) (list_all are_digits levels) (ordinal_digits last_child level first.0 first.1.0)
    (levels_digits (child t first.0) levels u first.1.1)

zero_digits : (root : List ℕ) → is_zero root ≡ true → are_digits root ≡ true
zero_digits [] h = refl
zero_digits (d ∷ []) h = (let digit : is_ascii_digit d ≡ true = grind (arith, nat_tests) in rw digit refl)
zero_digits (d ∷ e ∷ ds) h = absurd (let no : false ≡ true = h in cc)

named_parts : (zero : Bool) (root : List ℕ) (levels : List (List ℕ)) (t : Name) → is_zero root ≡ zero → cond zero (descendant [] levels) None ≡ Some t →
    list_all are_digits (root ∷ levels) ≡ true
named_parts true root levels t z e = and_from (are_digits root) (list_all are_digits levels) (zero_digits root z) (levels_digits [] levels t e)
named_parts false root levels t z e = absurd (let no : ◌≡◌ {A = Option Name} None (Some t) = e in cc)

named_digits : (ps : List (List ℕ)) (t : Name) → named_by ps ≡ Some t → list_all are_digits ps ≡ true
named_digits [] t e = refl
named_digits (root ∷ levels) t e = named_parts (is_zero root) root levels t refl e

pub named_bytes : (text : List ℕ) (t : Name) → task_of text ≡ Some t → list_all is_name_byte text ≡ true
named_bytes text t e = parts_bytes text (named_digits (parts text) t e)

-- ---- steps

one_more : (n : ℕ) → 1 + n ≡ suc n
one_more n = omega arith

split_by : (hash : Bool) (b n : ℕ) (bytes : List ℕ) → is_hash b ≡ hash → (n < length bytes → bytes ≡ take n bytes ++ 35 ∷ drop (suc n) bytes) →
    cond (not hash) (1 + n) 0 < suc (length bytes)
    → b ∷ bytes ≡ take (cond (not hash) (1 + n) 0) (b ∷ bytes) ++ 35 ∷ drop (suc (cond (not hash) (1 + n) 0)) (b ∷ bytes)
split_by true b n bytes e more less = ap (λ c. c ∷ bytes) (eqb-true b 35 e)
split_by false b n bytes e more less = rw one_more (ap (λ l. b ∷ l) (more (omega (arith, less))))

-- the bytes in front of the first `#`, and those after it
pub split_at : (bytes : List ℕ) → position_or_len is_hash bytes < length bytes →
    bytes ≡ take (position_or_len is_hash bytes) bytes ++ 35 ∷ drop (suc (position_or_len is_hash bytes)) bytes
split_at [] h = absurd (omega arith)
split_at (b ∷ bytes) h = split_by (is_hash b) b (position_or_len is_hash bytes) bytes refl (split_at bytes) h

-- a byte of a name, or `#`
abbrev pub is_step_byte : ℕ → Bool
is_step_byte b = is_name_byte b || (b == 35)

name_too : (b : ℕ) → is_name_byte b ≡ true → is_step_byte b ≡ true
name_too b h = rw h refl

digit_too : (b : ℕ) → is_ascii_digit b ≡ true → is_step_byte b ≡ true
digit_too b h = rw h refl

each_too : (p : ℕ → Bool) → ((b : ℕ) → p b ≡ true → is_step_byte b ≡ true) → (bytes : List ℕ) → list_all p bytes ≡ true → list_all is_step_byte bytes ≡ true
each_too p each [] h = refl
each_too p each (b ∷ bytes) h =
    let q = and_parts (p b) (list_all p bytes) h in
    and_from (is_step_byte b) (list_all is_step_byte bytes) (each b q.0) (each_too p each bytes q.1)

stepped_by : (text : List ℕ) (id : Id) (hash : Bool) → nat_lt (position_or_len is_hash text) (length text) ≡ hash →
    cond hash (numbered_of text) (next_of text) ≡ Some id →
    list_all is_step_byte text ≡ true
stepped_by text id true less e =
    let named = some_in (task_of (before_hash text)) (λ t. option_and_then (λ k. Some (record { task = t; step = Some k }))
    (ordinal_of last_step (behind_hash text))) id e in
    let numbered = some_in (ordinal_of last_step (behind_hash text)) (λ k. Some (record { task = named.0; step = Some k })) id named.1.1 in
    let front = each_too is_name_byte name_too (before_hash text) (named_bytes (before_hash text) named.0 named.1.0) in
    let back = each_too is_ascii_digit digit_too (behind_hash text) (ordinal_digits last_step (behind_hash text) numbered.0 numbered.1.0) in
    let split : text ≡ before_hash text ++ 35 ∷ behind_hash text = split_at text (let h = less in grind (arith, nat_tests)) in
    ap (list_all is_step_byte) split ∙ list_all-append is_step_byte (before_hash text) (35 ∷ behind_hash text) ∙ rw (front, back) refl
stepped_by text id false less e =
    let named = some_in (task_of text) (λ t. Some (record { task = t; step = None })) id e in
    each_too is_name_byte name_too text (named_bytes text named.0 named.1.0)

pub stepped_bytes : (text : List ℕ) (id : Id) → id_of text ≡ Some id → list_all is_step_byte text ≡ true
stepped_bytes text id e = stepped_by text id (nat_lt (position_or_len is_hash text) (length text)) refl e
