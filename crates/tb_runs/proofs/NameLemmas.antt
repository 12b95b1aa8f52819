-- The levels of a name, the first of them taken off.
use Rattle.std.proofs.Common.{◌≡◌, ℕ, suc, count_by, ◌+◌, ◌<◌, ◌≤◌, ◌≢◌, nat_lt, length, get_or, Bool, true, false, List, [], ◌∷◌, take, drop, refl, ap, sym, ◌∙◌, not, cond, ◌==◌, Option, Some, None, arith}
use Rattle.std.proofs.lemmas.Bool.Decides.{nat_tests}
use Rattle.std.proofs.lemmas.List.Sums.{sum_by-cons, sum_by-take-le}
use Rattle.std.specs.List.{position_or_len}
use Rattle.std.specs.Option.{option_and_then}
use Rattle.tb_model.specs.Names.{Name, child}
use Rattle.tb_model.specs.Spelling.{parts, onto_first, is_dot, is_hash, before_hash, behind_hash}
use Rattle.tb_runs.specs.Memory.{is_long}
use Rattle.tb_runs.specs.Names.{ordinal_of, last_child, last_step, descendant, task_of, id_of, next_of, numbered_of}

-- the parts after the first, where this comes after it
abbrev pub rest_parts : List ℕ → List (List ℕ)
rest_parts [] = []
rest_parts (b ∷ bytes) = parts bytes

-- what is left of a word after t: nothing, or a dot and levels
abbrev pub led_by : Name → List ℕ → Option Name
led_by t [] = Some t
led_by t (b ∷ bytes) = cond (b == 46) (descendant t (parts bytes)) None

one_more : (n : ℕ) → 1 + n ≡ suc n
one_more n = omega arith

pub parts_front : (bytes : List ℕ) → parts bytes ≡ take (position_or_len is_dot bytes) bytes ∷ rest_parts (drop (position_or_len is_dot bytes) bytes)
parts_front [] = refl
parts_front (b ∷ bytes) =
    elim (is_dot b) as (λ t. cond t ([] ∷ parts bytes) (onto_first b (parts bytes))
    ≡ take (cond (not t) (1 + position_or_len is_dot bytes) 0) (b ∷ bytes) ∷ rest_parts (drop (cond (not t) (1 + position_or_len is_dot bytes) 0) (b ∷ bytes)))
    [ true ↦ refl | false ↦ rw one_more (ap (onto_first b) (parts_front bytes)) ]

dot_by : (t : Name) (b : ℕ) (bytes : List ℕ) (dot : Bool) → is_dot b ≡ dot →
    led_by t (drop (position_or_len is_dot bytes) bytes) ≡ descendant t (rest_parts (drop (position_or_len is_dot bytes) bytes)) →
    led_by t (drop (cond (not dot) (1 + position_or_len is_dot bytes) 0) (b ∷ bytes)) ≡ descendant t (rest_parts (drop (cond (not dot) (1 + position_or_len is_dot bytes) 0) (b ∷ bytes)))
dot_by t b bytes true e more = ap (λ d. cond d (descendant t (parts bytes)) None) e
dot_by t b bytes false e more = rw one_more more

-- what comes at the first dot is nothing, or begins with a dot
dot_first : (t : Name) (bytes : List ℕ) → led_by t (drop (position_or_len is_dot bytes) bytes) ≡ descendant t (rest_parts (drop (position_or_len is_dot bytes) bytes))
dot_first t [] = refl
dot_first t (b ∷ bytes) = dot_by t b bytes (is_dot b) refl (dot_first t bytes)

first_level : (t : Name) (bytes : List ℕ) (at : ℕ) → at ≡ position_or_len is_dot bytes →
    led_by t (46 ∷ bytes) ≡ descendant t (take at bytes ∷ rest_parts (drop at bytes))
first_level t bytes at e = rw e (ap (descendant t) (parts_front bytes))

-- a dot, and the ordinal of a child after it
pub level_led : (t : Name) (left digits : List ℕ) (at n : ℕ) (all : Option Name) → 0 < length left → get_or left 0 0 ≡ 46 → digits ≡ drop 1 left →
    at ≡ position_or_len is_dot digits → ordinal_of last_child (take at digits) ≡ Some n → led_by t left ≡ all → led_by (child t n) (drop at digits) ≡ all
level_led t [] digits at n all some dot d e o h = absurd (omega (arith, some))
level_led t (b ∷ bytes) digits at n all some dot d e o h =
    let first : descendant t (take at digits ∷ rest_parts (drop at digits)) ≡ descendant (child t n) (rest_parts (drop at digits)) =
    ap (option_and_then (λ n. descendant (child t n) (rest_parts (drop at digits)))) o in
    let here : led_by (child t n) (drop at digits) ≡ descendant (child t n) (rest_parts (drop at digits)) = rw e (dot_first (child t n) digits) in
    let begins : led_by t (b ∷ bytes) ≡ led_by t (46 ∷ digits) = rw (dot, d) refl in
    here ∙ sym first ∙ sym (first_level t digits at e) ∙ sym begins ∙ h

-- a dot, and no ordinal of a child after it
pub level_lost : (t : Name) (left digits : List ℕ) (at : ℕ) (all : Option Name) → 0 < length left → get_or left 0 0 ≡ 46 → digits ≡ drop 1 left →
    at ≡ position_or_len is_dot digits → ordinal_of last_child (take at digits) ≡ None → led_by t left ≡ all → None ≡ all
level_lost t [] digits at all some dot d e o h = absurd (omega (arith, some))
level_lost t (b ∷ bytes) digits at all some dot d e o h =
    let first : descendant t (take at digits ∷ rest_parts (drop at digits)) ≡ None =
    ap (option_and_then (λ n. descendant (child t n) (rest_parts (drop at digits)))) o in
    let begins : led_by t (b ∷ bytes) ≡ led_by t (46 ∷ digits) = rw (dot, d) refl in
    sym first ∙ sym (first_level t digits at e) ∙ sym begins ∙ h

-- no dot
pub undotted : (t : Name) (left : List ℕ) (all : Option Name) → 0 < length left → get_or left 0 0 ≢ 46 → led_by t left ≡ all → None ≡ all
undotted t [] all some other h = absurd (omega (arith, some))
undotted t (b ∷ bytes) all some other h =
    let no : (b == 46) ≡ false = grind (arith, nat_tests) in
    let lost : led_by t (b ∷ bytes) ≡ None = rw no refl in
    sym lost ∙ h

-- ---- steps

pub numbered_some : (word : List ℕ) (at : ℕ) (t : Name) (k : ℕ) → at ≡ position_or_len is_hash word → task_of (take at word) ≡ Some t →
    ordinal_of last_step (drop (suc at) word) ≡ Some k → Some (record { task = t; step = Some k }) ≡ numbered_of word
numbered_some word at t k e task step =
    let task' : task_of (before_hash word) ≡ Some t = rw e at task in
    let step' : ordinal_of last_step (behind_hash word) ≡ Some k = rw e at step in
    rw (task', step') refl

pub numbered_none : (word : List ℕ) (at : ℕ) (t : Name) → at ≡ position_or_len is_hash word → task_of (take at word) ≡ Some t →
    ordinal_of last_step (drop (suc at) word) ≡ None → None ≡ numbered_of word
numbered_none word at t e task step =
    let task' : task_of (before_hash word) ≡ Some t = rw e at task in
    let step' : ordinal_of last_step (behind_hash word) ≡ None = rw e at step in
    rw (task', step') refl

pub with_hash : (word : List ℕ) (at : ℕ) → at ≡ position_or_len is_hash word → at < length word → id_of word ≡ numbered_of word
with_hash word at e within =
    let yes : nat_lt (position_or_len is_hash word) (length word) ≡ true = grind (arith, nat_tests) in
    rw yes refl

pub without_hash : (word : List ℕ) (at : ℕ) → at ≡ position_or_len is_hash word → length word ≤ at → id_of word ≡ next_of word
without_hash word at e within =
    let no : nat_lt (position_or_len is_hash word) (length word) ≡ false = grind (arith, nat_tests) in
    rw no refl

-- ---- dots

abbrev pub tick : ℕ → ℕ
tick b = cond (is_dot b) 1 0

pub with_first : (b : ℕ) (bytes : List ℕ) → count_by is_dot (b ∷ bytes) ≡ tick b + count_by is_dot bytes
with_first b bytes = sum_by-cons tick b bytes

dots_by : (b : ℕ) (bytes : List ℕ) (dot : Bool) → is_dot b ≡ dot → count_by is_dot (drop (position_or_len is_dot bytes) bytes) ≡ count_by is_dot bytes →
    count_by is_dot (drop (cond (not dot) (1 + position_or_len is_dot bytes) 0) (b ∷ bytes)) ≡ count_by is_dot (b ∷ bytes)
dots_by b bytes true e h = refl
dots_by b bytes false e h =
    let none : tick b ≡ 0 = ap (λ t. cond t 1 0) e in
    rw one_more (h ∙ omega (arith, none, with_first b bytes))

-- no dot comes in front of the first
dots_behind : (bytes : List ℕ) → count_by is_dot (drop (position_or_len is_dot bytes) bytes) ≡ count_by is_dot bytes
dots_behind [] = refl
dots_behind (b ∷ bytes) = dots_by b bytes (is_dot b) refl (dots_behind bytes)

-- a level has one
pub level_dots : (left digits : List ℕ) (at n all : ℕ) → 0 < length left → get_or left 0 0 ≡ 46 → digits ≡ drop 1 left → at ≡ position_or_len is_dot digits →
    n + count_by is_dot left ≤ all → suc n + count_by is_dot (drop at digits) ≤ all
level_dots [] digits at n all some dot d e h = absurd (omega (arith, some))
level_dots (b ∷ bytes) digits at n all some dot d e h =
    let one : tick b ≡ 1 = ap tick dot in
    let same : count_by is_dot (drop at digits) ≡ count_by is_dot bytes = rw (e, d) (dots_behind bytes) in
    omega (arith, h, one, same, with_first b bytes)

one_dot : (left : List ℕ) → 0 < length left → get_or left 0 0 ≡ 46 → 0 < count_by is_dot left
one_dot [] some dot = absurd (omega (arith, some))
one_dot (b ∷ bytes) some dot =
    let one : tick b ≡ 1 = ap tick dot in
    omega (arith, one, with_first b bytes)

-- three levels, and a dot after them
pub long_name : (n : ℕ) (left word : List ℕ) → 3 ≤ n → 0 < length left → get_or left 0 0 ≡ 46 → n + count_by is_dot left ≤ count_by is_dot word → is_long word ≡ true
long_name n left word deep some dot h =
    let more : 3 < count_by is_dot word = omega (arith, one_dot left some dot) in
    grind (arith, nat_tests)

-- a word is as long as its front
pub long_front : (n : ℕ) (word : List ℕ) → is_long (take n word) ≡ true → is_long word ≡ true
long_front n word h =
    let fewer : count_by is_dot (take n word) ≤ count_by is_dot word = sum_by-take-le tick word n in
    grind (arith, nat_tests)
