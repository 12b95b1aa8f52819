-- A name as `tb_model` reads it: none of its numbers is above 1,000,000.
use Rattle.std.proofs.Common.{◌≡◌, ℕ, suc, ◌<◌, ◌-◌, ◌==◌, ◌&&◌, not, nat_lt, nat_le, Bool, true, false, cond, List, [], ◌∷◌, ◌++◌, map, reverse, drop, length, count_by, refl, ap, sym, ◌∙◌, arith, append-nil, append_assoc, Option, Some, None}
use Rattle.std.proofs.lemmas.Bool.{and_parts, false≢true}
use Rattle.std.proofs.lemmas.Bool.Decides.{nat_tests}
use Rattle.std.proofs.lemmas.List.{length-map, length-reverse, length-drop, reverse-append}
use Rattle.std.specs.Char.{is_ascii_digit}
use Rattle.std.specs.List.{list_all}
use Rattle.std.specs.Option.{option_and_then}
use Rattle.std.specs.Str.Parse.{digits_value}
use Rattle.tb_model.specs.Names.{Name, child}
use Rattle.tb_model.specs.Spelling.{are_levels, is_dot, is_ordinal as is_small, is_zero, onto_first, parts, spelled_name, spells_name}
use Rattle.tb_model.proofs.PartLemmas.{ordinal_above_zero}
use Rattle.tb_runs.specs.Memory.{is_long}
use Rattle.tb_runs.specs.Names.{descendant, last_child, named_by, ordinal_of, task_of}
use Rattle.tb_runs.proofs.NameLemmas.{tick, with_first}

level_by : (digits first : Bool) (n : ℕ) → (digits && (first && nat_le n 1000000)) ≡ true → 0 < n →
    cond (digits && (first && (nat_lt 0 n && nat_le n 4294967295))) (Some n) None ≡ Some n
level_by digits first n h some = grind (arith, nat_tests)

-- a number that is small enough there is one here
level_read : (part : List ℕ) → is_small part ≡ true → ordinal_of last_child part ≡ Some (digits_value 10 part)
level_read [] h = absurd (false≢true h)
level_read (d ∷ ds) h = level_by (list_all is_ascii_digit (d ∷ ds)) (not (d == 48)) (digits_value 10 (d ∷ ds)) h (ordinal_above_zero (d ∷ ds) h)

reversed : (n : ℕ) (ns t : List ℕ) → reverse (n ∷ ns) ++ t ≡ reverse ns ++ (n ∷ t)
reversed n ns t = ap (λ r. r ++ t) (reverse-append (n ∷ []) ns) ∙ append_assoc (reverse ns) (n ∷ []) t

levels_read : (t : Name) (levels : List (List ℕ)) → list_all is_small levels ≡ true →
    descendant t levels ≡ Some (reverse (map (λ p. digits_value 10 p) levels) ++ t)
levels_read t [] h = refl
levels_read t (level ∷ levels) h =
    let p = and_parts (is_small level) (list_all is_small levels) h in
    ap (option_and_then (λ n. descendant (child t n) levels)) (level_read level p.0)
    ∙ levels_read (child t (digits_value 10 level)) levels p.1
    ∙ ap Some (sym (reversed (digits_value 10 level) (map (λ p. digits_value 10 p) levels) t))

parts_read : (ps : List (List ℕ)) → are_levels ps ≡ true → named_by ps ≡ Some (reverse (map (λ p. digits_value 10 p) (drop 1 ps)))
parts_read [] h = absurd (false≢true h)
parts_read (root ∷ levels) h =
    let p = and_parts (is_zero root) (list_all is_small levels) h in
    ap (λ b. cond b (descendant [] levels) None) p.0 ∙ levels_read [] levels p.1 ∙ ap Some (append-nil (reverse (map (λ p. digits_value 10 p) levels)))

pub parsed : (word : List ℕ) (name : Name) → (spells_name word ≡ false → ⊥) → name ≡ spelled_name word → Some name ≡ task_of word
parsed word name spelled e = by_test (spells_name word) refl
  where
    by_test : (b : Bool) → spells_name word ≡ b → Some name ≡ task_of word
    by_test true h = ap Some e ∙ sym (parts_read (parts word) h)
    by_test false h = absurd (spelled h)

-- ---- dots

onto_count : (b n : ℕ) (ps : List (List ℕ)) → length ps ≡ suc n → length (onto_first b ps) ≡ suc n
onto_count b n [] e = absurd (omega (arith, e))
onto_count b n (p ∷ ps) e = e

parts_by : (b : ℕ) (bytes : List ℕ) (dot : Bool) → is_dot b ≡ dot → length (parts bytes) ≡ suc (count_by is_dot bytes) →
    length (cond dot ([] ∷ parts bytes) (onto_first b (parts bytes))) ≡ suc (count_by is_dot (b ∷ bytes))
parts_by b bytes true e h =
    let one : tick b ≡ 1 = ap (λ t. cond t 1 0) e in
    omega (arith, h, one, with_first b bytes)
parts_by b bytes false e h =
    let none : tick b ≡ 0 = ap (λ t. cond t 1 0) e in
    onto_count b _ (parts bytes) (omega (arith, h, none, with_first b bytes))

-- there is a part more than dots
parts_count : (word : List ℕ) → length (parts word) ≡ suc (count_by is_dot word)
parts_count [] = refl
parts_count (b ∷ bytes) = parts_by b bytes (is_dot b) refl (parts_count bytes)

pub long_spelled : (word : List ℕ) → 3 < length (spelled_name word) → is_long word ≡ true
long_spelled word long =
    let same : length (spelled_name word) ≡ length (parts word) - 1 =
    length-reverse (map (λ p. digits_value 10 p) (drop 1 (parts word))) ∙ length-map (drop 1 (parts word)) (λ p. digits_value 10 p) ∙ length-drop 1 (parts word) in
    let more : 3 < count_by is_dot word = omega (arith, long, same, parts_count word) in
    grind (arith, nat_tests)
