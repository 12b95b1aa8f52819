-- How a text falls into a shorter one and its last part, and that a name is written as it is spelled.
use Rattle.std.proofs.Common.{◌≡◌, ℕ, zero, suc, ◌-◌, ◌<◌, ◌≤◌, List, [], ◌∷◌, ◌++◌, Bool, true, false, cond, length, get_or, take, drop, map, reverse, slice_index, arith, refl, sym, ap, ◌∙◌, append_assoc, append-nil, ◌&&◌, ◌||◌, ◌==◌, decimal, eqb-true, sub-one}
use Rattle.std.proofs.lemmas.Bool.{and_parts}
use Rattle.std.proofs.lemmas.List.{reverse-append, reverse-reverse, map-append}
use Rattle.std.proofs.lemmas.List.Folds.{list_all-append}
use Rattle.std.proofs.lemmas.Fmt.{decimal-digits_value, decimal_digit}
use Rattle.std.specs.List.{list_all, list_any}
use Rattle.std.specs.Str.Parse.{digits_value}
use Rattle.tb_model.specs.Names.{Name}
use Rattle.tb_model.specs.Spelling.{name_text, is_dot, is_zero, is_ordinal, onto_first, parts, are_levels, spells_name, spelled_name, IsLastPart}
use Rattle.tb_model.proofs.OrdinalLemmas.{ordinal_parts, numerals}

-- ---- parts from the end

record Nonempty (all : List (List ℕ)) : Type 0 where
  first : List ℕ
  more : List (List ℕ)
  is : all ≡ first ∷ more

onto_first_some : (b : ℕ) (all : List (List ℕ)) → Nonempty (onto_first b all)
onto_first_some b [] = record { first = b ∷ []; more = []; is = refl }
onto_first_some b (p ∷ ps) = record { first = b ∷ p; more = ps; is = refl }

parts_by_some : (t : Bool) (b : ℕ) (all : List (List ℕ)) → Nonempty (cond t ([] ∷ all) (onto_first b all))
parts_by_some true b all = record { first = []; more = all; is = refl }
parts_by_some false b all = onto_first_some b all

parts_some : (text : List ℕ) → Nonempty (parts text)
parts_some [] = record { first = []; more = []; is = refl }
parts_some (b ∷ bytes) = parts_by_some (is_dot b) b (parts bytes)

or_none : (s t : Bool) → (s || t) ≡ false → (s ≡ false) × (t ≡ false)
or_none true t h = absurd (let e : true ≡ false = h in cc)
or_none false t h = (refl, h)

parts_one : (part : List ℕ) → list_any is_dot part ≡ false → parts part ≡ part ∷ []
parts_one [] h = refl
parts_one (b ∷ bytes) h =
    let o = or_none (is_dot b) (list_any is_dot bytes) h in
    let e : (b == 46) ≡ false = o.0 in
    rw e (ap (onto_first b) (parts_one bytes o.1))

onto_first_snoc : (b : ℕ) (all : List (List ℕ)) (part : List ℕ) → Nonempty all → onto_first b (all ++ part ∷ []) ≡ onto_first b all ++ part ∷ []
onto_first_snoc b [] part n = absurd (let e = n.is in cc)
onto_first_snoc b (p ∷ ps) part n = refl

parts_snoc : (text part : List ℕ) → list_any is_dot part ≡ false → parts (text ++ 46 ∷ part) ≡ parts text ++ part ∷ []
parts_snoc [] part h = ap (λ ps. [] ∷ ps) (parts_one part h)
parts_snoc (b ∷ bytes) part h =
    let more = parts_snoc bytes part h in
    elim (b == 46) as (λ t. cond t ([] ∷ parts (bytes ++ 46 ∷ part)) (onto_first b (parts (bytes ++ 46 ∷ part))) ≡ cond t ([] ∷ parts bytes) (onto_first b (parts bytes)) ++ part ∷ [])
    [ true ↦ ap (λ ps. [] ∷ ps) more | false ↦ ap (onto_first b) more ∙ onto_first_snoc b (parts bytes) part (parts_some bytes) ]

-- ---- a name by its last part

and_assoc : (a b c : Bool) → (a && (b && c)) ≡ ((a && b) && c)
and_assoc true b c = refl
and_assoc false b c = refl

and_yes : (a : Bool) → (a && true) ≡ a
and_yes true = refl
and_yes false = refl

are_levels_snoc : (p : List ℕ) (ps : List (List ℕ)) (part : List ℕ) → are_levels (p ∷ ps ++ part ∷ []) ≡ (are_levels (p ∷ ps) && is_ordinal part)
are_levels_snoc p ps part =
    ap (λ t. is_zero p && t) (list_all-append is_ordinal ps (part ∷ []))
    ∙ and_assoc (is_zero p) (list_all is_ordinal ps) (is_ordinal part && true)
    ∙ ap (λ t. (is_zero p && list_all is_ordinal ps) && t) (and_yes (is_ordinal part))

spells_snoc : (text part : List ℕ) → list_any is_dot part ≡ false → spells_name (text ++ 46 ∷ part) ≡ (spells_name text && is_ordinal part)
spells_snoc text part h =
    let n = parts_some text in
    let e = n.is in
    ap are_levels (parts_snoc text part h ∙ ap (λ ps. ps ++ part ∷ []) e) ∙ are_levels_snoc n.first n.more part ∙ ap (λ ps. are_levels ps && is_ordinal part) (sym e)

spelled_snoc : (text part : List ℕ) → list_any is_dot part ≡ false → spelled_name (text ++ 46 ∷ part) ≡ digits_value 10 part ∷ spelled_name text
spelled_snoc text part h =
    let n = parts_some text in
    let e = n.is in
    let numbers : List (List ℕ) → Name = λ ps. reverse (map (λ p. digits_value 10 p) ps) in
    ap (λ ps. numbers (drop 1 ps)) (parts_snoc text part h ∙ ap (λ ps. ps ++ part ∷ []) e)
    ∙ ap reverse (map-append (λ p. digits_value 10 p) n.more (part ∷ []))
    ∙ reverse-append (map (λ p. digits_value 10 p) n.more) (digits_value 10 part ∷ [])
    ∙ ap (λ ps. digits_value 10 part ∷ numbers (drop 1 ps)) (sym e)

split_behind : (text : List ℕ) (k : ℕ) → k < length text → slice_index text k ≡ 46 → text ≡ take k text ++ 46 ∷ drop (suc k) text
split_behind [] k within dot = absurd (omega arith)
split_behind (b ∷ bytes) zero within dot = ap (λ c. c ∷ bytes) dot
split_behind (b ∷ bytes) (suc k) within dot = ap (λ t. b ∷ t) (split_behind bytes k (omega arith) dot)

split_at_dot : (text : List ℕ) (at : ℕ) → IsLastPart text at → 0 < at → text ≡ take (at - 1) text ++ 46 ∷ drop at text
split_at_dot text zero l some = absurd (omega arith)
split_at_dot text (suc k) l some = rw sub-one (split_behind text k (omega (arith, l.within)) (rw sub-one at (l.dot some)))

pub spells_down : (text : List ℕ) (at : ℕ) → IsLastPart text at → 0 < at → spells_name text ≡ (spells_name (take (at - 1) text) && is_ordinal (drop at text))
spells_down text at l some = ap spells_name (split_at_dot text at l some) ∙ spells_snoc (take (at - 1) text) (drop at text) l.part

pub spelled_down : (text : List ℕ) (at : ℕ) → IsLastPart text at → 0 < at → spelled_name text ≡ digits_value 10 (drop at text) ∷ spelled_name (take (at - 1) text)
spelled_down text at l some = ap spelled_name (split_at_dot text at l some) ∙ spelled_snoc (take (at - 1) text) (drop at text) l.part

undotted : (text : List ℕ) (at : ℕ) → IsLastPart text at → at ≤ 0 → list_any is_dot text ≡ false
undotted text zero l none = l.part
undotted text (suc at) l none = absurd (omega arith)

pub spells_end : (text : List ℕ) (at : ℕ) → IsLastPart text at → at ≤ 0 → spells_name text ≡ is_zero text
spells_end text at l none = ap are_levels (parts_one text (undotted text at l none)) ∙ and_yes (is_zero text)

pub spelled_end : (text : List ℕ) (at : ℕ) → IsLastPart text at → at ≤ 0 → spelled_name text ≡ []
spelled_end text at l none = ap (λ ps. reverse (map (λ p. digits_value 10 p) (drop 1 ps))) (parts_one text (undotted text at l none))

-- ---- a name is written as it is spelled

-- what is after the first part
abbrev behind : List (List ℕ) → List ℕ
behind [] = []
behind (p ∷ ps) = 46 ∷ (p ++ behind ps)

abbrev joined : List (List ℕ) → List ℕ
joined [] = []
joined (p ∷ ps) = p ++ behind ps

abbrev levels : List ℕ → List ℕ
levels [] = []
levels (n ∷ ns) = 46 ∷ (decimal n ++ levels ns)

behind_joined : (all : List (List ℕ)) → Nonempty all → behind all ≡ 46 ∷ joined all
behind_joined [] n = absurd (let e = n.is in cc)
behind_joined (p ∷ ps) n = refl

joined_first : (b : ℕ) (all : List (List ℕ)) → joined (onto_first b all) ≡ b ∷ joined all
joined_first b [] = refl
joined_first b (p ∷ ps) = refl

joined_by : (t : Bool) (b : ℕ) (bytes : List ℕ) → (b == 46) ≡ t → joined (parts bytes) ≡ bytes → joined (cond t ([] ∷ parts bytes) (onto_first b (parts bytes))) ≡ b ∷ bytes
joined_by true b bytes e h = behind_joined (parts bytes) (parts_some bytes) ∙ ap (λ t. 46 ∷ t) h ∙ ap (λ c. c ∷ bytes) (sym (eqb-true b 46 e))
joined_by false b bytes e h = joined_first b (parts bytes) ∙ ap (λ t. b ∷ t) h

joined_parts : (text : List ℕ) → joined (parts text) ≡ text
joined_parts [] = refl
joined_parts (b ∷ bytes) = joined_by (b == 46) b bytes refl (joined_parts bytes)

levels_snoc : (ns : List ℕ) (n : ℕ) → levels (ns ++ n ∷ []) ≡ levels ns ++ 46 ∷ decimal n
levels_snoc [] n = ap (λ t. 46 ∷ t) (append-nil (decimal n))
levels_snoc (m ∷ ns) n = ap (λ t. 46 ∷ (decimal m ++ t)) (levels_snoc ns n) ∙ ap (λ t. 46 ∷ t) (sym (append_assoc (decimal m) (levels ns) (46 ∷ decimal n)))

name_text-levels : (t : Name) → name_text t ≡ 48 ∷ levels (reverse t)
name_text-levels [] = refl
name_text-levels (n ∷ t) =
    ap (λ u. u ++ 46 ∷ decimal n) (name_text-levels t)
    ∙ ap (λ u. 48 ∷ u) (sym (levels_snoc (reverse t) n) ∙ ap levels (sym (reverse-append (n ∷ []) t)))

-- digits without a leading zero are what is written of their number
pub decimal_ordinal : (digits : List ℕ) → is_ordinal digits ≡ true → decimal (digits_value 10 digits) ≡ digits
decimal_ordinal digits h =
    let o = ordinal_parts digits h in
    decimal-digits_value numerals digits o.all o.some (λ zero. absurd (o.first zero)) (omega (arith, o.value))

pub ordinal_above_zero : (digits : List ℕ) → is_ordinal digits ≡ true → 0 < digits_value 10 digits
ordinal_above_zero digits h = above (digits_value 10 digits) refl
  where
    above : (n : ℕ) → n ≡ digits_value 10 digits → 0 < n
    above zero e =
        let written : decimal 0 ≡ digits = ap decimal e ∙ decimal_ordinal digits h in
        absurd ((ordinal_parts digits h).first (ap (λ ds. get_or ds 0 0) (sym written) ∙ ap (λ ds. get_or ds 0 0) (decimal_digit 0 (omega arith))))
    above (suc n) e = omega arith

levels_values : (ps : List (List ℕ)) → list_all is_ordinal ps ≡ true → levels (map (λ p. digits_value 10 p) ps) ≡ behind ps
levels_values [] h = refl
levels_values (p ∷ ps) h =
    let o = and_parts (is_ordinal p) (list_all is_ordinal ps) h in
    ap (λ t. 46 ∷ (t ++ levels (map (λ p. digits_value 10 p) ps))) (decimal_ordinal p o.0) ∙ ap (λ t. 46 ∷ (p ++ t)) (levels_values ps o.1)

zero_part : (p : List ℕ) → is_zero p ≡ true → 48 ∷ [] ≡ p
zero_part [] h = absurd (let e : false ≡ true = h in cc)
zero_part (d ∷ []) h = ap (λ c. c ∷ []) (sym (eqb-true d 48 h))
zero_part (d ∷ e ∷ ds) h = absurd (let e : false ≡ true = h in cc)

written : (ps : List (List ℕ)) → are_levels ps ≡ true → name_text (reverse (map (λ p. digits_value 10 p) (drop 1 ps))) ≡ joined ps
written [] h = absurd (let e : false ≡ true = h in cc)
written (p ∷ ps) h =
    let o = and_parts (is_zero p) (list_all is_ordinal ps) h in
    let ns : List ℕ = map (λ p. digits_value 10 p) ps in
    name_text-levels (reverse ns) ∙ ap (λ t. 48 ∷ levels t) (reverse-reverse ns) ∙ ap (λ t. 48 ∷ t) (levels_values ps o.1) ∙ ap (λ t. t ++ behind ps) (zero_part p o.0)

pub name_text-spelled_name : (text : List ℕ) → spells_name text ≡ true → name_text (spelled_name text) ≡ text
name_text-spelled_name text h = written (parts text) h ∙ joined_parts text
