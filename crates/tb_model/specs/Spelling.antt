-- How names of tasks and ordinals of steps are spelled.
use Rattle.std.specs.Prelude.{◌≡◌, ◌≤◌, ◌<◌, ◌-◌, ℕ, suc, length, take, slice_index, List, [], ◌∷◌, ◌++◌, Bool, false, ◌&&◌, ◌==◌, not, nat_le, nat_lt, if◌then◌else◌, map, drop, reverse, decimal, Option, Some, None}
use Rattle.std.specs.List.{list_all, list_any, position_or_len}
use Rattle.std.specs.Char.{is_ascii_digit}
use Rattle.std.specs.Str.Parse.{digits_value}
use Rattle.tb_model.specs.declared.step_id.StepId.{StepId}
use Rattle.tb_model.specs.declared.name_refusal.NameRefusal.{NameRefusal}
use Rattle.tb_model.specs.declared.name_refusal.NameRefusal.TheVariants.{Memory, BadName}
use Rattle.tb_model.specs.Names.{Name}

-- ---- how they are written

-- the root is `0`; a child is its parent, a dot and its ordinal
abbrev pub name_text : Name → List ℕ
name_text [] = 48 ∷ []
name_text (n ∷ t) = name_text t ++ 46 ∷ decimal n

-- the levels of these ordinals, the last one first
abbrev pub levels_text : List ℕ → List ℕ
levels_text [] = []
levels_text (n ∷ t) = levels_text t ++ 46 ∷ decimal n

-- a number of one digit
abbrev pub is_digit : ℕ → Bool
is_digit n = nat_lt n 10

-- the task, `#` and the ordinal of the step
abbrev pub step_id_text : StepId → List ℕ
step_id_text e = name_text e.task ++ 35 ∷ decimal e.k

-- ---- what spells one

-- a number from 1 to 1,000,000 in decimal, without a leading zero
abbrev pub is_ordinal : List ℕ → Bool
is_ordinal [] = false
is_ordinal (d ∷ ds) = list_all is_ascii_digit (d ∷ ds) && (not (d == 48) && nat_le (digits_value 10 (d ∷ ds)) 1000000)

-- the value that they spell
abbrev pub ordinal_of : List ℕ → Option ℕ
ordinal_of digits = if is_ordinal digits then Some (digits_value 10 digits) else None

-- a byte in front of the first part
abbrev pub onto_first : ℕ → List (List ℕ) → List (List ℕ)
onto_first b [] = (b ∷ []) ∷ []
onto_first b (part ∷ parts) = (b ∷ part) ∷ parts

abbrev pub is_dot : ℕ → Bool
is_dot b = b == 46

-- after the index there is no dot, and one in front of it unless the text begins there
pub record IsLastPart (text : List ℕ) (at : ℕ) : Type 0 where
  pub within : at ≤ length text
  pub part : list_any is_dot (drop at text) ≡ false
  pub dot : 0 < at → slice_index text (at - 1) ≡ 46

-- what lies between the dots: one part more than there are dots
abbrev pub parts : List ℕ → List (List ℕ)
parts [] = [] ∷ []
parts (b ∷ bytes) = if is_dot b then [] ∷ parts bytes else onto_first b (parts bytes)

-- the root's part, `0`
abbrev pub is_zero : List ℕ → Bool
is_zero [] = false
is_zero (d ∷ []) = d == 48
is_zero (d ∷ e ∷ ds) = false

-- the first part is `0`, each other one an ordinal from 1 to 1,000,000
abbrev pub are_levels : List (List ℕ) → Bool
are_levels [] = false
are_levels (root ∷ numbers) = is_zero root && list_all is_ordinal numbers

abbrev pub spells_name : List ℕ → Bool
spells_name text = are_levels (parts text)

-- the name that a text spells: the ordinals after the first, the last one first
abbrev pub spelled_name : List ℕ → Name
spelled_name text = reverse (map (λ part. digits_value 10 part) (drop 1 (parts text)))

abbrev pub is_hash : ℕ → Bool
is_hash b = b == 35

-- the bytes in front of the first `#`, all of them where there is none, and those after it
abbrev pub before_hash : List ℕ → List ℕ
before_hash text = take (position_or_len is_hash text) text

abbrev pub behind_hash : List ℕ → List ℕ
behind_hash text = drop (suc (position_or_len is_hash text)) text

-- the name of a task in front of the first `#`, an ordinal from 1 to 1,000,000 after it
abbrev pub spells_step_id : List ℕ → Bool
spells_step_id text = spells_name (before_hash text) && is_ordinal (behind_hash text)

abbrev pub spelled_step_id : List ℕ → StepId
spelled_step_id text = record { task = spelled_name (before_hash text); k = digits_value 10 (behind_hash text) }

abbrev pub name_refusal_number : NameRefusal → ℕ
name_refusal_number Memory = 0
name_refusal_number BadName = 1
