-- How a run text spells names of tasks and steps: the ordinals of children go up to 4,294,967,295.
use Rattle.std.specs.Prelude.{ℕ, Bool, false, ◌&&◌, ◌==◌, not, nat_le, nat_lt, List, [], ◌∷◌, length, option_and_then, Option, Some, None, if◌then◌else◌}
use Rattle.std.specs.List.{list_all, position_or_len}
use Rattle.std.specs.Char.{is_ascii_digit}
use Rattle.std.specs.Str.Parse.{digits_value}
use Rattle.tb_model.specs.Names.{Name, child}
use Rattle.tb_model.specs.Spelling.{parts, is_zero, is_hash, before_hash, behind_hash}
use Rattle.tb_runs.specs.declared.name.Id.{Id}

-- a number from 1 to `most`
abbrev pub is_within : ℕ → ℕ → Bool
is_within most n = nat_lt 0 n && nat_le n most

-- digits of such a number, without a leading zero
abbrev pub is_ordinal : ℕ → List ℕ → Bool
is_ordinal most [] = false
is_ordinal most (d ∷ ds) = list_all is_ascii_digit (d ∷ ds) && (not (d == 48) && is_within most (digits_value 10 (d ∷ ds)))

abbrev pub ordinal_of : ℕ → List ℕ → Option ℕ
ordinal_of most digits = if is_ordinal most digits then Some (digits_value 10 digits) else None

-- the greatest ordinal of a child
abbrev pub last_child : ℕ
last_child = 4294967295

-- the greatest ordinal of a step: ten digits
abbrev pub last_step : ℕ
last_step = 9999999999

-- the descendant of t that these levels lead to, each the ordinal of a child
abbrev pub descendant : Name → List (List ℕ) → Option Name
descendant t [] = Some t
descendant t (level ∷ levels) = option_and_then (λ n. descendant (child t n) levels) (ordinal_of last_child level)

-- the root is `0`; after it comes a dot and a number for each level
abbrev pub named_by : List (List ℕ) → Option Name
named_by [] = None
named_by (root ∷ levels) = if is_zero root then descendant [] levels else None

abbrev pub task_of : List ℕ → Option Name
task_of text = named_by (parts text)

-- a task, which executes its next step
abbrev pub next_of : List ℕ → Option Id
next_of text = option_and_then (λ t. Some (record { task = t; step = None })) (task_of text)

-- a task, `#` and the ordinal of the step
abbrev pub numbered_of : List ℕ → Option Id
numbered_of text = option_and_then (λ t. option_and_then (λ k. Some (record { task = t; step = Some k })) (ordinal_of last_step (behind_hash text))) (task_of (before_hash text))

-- where a `#` is in the word, a number is wanted after it
abbrev pub id_of : List ℕ → Option Id
id_of text = if nat_lt (position_or_len is_hash text) (length text) then numbered_of text else next_of text
