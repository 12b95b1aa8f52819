-- The bodies of the whole text: what its lines `body NAME NPARAMS` say, faulty ones among them.
use Rattle.std.specs.Prelude.{ℕ, suc, Bool, true, List, [], ◌∷◌, ◌++◌, ◌==◌, ◌&&◌, if◌then◌else◌, nat_le, length, ℤ, Option, Some, None, codes}
use Rattle.std.specs.Map.{lookup}
use Rattle.std.specs.Option.{option_to_list}
use Rattle.tb_read.specs.Text.{line_words}
use Rattle.tb_read.specs.Word.{Word, same_word, word_at, number_of, is_name}
use Rattle.tb_read.specs.declared.heading.Heading.{Heading}

-- the count of parameters, from 0 to 16
abbrev pub params_of : Option ℤ → Option ℕ
params_of (Some (ℤ.pos n)) = if nat_le n 16 then Some n else None
params_of _ = None

-- a line's heading, where its name is one and its parameters are so many
abbrev pub heading_by : Bool → Word → ℕ → Option ℕ → Option (Word × Heading)
heading_by true name line (Some params) = Some (name, record { line = line; params = params })
heading_by _ name line _ = None

-- the words are `body`, a name and a number
abbrev pub is_heading : List Word → Bool
is_heading words = (length words == 3) && (same_word (word_at words 0) (codes "body") && is_name (word_at words 1))

abbrev pub heading_in : ℕ → List Word → Option (Word × Heading)
heading_in line words = heading_by (is_heading words) (word_at words 1) line (params_of (number_of (word_at words 2)))

-- the headings of these lines, the first of which has this number
abbrev pub headings_from : ℕ → List (List ℕ) → List (Word × Heading)
headings_from line [] = []
headings_from line (first ∷ lines) = option_to_list (heading_in line (line_words first)) ++ headings_from (suc line) lines

-- the first heading of the name counts
abbrev pub heading_of : List (Word × Heading) → Word → Option Heading
heading_of headings name = lookup (same_word name) headings
