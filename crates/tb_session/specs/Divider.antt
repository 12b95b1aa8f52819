-- The line between a program and its commands.
use Rattle.std.specs.Prelude.{codes, ℕ, Bool, false, List, [], ◌∷◌}
use Rattle.tb_read.specs.Text.{line_words}
use Rattle.tb_read.specs.Word.{same_word}

abbrev pub are_dashes : List (List ℕ) → Bool
are_dashes (word ∷ []) = same_word word (codes "---")
are_dashes _ = false

-- the only word of the line is `---`
abbrev pub is_divider : List ℕ → Bool
is_divider line = are_dashes (line_words line)
