-- What is written of a text, piece by piece.
use Rattle.std.specs.Prelude.{ℕ, List, ◌++◌, take, Option}
use Rattle.std.specs.Io.KnownBytes.{Appends}

-- a front was written and the rest waits; both together are such a text
pub record Told (before after : Option (List ℕ)) (rest : List ℕ) (IsText : List ℕ → Type 0) : Type 0 where
  pub front : List ℕ
  pub wrote : Appends before after front
  pub whole : IsText (front ++ rest)

-- a front of the text was written
abbrev pub WroteFront : Option (List ℕ) → Option (List ℕ) → List ℕ → Type 0
WroteFront before after text = (n : ℕ) × Appends before after (take n text)
