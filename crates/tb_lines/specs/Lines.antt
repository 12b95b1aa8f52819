-- Texts as lines of bytes, and what a reader gave of them.
use Rattle.std.specs.Prelude.{◌≡◌, ◌<◌, ℕ, length, Bool, true, false, List, [], ◌∷◌, ◌++◌, Option, Result, Ok, Err}
use Rattle.std.specs.List.{AllByRecursion}
use Rattle.tb_read.specs.Text.{is_line_feed}
use Rattle.std.specs.Io.KnownBytes.{Consumes, IsAtEnd}
use Rattle.tb_lines.specs.declared.line_reader.LineEnd.{LineEnd}
use Rattle.tb_lines.specs.declared.line_reader.LineEnd.TheVariants.{Feed, Input}
use Rattle.tb_lines.specs.declared.line_reader.LineFault.{LineFault}
use Rattle.tb_lines.specs.declared.line_stop.LineStop.{LineStop}
use Rattle.tb_lines.specs.declared.line_stop.LineStop.TheVariants as stop

-- no byte of these is a line feed
abbrev pub IsUnbroken : List ℕ → Type 0
IsUnbroken bytes = AllByRecursion (λ b. is_line_feed b ≡ false) bytes

-- a piece without a line feed is a line, unless it is empty
abbrev pub last_line : List ℕ → List (List ℕ)
last_line [] = []
last_line (b ∷ line) = (b ∷ line) ∷ []

-- the bytes of whole lines, each with its line feed
abbrev pub spelled : List (List ℕ) → List ℕ
spelled [] = []
spelled (line ∷ more) = line ++ 10 ∷ spelled more

abbrev pub AreUnbroken : List (List ℕ) → Type 0
AreUnbroken lines = AllByRecursion IsUnbroken lines

-- as many bytes as one read hands out at most
abbrev pub most_ahead : ℕ
most_ahead = 8192

-- after the piece is its line feed, or nothing
abbrev pub rest_behind : Bool → List ℕ → List ℕ
rest_behind true rest = 10 ∷ rest
rest_behind false rest = rest

-- of what was held a piece without a line feed went to the line, all of it where no line feed was found
pub record TakesPiece (held rest before after : List ℕ) (found : Bool) : Type 0 where
  pub piece : List ℕ
  pub unbroken : IsUnbroken piece
  pub split : held ≡ piece ++ rest_behind found rest
  pub whole : found ≡ false → rest ≡ []
  pub grown : after ≡ before ++ piece

-- a line, with what ended it; at an error, a part of one was taken
abbrev pub GaveLine : Option (List ℕ) → Option (List ℕ) → List ℕ → Result LineEnd LineFault → Type 0
GaveLine old new line (Ok Feed) = Consumes old new (line ++ 10 ∷ []) × IsUnbroken line
GaveLine old new line (Ok Input) = Consumes old new line × IsUnbroken line × IsAtEnd new
GaveLine old new line (Err e) = Consumes old new line × IsUnbroken line

-- a line, with what ended it, or more than so many of its first bytes; at an error, a part of one was taken
abbrev pub GaveFront : ℕ → Option (List ℕ) → Option (List ℕ) → List ℕ → Result LineStop LineFault → Type 0
GaveFront most old new line (Ok stop.Feed) = Consumes old new (line ++ 10 ∷ []) × IsUnbroken line
GaveFront most old new line (Ok stop.Input) = Consumes old new line × IsUnbroken line × IsAtEnd new
GaveFront most old new line (Ok stop.Long) = Consumes old new line × IsUnbroken line × (most < length line)
GaveFront most old new line (Err e) = Consumes old new line × IsUnbroken line
