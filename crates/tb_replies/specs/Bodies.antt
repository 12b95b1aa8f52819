-- The body that a name names.
use Rattle.std.specs.Prelude.{ℕ, zero, suc, Bool, false, List, length, if◌then◌else◌, Option, Some, None}
use Rattle.tb_model.specs.Program.{Program, Body}
use Rattle.tb_read.specs.Bodies.{name_at}
use Rattle.tb_read.specs.Word.{same_word}

-- a body begins, and has this name
abbrev pub is_named : List ℕ → Option (List ℕ) → Bool
is_named name None = false
is_named name (Some other) = same_word other name

-- the first of so many lines, from this one on, that begins a body of this name
abbrev pub line_from : ℕ → ℕ → List ℕ → List Body → Option ℕ
line_from zero line name bodies = None
line_from (suc more) line name bodies = if is_named name (name_at line bodies) then Some line else line_from more (suc line) name bodies

-- the line of the program that begins the body of this name
abbrev pub body_line : List ℕ → Program → Option ℕ
body_line name P = line_from (length P.lines) 0 name P.bodies
