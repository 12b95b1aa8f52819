-- The bodies of a program.
use Rattle.std.specs.Prelude.{ℕ, List, [], ◌∷◌, ◌==◌, if◌then◌else◌, Option, Some, None, string_bytes}
use Rattle.tb_model.specs.Program.{Body as Named}
use Rattle.tb_read.specs.declared.body.Body.{Body}

-- what a body shows; its name is text
abbrev pub named : Body → Named
named b = record { name = string_bytes b.name; line = b.line }

-- the name of the body that the line begins
abbrev pub name_at : ℕ → List Named → Option (List ℕ)
name_at line [] = None
name_at line (b ∷ bodies) = if b.line == line then Some b.name else name_at line bodies
