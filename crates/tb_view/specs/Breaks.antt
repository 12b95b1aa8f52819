-- The breakpoints, as text.
use Rattle.std.specs.Prelude.{ℕ, List, [], ◌∷◌, ◌++◌, codes}
use Rattle.std.specs.Fmt.{decimal}
use Rattle.tb_model.specs.Program.{Program}
use Rattle.tb_model.specs.Spelling.{name_text}
use Rattle.tb_control.specs.declared.breaks.Break.{Break}
use Rattle.tb_control.specs.declared.breaks.Break.TheVariants.{Task, Cell, Body, Print, Fault}
use Rattle.tb_control.specs.declared.breakpoint.Breakpoint.{Breakpoint}
use Rattle.tb_view.specs.Listing.{listed, lines_of}
use Rattle.tb_view.specs.Tasks.{body_text}

-- what it waits for; a body is stored by the line that begins it
abbrev pub break_text : Program → Break → List ℕ
break_text P (Task t) = codes "task " ++ name_text t
break_text P (Cell c) = codes "cell " ++ decimal c
break_text P (Body begins) = codes "body " ++ body_text P begins
break_text P Print = codes "print"
break_text P Fault = codes "fault"

abbrev pub break_line : Program → Breakpoint → List (List ℕ)
break_line P b = (decimal b.number ++ codes " " ++ break_text P b.at) ∷ []

-- the breakpoints, in the order in which they were made, which is that of their numbers
abbrev pub breaks_text : Program → List Breakpoint → List ℕ
breaks_text P breakpoints = listed (codes "breaks") (lines_of (break_line P) breakpoints)
