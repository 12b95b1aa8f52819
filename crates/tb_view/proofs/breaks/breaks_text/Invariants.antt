use Rattle.std.proofs.Common.{◌≡◌, ◌++◌, drop, string_bytes, codes}
use Rattle.tb_view.specs.Listing.{joined, listed, lines_of}
use Rattle.tb_view.specs.Breaks.{break_line}
use Rattle.tb_view.proofs.breaks.breaks_text.Given as goal

-- the text so far, and the lines of the breakpoints that are left, are the whole
abbrev pub invariant-breakpoints : goal.invariant-breakpoints
invariant-breakpoints l =
    string_bytes l.text ++ joined (lines_of (break_line l.program) (drop l.breakpoint-index l.breakpoints)) ≡ listed (codes "breaks") (lines_of (break_line l.program) l.breakpoints)
