-- What holds of a program and its run.
use Rattle.std.specs.Prelude.{◌≡◌}
use Rattle.tb_model.specs.Lines.{LinesFit}
use Rattle.tb_model.specs.Program.{Program, LegalFor}
use Rattle.tb_model.specs.WellFormed.{WellFormed}
use Rattle.tb_read.specs.Followed.{IsFollowed}
use Rattle.tb_core.specs.Seen.{Seen, history}

-- the run is one of the program, and is at its lines
pub record Fits (P : Program) (run : Seen) : Type 0 where
  pub well_formed : WellFormed P
  pub followed : IsFollowed P
  pub cells : run.cells ≡ P.cells
  pub root_line : run.root_line ≡ P.root_line
  pub lines : LinesFit P run.steps
  pub legal : LegalFor P (history run)
