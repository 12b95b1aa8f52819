-- What the laws of a session speak of.
use Rattle.std.specs.Prelude.{ℕ, Bool, true, false, Option}
use Rattle.tb_model.specs.Journal.{Sound}
use Rattle.tb_model.specs.WellFormed.{WellFormed}
use Rattle.tb_model.specs.Names.{Name}
use Rattle.tb_model.specs.Program.{situation}
use Rattle.tb_control.specs.declared.mode.Mode.{Mode}
use Rattle.tb_control.specs.declared.mode.Mode.TheVariants.{Paused}
use Rattle.tb_control.specs.declared.paused_by.PausedBy.TheVariants.{Break}
use Rattle.tb_live.specs.Breaks.{met}
use Rattle.tb_live.specs.Moves.{coming}
use Rattle.tb_live.specs.Session.{Session, history}

-- the journal is one of the program, which is well formed
pub record IsSound (s : Session) : Type 0 where
  pub well_formed : WellFormed s.program
  pub sound : Sound s.program s.journal

-- the number of the first breakpoint that the task's next step meets
abbrev pub met_by : Session → Name → Option ℕ
met_by s t = met (situation s.program t (history s)).line (coming s t) s.control.breakpoints.standing

-- the newest step met a breakpoint
abbrev pub is_break : Mode → Bool
is_break (Paused (Break number)) = true
is_break _ = false
