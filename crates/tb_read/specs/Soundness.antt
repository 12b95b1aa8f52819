-- What holds of each program.
use Rattle.std.specs.Prelude.{◌≤◌, List, Option, length}
use Rattle.tb_model.specs.Program.{Program}
use Rattle.tb_model.specs.WellFormed.{WellFormed}
use Rattle.tb_plan.specs.declared.instr.Instr.{Instr}
use Rattle.tb_read.specs.Followed.{IsFollowed}
use Rattle.tb_read.specs.Meaning.{IsPosition}
use Rattle.tb_read.specs.Shown.{ArePlaced}

-- the program is well formed, its root's body begins at a line with a statement, and no run leaves
-- its body
pub record IsSound (P : Program) : Type 0 where
  pub well_formed : WellFormed P
  pub root : IsPosition P P.root_line
  pub followed : IsFollowed P

-- a program and the instructions that show its lines
pub record IsKept (P : Program) (instrs : List (Option Instr)) : Type 0 where
  pub few_cells : length P.cells ≤ 65536
  pub few_lines : length instrs ≤ 65537
  pub placed : ArePlaced (length P.cells) instrs
  pub sound : IsSound P
