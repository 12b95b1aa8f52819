-- A legal history in another order: what changing the places of independent steps leaves.
use Rattle.std.specs.Prelude.{◌≡◌, length}
use Rattle.tb_model.specs.declared.step_id.StepId.{StepId}
use Rattle.tb_model.specs.Facts.{History}
use Rattle.tb_model.specs.Legal.{Cells, Legal}
use Rattle.tb_model.specs.Needs.{removed}
use Rattle.tb_model.specs.Alike.{Alike}
use Rattle.tb_model.specs.Equivalent.{Equivalent}
use Rattle.tb_model.specs.Program.{Program, LegalFor}

-- H is G in another order: legal, with the same state, and equivalent
pub record IsReordering (cells : Cells) (G H : History) : Type 0 where
  pub legal : Legal cells H
  pub alike : Alike G H
  pub equivalent : Equivalent G H

-- H is G in another order: a legal run of the program, with the same state, and equivalent
pub record IsReorderingFor (P : Program) (G H : History) : Type 0 where
  pub legal : LegalFor P H
  pub alike : Alike G H
  pub equivalent : Equivalent G H

-- the step is in H, and nothing there needs it
abbrev pub IsUnneeded : StepId → History → Type 0
IsUnneeded e H = length (removed e H) ≡ 1
