-- The last step of a kind.
use Rattle.std.specs.Prelude.{ℕ, Bool, [], ◌∷◌, Option, Some, None, if◌then◌else◌}
use Rattle.tb_model.specs.declared.action.Action.{Action}
use Rattle.tb_model.specs.declared.step_id.StepId.{StepId}
use Rattle.tb_model.specs.Facts.{History, is_store_to, is_print}
use Rattle.tb_model.specs.Needs.{step_of}

abbrev pub last_where : (Action → Bool) → History → Option StepId
last_where passes [] = None
last_where passes (v ∷ H) = if passes v.action then Some (step_of H v) else last_where passes H

abbrev pub last_store : ℕ → History → Option StepId
last_store c H = last_where (is_store_to c) H

abbrev pub last_print : History → Option StepId
last_print H = last_where is_print H
