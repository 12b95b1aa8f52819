-- The refusals by their codes.
use Rattle.std.specs.Prelude.{ℕ}
use Rattle.tb_view.specs.declared.view_refusal.ViewRefusal.{ViewRefusal}
use Rattle.tb_view.specs.declared.view_refusal.ViewRefusal.TheVariants.{Memory, NoSuchStep, NoSuchTask}

abbrev pub view_number : ViewRefusal → ℕ
view_number Memory = 0
view_number NoSuchStep = 1
view_number NoSuchTask = 1
