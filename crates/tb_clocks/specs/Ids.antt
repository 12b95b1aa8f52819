-- The ids of tasks, as they are stored.
use Rattle.std.specs.Prelude.{◌≡◌}
use Rattle.tb_model.specs.Facts.{History}
use Rattle.tb_model.specs.Legal.{Cells, Legal}
use Rattle.tb_clocks.specs.Known.{names_in}
use Rattle.tb_clocks.specs.declared.ids.Ids.{Ids}

-- each task that was generated is stored, at its id
pub record AreIds (cells : Cells) (H : History) (ids : Ids) : Type 0 where
  pub legal : Legal cells H
  pub names : ids.names.keys ≡ names_in H
