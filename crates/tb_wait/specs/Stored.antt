-- Where the groups of a task are. No public clause cites this module.
use Rattle.std.specs.Prelude.{[], ◌∷◌}
use Rattle.std.specs.Box.{box_value}
use Rattle.tb_wait.specs.Groups.{Groups}
use Rattle.tb_wait.specs.declared.stored.Stored.{Stored}
use Rattle.tb_wait.specs.declared.stored.Stored.TheVariants.{Nothing, Open, Shut, Many}

abbrev pub groups_in : Stored → Groups
groups_in Nothing = record { groups = []; shut = []; room = 1 }
groups_in (Open n) = record { groups = n ∷ []; shut = []; room = 0 }
groups_in (Shut n) = record { groups = []; shut = n ∷ []; room = 0 }
groups_in (Many stacks) = box_value stacks
