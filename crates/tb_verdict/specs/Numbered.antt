-- Obstacles that name tasks by ordinals.
use Rattle.std.specs.Prelude.{◌<◌, ⊤}
use Rattle.tb_undo.specs.declared.obstacle.Obstacle.{Obstacle}
use Rattle.tb_undo.specs.declared.obstacle.Obstacle.TheVariants as obstacle

-- children are counted from 1
abbrev pub IsNumbered : Obstacle → Type 0
IsNumbered (obstacle.Undeferred n) = 0 < n
IsNumbered (obstacle.Waiting n) = 0 < n
IsNumbered (obstacle.Excluded n) = 0 < n
IsNumbered (obstacle.Children n) = 0 < n
IsNumbered (obstacle.Group m) = ⊤
