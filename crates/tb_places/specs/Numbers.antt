-- The tasks that have a row, and its id.
use Rattle.std.specs.Prelude.{ℕ, List, Option, position}
use Rattle.tb_model.specs.Names.{Name, same_name}

-- the id of the task, where these tasks have one
abbrev pub number_of : List Name → Name → Option ℕ
number_of names t = position (same_name t) names
