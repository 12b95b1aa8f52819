-- Whom a task's children and its groups have, by the task's actions. No other crate's clause cites this module.
use Rattle.std.specs.Prelude.{ℕ, List, Bool, false, ◌&&◌, Option, Some, None}
use Rattle.tb_model.specs.declared.action.Action.{Action}
use Rattle.tb_model.specs.declared.action.Action.TheVariants.{Spawn}
use Rattle.tb_model.specs.Names.{Name, is_child, is_within}
use Rattle.tb_model.specs.Facts.{History, own}
use Rattle.tb_model.specs.State.{is_member_of, is_unended}

-- u is a child of t, or a member of its open group of the kth step
abbrev pub is_among : List Action → Name → Option ℕ → Name → Bool
is_among acts t None u = is_child t u
is_among acts t (Some k) u = is_member_of k acts u

-- u is a child of t, or a member of its open group of the kth step, and hasn't ended
abbrev pub is_unended_among : History → Name → Option ℕ → Name → Bool
is_unended_among H t group u = is_among (own t H) t group u && is_unended H u

-- the action generates m, or one that m descends from
abbrev pub makes_member : Action → Name → Bool
makes_member (Spawn s) m = is_within s.child m
makes_member _ m = false
