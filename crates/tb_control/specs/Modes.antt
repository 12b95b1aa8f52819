-- Whether steps are executed, and what pauses them.
use Rattle.std.specs.Prelude.{ℕ, Bool, true, false, ◌-◌, ◌==◌, Option, Some, None, if◌then◌else◌}
use Rattle.tb_control.specs.declared.mode.Mode.{Mode}
use Rattle.tb_control.specs.declared.mode.Mode.TheVariants.{Counting, Paused}
use Rattle.tb_control.specs.declared.paused_by.PausedBy.TheVariants.{Break, Count, Pause}

abbrev pub is_paused : Mode → Bool
is_paused (Paused by) = true
is_paused _ = false

-- for so many steps more; none pauses at once
abbrev pub counting : ℕ → Mode
counting steps = if steps == 0 then Paused Count else Counting steps

-- a pause leaves what is paused as it is
abbrev pub paused : Mode → Mode
paused (Paused by) = Paused by
paused _ = Paused Pause

-- one step less
abbrev pub counted : Mode → Mode
counted (Counting left) = counting (left - 1)
counted m = m

-- after a step: the breakpoint that it met pauses, also where the step is the last of those that
-- were asked for
abbrev pub behind : Option ℕ → Mode → Mode
behind (Some number) m = Paused (Break number)
behind None m = counted m
