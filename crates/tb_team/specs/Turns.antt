-- What `go` does: its workers claim tasks and commit their next steps, turn by turn.
use Rattle.std.specs.Prelude.{◌≡◌, ◌≤◌, ℕ, List, [], ◌∷◌, Bool, IsFalse, if◌then◌else◌, Option, Some, None}
use Rattle.std.specs.Option.{option_or}
use Rattle.tb_model.specs.declared.entry.Entry.TheVariants.{Stepped}
use Rattle.tb_model.specs.Names.{Name}
use Rattle.tb_control.specs.declared.mode.Mode.{Mode}
use Rattle.tb_control.specs.declared.mode.Mode.TheVariants.{Paused}
use Rattle.tb_control.specs.declared.paused_by.PausedBy.TheVariants.{Break as ByBreak, Count as ByCount}
use Rattle.tb_live.specs.Modes.{counting, is_paused}
use Rattle.tb_live.specs.Pauses.{with_mode}
use Rattle.tb_live.specs.Runs.{resumed, unclaimed}
use Rattle.tb_live.specs.Session.{Session, is_full, with_seat, with_entry}
use Rattle.tb_live.specs.Moves.{MayStep, coming, least_task}
use Rattle.tb_team.specs.declared.stop.Stop.{Stop}
use Rattle.tb_team.specs.declared.stop.Stop.TheVariants.{Break, Limit, Done, Full}

-- ---- why no turn follows

-- what pauses a run: a breakpoint, or the last of the steps that were asked for
abbrev pub why_paused : Mode → Option Stop
why_paused (Paused (ByBreak number)) = Some Break
why_paused (Paused ByCount) = Some Limit
why_paused _ = None

-- where no task can step, all is done, also with a full journal
abbrev pub why_idle : Option Name → Bool → Option Stop
why_idle None full = Some Done
why_idle (Some t) full = if full then Some Full else None

-- the first that holds
abbrev pub stop_of : Session → Option Stop
stop_of s = option_or (why_paused s.control.mode) (why_idle (least_task s) (is_full s))

-- ---- turns

-- a worker, of seat 1 or more, may claim the task and commit its next step; a worker alone gets the
-- least task that can step, and next to others any that can
pub record IsTurn (workers : ℕ) (s : Session) (seat : ℕ) (t : Name) : Type 0 where
  pub first : 1 ≤ seat
  pub last : seat ≤ workers
  pub going : IsFalse (is_paused s.control.mode)
  pub may : MayStep s t
  pub alone : workers ≡ 1 → least_task s ≡ Some t

-- after the task's next step, by a seat
abbrev pub stepped_by : ℕ → Session → Name → Session
stepped_by seat s t = with_entry s (Stepped seat (coming s t))

-- after the seat's claim on the task, and its commit, which ends the claim
abbrev pub turned : ℕ → Session → Name → Session
turned seat s t = stepped_by seat (with_seat s seat (Some t)) t

-- without claims, and for so many steps
abbrev pub started : ℕ → Session → Session
started most s = with_mode (unclaimed s) (counting most)

-- no claim is left, and the run goes on
abbrev pub settled : Session → Session
settled s = resumed (unclaimed s)

-- these turns, each a seat's and on a task, lead from the one to the other, and each comes where nothing stops the workers
abbrev pub AreTurns : ℕ → List (ℕ × Name) → Session → Session → Type 0
AreTurns workers [] s at = at ≡ s
AreTurns workers (turn ∷ turns) s at = (stop_of s ≡ None) × IsTurn workers s turn.0 turn.1 × AreTurns workers turns (turned turn.0 s turn.1) at
