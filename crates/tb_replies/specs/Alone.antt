-- One worker, of seat 1, turn by turn.
use Rattle.std.specs.Prelude.{◌≡◌, ◌≢◌, ℕ, List, ◌++◌, Bool, true, false, IsTrue, Some, None}
use Rattle.tb_model.specs.Names.{Name}
use Rattle.tb_control.specs.declared.mode.Mode.{Mode}
use Rattle.tb_live.specs.Claims.{AreFreeFrom}
use Rattle.tb_live.specs.Modes.{is_paused}
use Rattle.tb_live.specs.Moves.{least_task}
use Rattle.tb_live.specs.Session.{Session, is_full}
use Rattle.tb_replies.specs.Texts.{told_step}
use Rattle.tb_replies.specs.Turns.{IsGo}
use Rattle.tb_team.specs.Turns.{IsTurn, settled, stop_of, turned, why_idle, why_paused}
use Rattle.tb_replies.specs.declared.running.Taken.{Taken}
use Rattle.tb_team.specs.declared.stop.Stop.{Stop}

-- nobody claims a task
abbrev pub HasNoClaims : Session → Type 0
HasNoClaims s = AreFreeFrom 0 s.control.claims

-- what pauses the run is a breakpoint or the last step, and no call of `pause`
abbrev pub IsUnderWay : Mode → Type 0
IsUnderWay m = IsTrue (is_paused m) → why_paused m ≢ None

-- a turn is executed and written; or none follows
abbrev pub TakesTurn : Session → List ℕ → List ℕ → Session → Bool → Type 0
TakesTurn s before after new true = (stop_of s ≡ None) × ((t : Name) × IsTurn 1 s 1 t × (after ≡ before ++ told_step s t) × (new ≡ turned 1 s t))
TakesTurn s before after new false = (stop_of s ≢ None) × (after ≡ before) × (new ≡ s)

-- no task can step, or the journal is full
abbrev pub IsIdle : Session → Type 0
IsIdle s = why_idle (least_task s) (is_full s) ≢ None

pub record IsIdleStop (s new : Session) (why : Stop) : Type 0 where
  pub stops : why_idle (least_task s) (is_full s) ≡ Some why
  pub same : new ≡ s

-- the turns are over, and this many were taken
pub record Stops (s : Session) (count : ℕ) (new : Session) (taken : Taken) : Type 0 where
  pub why : stop_of s ≡ Some taken.stop
  pub counted : taken.count ≡ count
  pub now : new ≡ settled s

-- the whole course is written
abbrev pub IsWhole : ℕ → Session → List ℕ → Session → Taken → Type 0
IsWhole most s text new taken = IsGo 1 most s (record { lines = text; count = taken.count; stop = taken.stop; session = new })
