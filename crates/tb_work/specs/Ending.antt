-- What the run answered a seat whose worker ended.
use Rattle.std.specs.Prelude.{ℕ, ◌≡◌, ◌⊎◌, List, Some, ⊤}
use Rattle.tb_model.specs.declared.entry.Entry.{Entry}
use Rattle.tb_model.specs.Program.{Program}
use Rattle.tb_plan.specs.declared.planned.Plan.{Plan}
use Rattle.tb_next.specs.declared.claim.Claim.TheVariants.{Done, Stopped}
use Rattle.tb_live.specs.declared.commit_refusal.CommitRefusal.{CommitRefusal}
use Rattle.tb_live.specs.Breaks.{Points}
use Rattle.tb_live.specs.Session.{Session}
use Rattle.tb_live.specs.Working.{ClaimsWork}
use Rattle.tb_work.specs.declared.burst.Burst.{Burst}
use Rattle.tb_work.specs.declared.ended.Ended.{Ended}
use Rattle.tb_work.specs.declared.ended.Ended.TheVariants.{Well, CellTaken, Memory}
use Rattle.tb_work.specs.declared.refused.Refused.{Refused}
use Rattle.tb_work.specs.declared.turn.Turn.{Turn}
use Rattle.tb_work.specs.declared.turn.Turn.TheVariants.{On, Later, Over}
use Rattle.tb_work.specs.Answering.{IsAnswer}
use Rattle.tb_work.specs.Bursts.{TakesBurst}
use Rattle.tb_work.specs.Going.{turn_behind}

-- a burst of the seat meets a refusal after which its worker ends so
pub record EndsBurst (seat : ℕ) (ended : Ended) (s new : Session) : Type 0 where
  pub plans : List Plan
  pub burst : Burst
  pub refusal : Refused CommitRefusal
  pub refused : burst.refusal ≡ Some refusal
  pub behind : turn_behind refusal ≡ Over ended
  pub takes : TakesBurst seat plans burst s new

-- a worker ends well where no task can step, where the run is paused or its journal is full, or
-- after such a refusal; where it wants memory, the run says nothing
abbrev pub IsEnding : ℕ → Ended → Session → Session → Type 0
IsEnding seat Well s new = ClaimsWork s seat new Done ⊎ ClaimsWork s seat new Stopped ⊎ EndsBurst seat Well s new
IsEnding seat CellTaken s new = EndsBurst seat CellTaken s new
IsEnding seat Memory s new = ⊤

-- a turn after which the worker ends is one by what the run answered it
abbrev pub IsTurn : Program → ℕ → Points → ℕ → List Entry → ℕ → Turn → Type 0
IsTurn P limit points seats begun seat On = ⊤
IsTurn P limit points seats begun seat Later = ⊤
IsTurn P limit points seats begun seat (Over ended) = IsAnswer P limit points seats begun (IsEnding seat ended)
