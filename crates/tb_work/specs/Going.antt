-- How a worker goes on, and why no worker executes a further step.
use Rattle.std.specs.Prelude.{◌≡◌, Option, Some, None, IsTrue, IsFalse}
use Rattle.tb_model.specs.Names.{Name}
use Rattle.tb_model.specs.Facts.{is_spawned}
use Rattle.tb_core.specs.declared.step_refusal.StepRefusal.TheVariants.{Memory, Full as JournalFull}
use Rattle.tb_live.specs.declared.commit_refusal.CommitRefusal.{CommitRefusal}
use Rattle.tb_live.specs.declared.commit_refusal.CommitRefusal.TheVariants.{Paused, Withdrawn, Step}
use Rattle.tb_control.specs.declared.mode.Mode.{Mode}
use Rattle.tb_control.specs.declared.mode.Mode.TheVariants.{Paused as IsPaused}
use Rattle.tb_control.specs.declared.paused_by.PausedBy.TheVariants.{Break as ByBreak, Count as ByCount}
use Rattle.tb_live.specs.Moves.{has_ended}
use Rattle.tb_live.specs.Session.{Session, history, is_full}
use Rattle.tb_work.specs.declared.ended.Ended.TheVariants.{Well, CellTaken as ByCell, Memory as ByMemory}
use Rattle.tb_work.specs.declared.refused.Refused.{Refused}
use Rattle.tb_work.specs.declared.refused.Refused.TheVariants.{Run, CellTaken}
use Rattle.tb_work.specs.declared.turn.Turn.{Turn}
use Rattle.tb_work.specs.declared.turn.Turn.TheVariants.{On, Over}
use Rattle.tb_work.specs.declared.why.Why.{Why}
use Rattle.tb_work.specs.declared.why.Why.TheVariants.{Break, Limit, Done, Full, Asked}

-- by the refusal of a commit: a pause and a full journal end the worker well; a cell that is taken
-- and want of memory end it, and are noted; else it claims again
abbrev pub turn_behind : Refused CommitRefusal → Turn
turn_behind CellTaken = Over ByCell
turn_behind (Run Paused) = Over Well
turn_behind (Run Withdrawn) = On
turn_behind (Run (Step JournalFull)) = Over Well
turn_behind (Run (Step Memory)) = Over ByMemory
turn_behind (Run (Step e)) = On

-- what paused the run, but for a call of `pause`
abbrev pub paused_for : Mode → Option Why
paused_for (IsPaused (ByBreak number)) = Some Break
paused_for (IsPaused ByCount) = Some Limit
paused_for _ = None

-- each task that is there is over
abbrev pub AreOver : Session → Type 0
AreOver s = (t : Name) → IsTrue (is_spawned (history s) t) → IsTrue (has_ended s t)

-- the first that holds
abbrev pub IsWhy : Session → Why → Type 0
IsWhy s Break = paused_for s.control.mode ≡ Some Break
IsWhy s Limit = paused_for s.control.mode ≡ Some Limit
IsWhy s Done = (paused_for s.control.mode ≡ None) × AreOver s
IsWhy s Full = (paused_for s.control.mode ≡ None) × (AreOver s → ⊥) × IsTrue (is_full s)
IsWhy s Asked = (paused_for s.control.mode ≡ None) × (AreOver s → ⊥) × IsFalse (is_full s)
