-- Why a change isn't made that a seat asks for: the run refuses it, or it would take it and the
-- cell of the entry's slot is taken.
use Rattle.std.specs.Prelude.{ℕ, IsTrue, IsFalse, Err}
use Rattle.tb_model.specs.declared.step_id.StepId.{StepId}
use Rattle.tb_model.specs.Equivalent.{stands}
use Rattle.tb_plan.specs.declared.planned.Plan.{Plan}
use Rattle.tb_live.specs.declared.commit_refusal.CommitRefusal.{CommitRefusal}
use Rattle.tb_live.specs.Commits.{MayCommit, RefusesCommit}
use Rattle.tb_live.specs.Moves.{KeepsAll, MayUndo, UndoneFor}
use Rattle.tb_live.specs.Session.{Session, history, is_full}
use Rattle.tb_core.specs.declared.undo_refusal.UndoRefusal.{UndoRefusal}
use Rattle.tb_roll.specs.declared.roll_refusal.RollRefusal.{RollRefusal}
use Rattle.tb_work.specs.declared.refused.Refused.{Refused}
use Rattle.tb_work.specs.declared.refused.Refused.TheVariants.{Run, CellTaken}

-- the plan's commit
abbrev pub RefusesPlan : ℕ → Session → Plan → Refused CommitRefusal → Type 0
RefusesPlan seat s p (Run e) = RefusesCommit s seat p e
RefusesPlan seat s p CellTaken = MayCommit s seat p

-- the step's rollback
abbrev pub RefusesRoll : Session → StepId → Refused RollRefusal → Type 0
RefusesRoll s i (Run e) = KeepsAll s i e
RefusesRoll s i CellTaken = IsTrue (stands i (history s)) × IsFalse (is_full s)

-- the step's undo
abbrev pub RefusesUndo : ℕ → Session → StepId → Refused UndoRefusal → Type 0
RefusesUndo seat s i (Run e) = UndoneFor seat s i s (Err e)
RefusesUndo seat s i CellTaken = MayUndo s i
