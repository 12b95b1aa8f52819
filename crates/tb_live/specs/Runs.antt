-- What a list of moves is answered, and what it leaves.
use Rattle.std.specs.Prelude.{◌≡◌, ℕ, List, [], ◌∷◌, true, length, Result, Ok, Err, IfOk, IfErr}
use Rattle.tb_model.specs.declared.step_id.StepId.{StepId}
use Rattle.tb_model.specs.Names.{Name}
use Rattle.tb_live.specs.declared.commit_refusal.CommitRefusal.{CommitRefusal}
use Rattle.tb_live.specs.declared.commit_refusal.CommitRefusal.TheVariants.{Step as NotTaken}
use Rattle.tb_live.specs.declared.moves.Move.{Move}
use Rattle.tb_live.specs.declared.moves.Move.TheVariants.{Step, Undo, Roll}
use Rattle.tb_live.specs.declared.answer.Answer.{Answer}
use Rattle.tb_live.specs.declared.answer.Answer.TheVariants.{Step as Stepped, Undo as Undone, Roll as RolledBack}
use Rattle.tb_control.specs.declared.mode.Mode.TheVariants.{Resumed}
use Rattle.tb_control.specs.Claims.{withdrawn}
use Rattle.tb_live.specs.Session.{Session}
use Rattle.tb_live.specs.Pauses.{with_mode}
use Rattle.tb_live.specs.Moves.{Steps, Refuses, UndoneBy, Rolls, KeepsAll}

-- no seat claims a task
abbrev pub unclaimed : Session → Session
unclaimed s = record {
  program = s.program;
  limit = s.limit;
  journal = s.journal;
  control = record { claims = withdrawn (λ t. true) s.control.claims; breakpoints = s.control.breakpoints; mode = s.control.mode };
}

abbrev pub resumed : Session → Session
resumed s = with_mode s Resumed

-- the task's next event is the newest entry, at this slot; a refusal changes nothing
abbrev pub StepsAt : Session → Name → Session → Result ℕ CommitRefusal → Type 0
StepsAt s t new (Ok place) = (place ≡ length s.journal) × ((i : StepId) × Steps s t new i)
StepsAt s t new (Err (NotTaken e)) = (new ≡ s) × Refuses s t e
StepsAt s t new (Err _) = ⊥

-- a move by its answer; a refusal changes nothing
abbrev pub Makes : Session → Move → Session → Answer → Type 0
Makes s (Step t) new (Stepped result) = StepsAt s t new result
Makes s (Undo i) new (Undone result) = UndoneBy s i new result
Makes s (Roll i) new (RolledBack result) = IfOk result (λ removed. Rolls s i new removed.items) × IfErr result (λ e. (new ≡ s) × KeepsAll s i e)
Makes s _ new _ = ⊥

-- the run is resumed in front of the move
abbrev pub Answers : Session → Move → Session → Answer → Type 0
Answers s m new a = Makes (resumed s) m new a

-- move by move: each is answered from what the moves in front of it left
abbrev pub Runs : List Move → Session → List Answer → Session → Type 0
Runs [] s [] new = new ≡ s
Runs (m ∷ ms) s (a ∷ answers) new = (mid : Session) × Answers s m mid a × Runs ms mid answers new
Runs _ s _ new = ⊥
