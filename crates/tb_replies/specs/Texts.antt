-- The texts that replies are made of.
use Rattle.std.specs.Prelude.{ℕ, List, ◌++◌, codes, slice_get}
use Rattle.std.specs.Fmt.{decimal}
use Rattle.tb_model.specs.declared.step_id.StepId.{StepId}
use Rattle.tb_model.specs.Names.{Name}
use Rattle.tb_model.specs.Spelling.{name_text, step_id_text}
use Rattle.tb_view.specs.Lines.{line, line_if_any, step_line}
use Rattle.tb_live.specs.Session.{Session, history}
use Rattle.tb_live.specs.Moves.{coming}
use Rattle.tb_team.specs.Turns.{stepped_by}
use Rattle.tb_commands.specs.declared.asked.CommandFault.{CommandFault}
use Rattle.tb_commands.specs.declared.asked.CommandFault.TheVariants.{Line, Word, Count, Name as BadName, Number as BadNumber}

-- ---- refusals and faults

abbrev pub refused : ℕ → List ℕ → List ℕ
refused number name = line (codes "refused " ++ decimal number ++ codes " " ++ name)

-- with the task that it carries
abbrev pub refused_for : ℕ → List ℕ → Name → List ℕ
refused_for number name t = refused number (name ++ codes " " ++ name_text t)

-- with the step that it carries
abbrev pub refused_with : ℕ → List ℕ → StepId → List ℕ
refused_with number name i = refused number (name ++ codes " " ++ step_id_text i)

abbrev pub fault_word : CommandFault → List ℕ
fault_word Line = codes "line"
fault_word Word = codes "word"
fault_word Count = codes "count"
fault_word BadName = codes "name"
fault_word BadNumber = codes "number"

-- ---- steps

-- the line of the newest event that is there, of which this is the step
abbrev pub newest_line : Session → StepId → List ℕ
newest_line s i = line_if_any s.program i (slice_get (history s) 0)

-- the line of the task's next step
abbrev pub told_step : Session → Name → List ℕ
told_step s t = step_line s.program (history s) (coming s t)

-- after the task's next step, by the session itself
abbrev pub stepped : Session → Name → Session
stepped = stepped_by 0
