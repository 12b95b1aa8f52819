-- What a run text records, whether or not its events may follow one another.
use Rattle.std.specs.Prelude.{◌≡◌, ℕ, suc, List, [], ◌∷◌, length, map, nat_eq, Option, Some, None, Result, Ok, Err, IsTrue, ⊤}
use Rattle.indexmap.specs.IndexMap.{insert_entry}
use Rattle.tb_model.specs.declared.event.Event.{Event}
use Rattle.tb_model.specs.Facts.{History}
use Rattle.tb_model.specs.Legal.{Cells, Legal}
use Rattle.tb_model.specs.Needs.{step_of}
use Rattle.tb_runs.specs.Lines.{Firsts, line_said, cells_at}
use Rattle.tb_runs.specs.declared.fault.Fault.{Fault}
use Rattle.tb_runs.specs.declared.fault.Fault.TheVariants.{NoCells}
use Rattle.tb_runs.specs.declared.said.Said.{Said}
use Rattle.tb_runs.specs.declared.said.Said.TheVariants as says
use Rattle.tb_runs.specs.declared.said.Stage.{Stage}
use Rattle.tb_runs.specs.declared.said.Stage.TheVariants as stage
use Rattle.tb_verdict.specs.Refusals.{is_due}
use Rattle.tb_verdict.specs.Texts.{first_numbers}

-- an event, and the ordinal of its step where one is given
abbrev pub Step : Type 0
Step = Option ℕ × Event

-- no event came yet, and the cells have these first values; or the steps, the newest first
pub data Recorded : Type 0 where
  Front : Stage → Firsts → Recorded
  Steps : Cells → List Step → Recorded

abbrev pub says_in : Recorded → List ℕ → Result (Option Said) Fault
says_in (Front at firsts) line = line_said firsts at line
says_in (Steps first steps) line = line_said [] (stage.Events (length first)) line

abbrev pub with_said : Recorded → Said → Recorded
with_said (Front at firsts) (says.Cells count) = Front (stage.Cells count) firsts
with_said (Front at firsts) (says.Cell c x) = Front at (insert_entry nat_eq firsts c x)
with_said (Front at firsts) says.Hist = Steps (first_numbers (cells_at at) firsts) []
with_said (Front at firsts) (says.Event k v) = Steps (first_numbers (cells_at at) firsts) ((k, v) ∷ [])
with_said (Steps first steps) (says.Event k v) = Steps first ((k, v) ∷ steps)
with_said (Steps first steps) said = Steps first steps

abbrev pub with_line : Recorded → Result (Option Said) Fault → Result Recorded Fault
with_line r (Err fault) = Err fault
with_line r (Ok None) = Ok r
with_line r (Ok (Some said)) = Ok (with_said r said)

-- the fault of the line with this number, or what the lines after it record too
abbrev pub faulty_at : ℕ → Result Recorded Fault → (Recorded → Result Recorded (ℕ × Fault)) → Result Recorded (ℕ × Fault)
faulty_at n (Err fault) more = Err (n, fault)
faulty_at n (Ok r) more = more r

abbrev pub recorded_behind : ℕ → Recorded → List (List ℕ) → Result Recorded (ℕ × Fault)
recorded_behind n r [] = Ok r
recorded_behind n r (line ∷ lines) = faulty_at n (with_line r (says_in r line)) (λ r. recorded_behind (suc n) r lines)

-- where the text ends there
abbrev pub steps_in : Recorded → Result (Cells × List Step) (ℕ × Fault)
steps_in (Front stage.Begin firsts) = Err (1, NoCells)
steps_in (Front (stage.Cells count) firsts) = Ok (first_numbers count firsts, [])
steps_in (Front (stage.Events count) firsts) = Ok (first_numbers count firsts, [])
steps_in (Steps first steps) = Ok (first, steps)

abbrev pub steps_after : Result Recorded (ℕ × Fault) → Result (Cells × List Step) (ℕ × Fault)
steps_after (Err fault) = Err fault
steps_after (Ok r) = steps_in r

-- the first values and the steps of a text of these lines, or its fault
abbrev pub text_recorded : List (List ℕ) → Result (Cells × List Step) (ℕ × Fault)
text_recorded lines = steps_after (recorded_behind 1 (Front stage.Begin []) lines)

-- ---- the steps

abbrev pub history_of : List Step → History
history_of steps = map (λ (s : Step). s.1) steps

-- each ordinal that is given is that of its task's next step
abbrev pub AreDue : List Step → Type 0
AreDue [] = ⊤
AreDue (s ∷ steps) = AreDue steps × IsTrue (is_due s.0 (step_of (history_of steps) s.1).k)

-- the text has no fault and records this history, which is legal, and each ordinal of a step is due
pub record RecordsLegal (lines : List (List ℕ)) (first : Cells) (H : History) : Type 0 where
  pub steps : List Step
  pub recorded : text_recorded lines ≡ Ok (first, steps)
  pub events : H ≡ history_of steps
  pub due : AreDue steps
  pub legal : Legal first H
