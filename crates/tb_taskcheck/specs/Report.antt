-- The report of a run text.
use Rattle.std.specs.Prelude.{◌≡◌, ℕ, Bool, if◌then◌else◌, List, [], ◌∷◌, ◌++◌, length, codes, decimal, Result, Ok, Err}
use Rattle.std.specs.Fmt.{signed_decimal}
use Rattle.tb_draft.specs.Races.{races_text}
use Rattle.tb_model.specs.Facts.{History}
use Rattle.tb_model.specs.Legal.{Cells}
use Rattle.tb_model.specs.Names.{Name}
use Rattle.tb_model.specs.Spelling.{name_text}
use Rattle.tb_races.specs.declared.race.Race.{Race}
use Rattle.tb_races.specs.Racing.{races}
use Rattle.tb_taskcheck.specs.Races.{listed, some_unordered}
use Rattle.tb_taskcheck.specs.Unended.{AreUnended}
use Rattle.tb_taskcheck.specs.declared.outcome.Outcome.{Outcome}
use Rattle.tb_taskcheck.specs.declared.outcome.Outcome.TheVariants as outcome
use Rattle.tb_verdict.specs.Refusals.{number_of}
use Rattle.tb_verdict.specs.Texts.{text_judged}
use Rattle.tb_verdict.specs.declared.ending.Ending.{Ending}
use Rattle.tb_verdict.specs.declared.ending.Ending.TheVariants as ending
use Rattle.tb_verdict.specs.declared.refusal.Refusal.{Refusal}
use Rattle.tb_verdict.specs.declared.refusal.Refusal.TheVariants.{NoSuchTask, Ended, Waiting, Excluded, Children, Group, Undeferred, NotStarted, Started, Reads, Child, NoGroup, Step}

abbrev pub status_of : Outcome → ℕ
status_of outcome.Over = 0
status_of outcome.Refused = 1
status_of outcome.Racing = 2
status_of outcome.Unended = 3

-- ---- an event that may not follow

abbrev pub title_of : Refusal → List ℕ
title_of NoSuchTask = codes "NoSuchTask"
title_of Ended = codes "Ended"
title_of (Waiting u) = codes "Waiting"
title_of (Excluded u) = codes "Excluded"
title_of (Children u) = codes "Children"
title_of (Group u) = codes "Group"
title_of (Undeferred u) = codes "Undeferred"
title_of NotStarted = codes "NotStarted"
title_of Started = codes "Started"
title_of (Reads number) = codes "Reads"
title_of (Child u) = codes "Child"
title_of NoGroup = codes "NoGroup"
title_of (Step due) = codes "Step"

abbrev pub task_carried : Name → List ℕ
task_carried u = codes " " ++ name_text u

-- the task, the number or the step that is due, after a blank
abbrev pub carried : Refusal → List ℕ
carried (Waiting u) = task_carried u
carried (Excluded u) = task_carried u
carried (Children u) = task_carried u
carried (Group u) = task_carried u
carried (Undeferred u) = task_carried u
carried (Child u) = task_carried u
carried (Reads number) = codes " " ++ signed_decimal number
carried (Step due) = codes " " ++ decimal due
carried NoSuchTask = []
carried Ended = []
carried NotStarted = []
carried Started = []
carried NoGroup = []

abbrev pub refused_text : ℕ → Refusal → List ℕ
refused_text n r = codes "line " ++ decimal n ++ codes ": refused " ++ decimal (number_of r) ++ codes " " ++ title_of r ++ carried r ++ codes "\n"

-- ---- a legal run

-- each name on a line
abbrev pub names_text : List Name → List ℕ
names_text [] = []
names_text (t ∷ ts) = name_text t ++ codes "\n" ++ names_text ts

-- the count of events, and that of the unended tasks with their names
abbrev pub head_text : ℕ → ℕ → List ℕ
head_text events count = codes "legal " ++ decimal events ++ codes "\nunended " ++ decimal count ++ codes "\n"

-- with the races, by the order of their later steps
abbrev pub legal_text : ℕ → List Name → List Race → List ℕ
legal_text events ts found = head_text events (length ts) ++ names_text ts ++ races_text found

abbrev pub by_names : List Name → Outcome
by_names [] = outcome.Over
by_names (t ∷ ts) = outcome.Unended

-- by whether two of its steps race that exclusion doesn't separate, and by its unended tasks
abbrev pub outcome_of : Bool → List Name → Outcome
outcome_of unordered ts = if unordered then outcome.Racing else by_names ts

pub record IsLegalReport (H : History) (o : Outcome) (out : List ℕ) : Type 0 where
  pub unended : List Name
  pub all : AreUnended H unended
  pub outcome : o ≡ outcome_of (some_unordered (races H)) unended
  pub text : out ≡ legal_text (length H) unended (listed H)

-- ---- the report

abbrev pub IsEndingReport : ℕ → Ending → Outcome → List ℕ → Type 0
IsEndingReport n (ending.Refused r) o out = (o ≡ outcome.Refused) × (out ≡ refused_text n r)
IsEndingReport n (ending.Faulty fault) o out = ⊥

-- of what a text comes to; where it has a fault there is no report
abbrev pub Reports : Result (Cells × History) (ℕ × Ending) → Outcome → List ℕ → Type 0
Reports (Ok run) o out = IsLegalReport run.1 o out
Reports (Err e) o out = IsEndingReport e.0 e.1 o out

abbrev pub IsReport : List (List ℕ) → Outcome → List ℕ → Type 0
IsReport lines o out = Reports (text_judged lines) o out
