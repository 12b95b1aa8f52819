-- What the lines of a run text come to, one after another.
use Rattle.std.specs.Prelude.{ℕ, suc, List, [], ◌∷◌, length, replicate, slice_set, nat_eq, Option, Some, None, Result, Ok, Err}
use Rattle.indexmap.specs.IndexMap.{insert_entry}
use Rattle.tb_model.specs.declared.event.Event.{Event}
use Rattle.tb_model.specs.Facts.{History}
use Rattle.tb_model.specs.Legal.{Cells}
use Rattle.tb_model.specs.Program.{zero_ℤ}
use Rattle.tb_runs.specs.Lines.{Firsts, line_said, cells_at}
use Rattle.tb_runs.specs.declared.fault.Fault.{Fault}
use Rattle.tb_runs.specs.declared.fault.Fault.TheVariants.{NoCells}
use Rattle.tb_runs.specs.declared.said.Said.{Said}
use Rattle.tb_runs.specs.declared.said.Said.TheVariants as says
use Rattle.tb_runs.specs.declared.said.Stage.{Stage}
use Rattle.tb_runs.specs.declared.said.Stage.TheVariants as stage
use Rattle.tb_verdict.specs.Refusals.{refusal_of}
use Rattle.tb_verdict.specs.declared.refusal.Refusal.{Refusal}
use Rattle.tb_verdict.specs.declared.ending.Ending.{Ending}
use Rattle.tb_verdict.specs.declared.ending.Ending.TheVariants.{Faulty, Refused}

-- ---- the first values of all cells

abbrev pub with_firsts : Firsts → Cells → Cells
with_firsts [] cells = cells
with_firsts (first ∷ firsts) cells = slice_set (with_firsts firsts cells) first.0 first.1

-- a cell without one begins at 0
abbrev pub first_numbers : ℕ → Firsts → Cells
first_numbers count firsts = with_firsts firsts (replicate count zero_ℤ)

-- ---- the lines so far

-- no event came yet, and the cells have these first values; or events may come, the newest of those
-- that did first
pub data Sofar : Type 0 where
  Heading : Stage → Firsts → Sofar
  Running : Cells → History → Sofar

abbrev pub start : Sofar
start = Heading stage.Begin []

-- none in front of the first event; the first line that has words gives the count of cells
abbrev pub heading_events : Stage → Option ℕ
heading_events stage.Begin = None
heading_events (stage.Cells count) = Some 0
heading_events (stage.Events count) = Some 0

-- how many events, and None where no line had words
abbrev pub events_in : Sofar → Option ℕ
events_in (Heading at firsts) = heading_events at
events_in (Running first H) = Some (length H)

-- the events, the newest first
abbrev pub history_in : Sofar → History
history_in (Heading at firsts) = []
history_in (Running first H) = H

-- the events with this one, if there is one
abbrev pub with_event : Option Event → History → History
with_event None H = H
with_event (Some v) H = v ∷ H

-- what a line says there
abbrev pub says_at : Sofar → List ℕ → Result (Option Said) Fault
says_at (Heading at firsts) line = line_said firsts at line
says_at (Running first H) line = line_said [] (stage.Events (length first)) line

abbrev pub taken_by : Cells → History → Event → Option Refusal → Result Sofar Ending
taken_by first H v None = Ok (Running first (v ∷ H))
taken_by first H v (Some refusal) = Err (Refused refusal)

-- an event is accepted, unless it is refused
abbrev pub event_behind : Cells → History → Option ℕ → Event → Result Sofar Ending
event_behind first H k v = taken_by first H v (refusal_of first H k v)

-- after the first event no line says anything else
abbrev pub said_behind : Sofar → Said → Result Sofar Ending
said_behind (Heading at firsts) (says.Cells count) = Ok (Heading (stage.Cells count) firsts)
said_behind (Heading at firsts) (says.Cell c x) = Ok (Heading at (insert_entry nat_eq firsts c x))
said_behind (Heading at firsts) says.Hist = Ok (Running (first_numbers (cells_at at) firsts) [])
said_behind (Heading at firsts) (says.Event k v) = event_behind (first_numbers (cells_at at) firsts) [] k v
said_behind (Running first H) (says.Event k v) = event_behind first H k v
said_behind (Running first H) said = Ok (Running first H)

abbrev pub said_by : Sofar → Result (Option Said) Fault → Result Sofar Ending
said_by s (Err fault) = Err (Faulty fault)
said_by s (Ok None) = Ok s
said_by s (Ok (Some said)) = said_behind s said

-- the lines with one line more; or why the judgement ends there
abbrev pub line_behind : Sofar → List ℕ → Result Sofar Ending
line_behind s line = said_by s (says_at s line)

-- ---- a whole text

-- an ending, at the line with this number
abbrev pub ended_at : ℕ → Result Sofar Ending → (Sofar → Result Sofar (ℕ × Ending)) → Result Sofar (ℕ × Ending)
ended_at n (Err ending) more = Err (n, ending)
ended_at n (Ok s) more = more s

-- these lines after others, of which the first has this number
abbrev pub lines_behind : ℕ → Sofar → List (List ℕ) → Result Sofar (ℕ × Ending)
lines_behind n s [] = Ok s
lines_behind n s (line ∷ lines) = ended_at n (line_behind s line) (λ s. lines_behind (suc n) s lines)

-- the first values and the events of a text that ends there, and a fault where none of its lines
-- has words
abbrev pub ended_in : Sofar → Result (Cells × History) (ℕ × Ending)
ended_in (Heading stage.Begin firsts) = Err (1, Faulty NoCells)
ended_in (Heading (stage.Cells count) firsts) = Ok (first_numbers count firsts, [])
ended_in (Heading (stage.Events count) firsts) = Ok (first_numbers count firsts, [])
ended_in (Running first H) = Ok (first, H)

abbrev pub ended_after : Result Sofar (ℕ × Ending) → Result (Cells × History) (ℕ × Ending)
ended_after (Err ending) = Err ending
ended_after (Ok s) = ended_in s

-- what a text of these lines comes to: a run, or the line at which its judgement ends, and why
abbrev pub text_judged : List (List ℕ) → Result (Cells × History) (ℕ × Ending)
text_judged lines = ended_after (lines_behind 1 start lines)
