-- What the judge holds of the lines so far.
use Rattle.std.specs.Prelude.{◌≡◌, ℕ, List, [], ◌∷◌, length, map, Option, Some, None, Ok, Err, IsTrue, ⊤}
use Rattle.tb_model.specs.declared.event.Event.{Event}
use Rattle.tb_model.specs.Facts.{History}
use Rattle.tb_model.specs.Legal.{Cells}
use Rattle.tb_model.specs.Names.{Name}
use Rattle.tb_model.specs.Lines.{Departure}
use Rattle.tb_verdict.specs.Judged.{IsRun}
use Rattle.tb_verdict.specs.Refusals.{refusal_of}
use Rattle.tb_verdict.specs.Texts.{Sofar, Heading, Running, first_numbers, history_in, with_event, said_behind, line_behind}
use Rattle.tb_plan.specs.Plans.{names_allowed}
use Rattle.tb_runs.specs.Lines.{Firsts, cells_at}
use Rattle.tb_runs.specs.declared.said.Said.{Said}
use Rattle.tb_runs.specs.declared.said.Said.TheVariants as says
use Rattle.tb_runs.specs.declared.said.Stage.{Stage}
use Rattle.tb_verdict.specs.declared.ending.Ending.TheVariants.{Faulty, Refused}
use Rattle.tb_verdict.specs.declared.judge.Headed.{Headed}
use Rattle.tb_verdict.specs.declared.judge.Headed.TheVariants as headed
use Rattle.tb_verdict.specs.declared.judge.Judge.{Judge}
use Rattle.tb_verdict.specs.declared.line_verdict.LineVerdict.{LineVerdict}
use Rattle.tb_verdict.specs.declared.run_state.RunState.{RunState}
use Rattle.tb_verdict.specs.declared.line_verdict.LineVerdict.TheVariants.{Taken, Ends}
use Rattle.tb_verdict.specs.declared.judge.Judge.TheVariants as judge

-- a run has no lines at which its tasks are: each step leaves its task at 0
abbrev pub departures : History → List Departure
departures H = map (λ (v : Event). record { event = v; to = 0 }) H

-- this is stored of so many events
pub record Holds (first : Cells) (H : History) (count : ℕ) (s : RunState) : Type 0 where
  pub counted : count ≡ length H
  pub run : IsRun first 0 (departures H) s

-- no event came yet, so the root alone is unended
abbrev pub IsHead : Stage → Firsts → Name → Sofar → Type 0
IsHead at firsts root (Heading stage numbers) = (at ≡ stage) × (firsts ≡ numbers) × (root ≡ [])
IsHead at firsts root (Running first H) = ⊥

-- this is stored of the run
abbrev pub IsRunning : ℕ → RunState → Sofar → Type 0
IsRunning count s (Heading stage numbers) = ⊥
IsRunning count s (Running first H) = Holds first H count s

-- the judge is after these lines
abbrev pub IsBehind : Judge → Sofar → Type 0
IsBehind (judge.Heading at firsts root) s = IsHead at firsts.entries root s
IsBehind (judge.Running count state) s = IsRunning count state s

-- ---- an event

-- the event is counted where it is accepted; else nothing changes
abbrev pub Counts : Cells → History → Option ℕ → Event → LineVerdict → ℕ → RunState → Type 0
Counts first H k v (Taken event) count s = (event ≡ Some v) × (refusal_of first H k v ≡ None) × Holds first (v ∷ H) count s
Counts first H k v (Ends (Refused r)) count s = (refusal_of first H k v ≡ Some r) × Holds first H count s
Counts first H k v (Ends (Faulty fault)) count s = ⊥

-- ---- a line

-- after the first event: the run goes on, or the judgement ends there
abbrev pub Runs : Cells → History → List ℕ → LineVerdict → ℕ → RunState → Type 0
Runs first H line (Taken event) count s = (line_behind (Running first H) line ≡ Ok (Running first (with_event event H))) × Holds first (with_event event H) count s
Runs first H line (Ends ending) count s = (line_behind (Running first H) line ≡ Err ending) × Holds first H count s

-- of the lines with this one more that holds; or the judgement ends there, and it holds of those in front still
abbrev pub Goes : Sofar → List ℕ → LineVerdict → (Sofar → Type 0) → Type 0
Goes s line (Taken event) P = (t : Sofar) × (line_behind s line ≡ Ok t) × (history_in t ≡ with_event event (history_in s)) × P t
Goes s line (Ends ending) P = (line_behind s line ≡ Err ending) × P s

-- the judge is after one line more; or the judgement ends there, and it is after those in front
-- still
abbrev pub Judges : Sofar → List ℕ → Judge → LineVerdict → Type 0
Judges s line new v = Goes s line v (IsBehind new)

-- ---- the first event

-- the event begins the run, or the judgement ends there
abbrev pub Begins : Cells → Option ℕ → Event → Headed → Type 0
Begins first k v headed.Stays = ⊥
Begins first k v (headed.Runs count state event) = (event ≡ Some v) × (refusal_of first [] k v ≡ None) × Holds first (v ∷ []) count state
Begins first k v (headed.Ends (Refused r)) = refusal_of first [] k v ≡ Some r
Begins first k v (headed.Ends (Faulty fault)) = ⊥

-- ---- what a line in front of the events comes to

-- by what it says: no event came yet, or the run begins, or the judgement ends there
abbrev pub HeadsOn : Stage → Firsts → Said → Stage → Firsts → Headed → Type 0
HeadsOn at firsts said stage numbers headed.Stays = said_behind (Heading at firsts) said ≡ Ok (Heading stage numbers)
HeadsOn at firsts said stage numbers (headed.Runs count state event) =
    (said_behind (Heading at firsts) said ≡ Ok (Running (first_numbers (cells_at at) firsts) (with_event event [])))
    × Holds (first_numbers (cells_at at) firsts) (with_event event []) count state
HeadsOn at firsts said stage numbers (headed.Ends ending) = (said_behind (Heading at firsts) said ≡ Err ending) × (stage ≡ at) × (numbers ≡ firsts)

abbrev pub HeadsBy : Stage → Firsts → List ℕ → Stage → Firsts → Headed → Type 0
HeadsBy at firsts line stage numbers headed.Stays = line_behind (Heading at firsts) line ≡ Ok (Heading stage numbers)
HeadsBy at firsts line stage numbers (headed.Runs count state event) =
    (line_behind (Heading at firsts) line ≡ Ok (Running (first_numbers (cells_at at) firsts) (with_event event [])))
    × Holds (first_numbers (cells_at at) firsts) (with_event event []) count state
HeadsBy at firsts line stage numbers (headed.Ends ending) = (line_behind (Heading at firsts) line ≡ Err ending) × (stage ≡ at) × (numbers ≡ firsts)

-- what it says is in range
abbrev pub IsAllowed : Stage → Said → Type 0
IsAllowed at (says.Event k v) = IsTrue (names_allowed (cells_at at) v.action)
IsAllowed at said = ⊤
