-- A run without lines, with one event more.
use Rattle.std.proofs.Common.{◌≡◌, ◌<◌, ◌+◌, ℕ, List, [], ◌∷◌, length, refl, sym, ap, ◌∙◌, subst, arith, Option, Some, None, Ok, Err}
use Rattle.std.proofs.lemmas.List.{length-map}
use Rattle.tb_model.specs.declared.event.Event.{Event}
use Rattle.tb_model.specs.Facts.{History}
use Rattle.tb_model.specs.Legal.{Cells}
use Rattle.tb_model.specs.Names.{Name}
use Rattle.tb_model.specs.Lines.{events_of}
use Rattle.tb_runs.specs.Lines.{Firsts}
use Rattle.tb_undo.specs.Changes.{AreSame}
use Rattle.tb_undo.proofs.StateLemmas.{same_tables, tasks_same}
use Rattle.tb_verdict.specs.Judged.{ForRun, IsRun, IsSame, Takes}
use Rattle.tb_verdict.specs.Memory.{MayTake}
use Rattle.tb_verdict.specs.Held.{departures, Holds, Counts, Runs, Begins, HeadsOn, HeadsBy, IsAllowed, IsHead, IsRunning, Goes}
use Rattle.tb_runs.proofs.LineLemmas.{line_allowed}
use Rattle.tb_verdict.specs.declared.judge.Headed.{Headed}
use Rattle.tb_verdict.specs.declared.judge.Headed.TheVariants as headed
use Rattle.tb_verdict.specs.Refusals.{refusal_of}
use Rattle.tb_runs.specs.Lines.{line_said, cells_at}
use Rattle.tb_runs.specs.declared.said.Said.{Said}
use Rattle.tb_runs.specs.declared.said.Said.TheVariants as says
use Rattle.tb_runs.specs.declared.said.Stage.{Stage}
use Rattle.tb_runs.specs.declared.said.Stage.TheVariants as stage
use Rattle.tb_verdict.specs.Values.{value_in}
use Rattle.tb_verdict.specs.Texts.{Sofar, Heading, Running, first_numbers, with_event, line_behind, said_by, heading_events, events_in}
use Rattle.tb_verdict.specs.declared.ending.Ending.{Ending}
use Rattle.tb_verdict.specs.declared.ending.Ending.TheVariants.{Faulty, Refused}
use Rattle.tb_verdict.specs.declared.line_verdict.LineVerdict.{LineVerdict}
use Rattle.tb_verdict.specs.declared.line_verdict.LineVerdict.TheVariants.{Taken, Ends}
use Rattle.tb_verdict.specs.declared.refusal.Refusal.{Refusal}
use Rattle.tb_verdict.specs.declared.run_state.RunState.{RunState}

pub its_events : (H : History) → events_of (departures H) ≡ H
its_events [] = refl
its_events (v ∷ H) = ap (λ K. v ∷ K) (its_events H)

how_many : (H : History) → length (departures H) ≡ length H
how_many H = length-map H (λ (v : Event). record { event = v; to = 0 })

module _ (first : Cells) (H : History) (count : ℕ) (k : Option ℕ) (v : Event) (old new : RunState) (holds : Holds first H count old) where
  pub counted : Takes k v old new None → count < 4294967294 → (refusal_of first H k v ≡ None) × Holds first (v ∷ H) (count + 1) new
  counted takes few =
      let t = takes first 0 (departures H) holds.run in (
        subst (λ (K : History). refusal_of first K k v ≡ None) (its_events H) t.0,
        record {
          counted = omega (arith, holds.counted);
          run = record { legal = t.1.legal; cells = t.1.cells; state = t.1.state; values = t.1.values; few = omega (arith, few, holds.counted, how_many (v ∷ H)) };
        },
      )

  pub refused : (r : Refusal) → Takes k v old new (Some r) → (refusal_of first H k v ≡ Some r) × Holds first H count new
  refused r takes =
      (subst (λ (K : History). refusal_of first K k v ≡ Some r) (its_events H) (takes.1 first 0 (departures H) holds.run), subst (Holds first H count) (sym takes.0) holds)

  pub may_take : ForRun old (λ first H. MayTake (refusal_of first H k v)) → MayTake (refusal_of first H k v)
  may_take f = subst (λ (K : History). MayTake (refusal_of first K k v)) (its_events H) (f first 0 (departures H) holds.run)

  pub kept : IsSame old new → Holds first H count new
  kept same = record {
    counted = holds.counted;
    run = record {
      legal = holds.run.legal;
      cells = same.cells ∙ holds.run.cells;
      state = tasks_same 0 (departures H) old.tables new.tables same.tables holds.run.state;
      values = λ c h. same.values c ∙ holds.run.values c h;
      few = holds.run.few;
    };
  }

-- where only capacity was made for a value
pub is_same : (old new : RunState) → new.cells ≡ old.cells → new.tables ≡ old.tables → new.values.entries ≡ old.values.entries → IsSame old new
is_same old new cells tables values = record {
  cells = cells;
  tables = subst (AreSame old.tables) (sym tables) (same_tables old.tables);
  values = λ c. ap (λ entries. value_in entries c) values;
}

pub holds_none : (first : Cells) (s : RunState) → IsRun first 0 [] s → Holds first [] 0 s
holds_none first s run = record { counted = refl; run = run }

-- ---- a line after the first event

pub runs_on : (first : Cells) (H : History) (k : Option ℕ) (v : Event) (line : List ℕ) (count : ℕ) (s : RunState) (o : LineVerdict) →
    line_said [] (stage.Events (length first)) line ≡ Ok (Some (says.Event k v)) → Counts first H k v o count s → Runs first H line o count s
runs_on first H k v line count s (Taken event) said h =
    subst (λ (e : Option Event). Runs first H line (Taken e) count s) (sym h.0) (rw (said, h.1) refl, h.2)
runs_on first H k v line count s (Ends (Refused r)) said h = (rw (said, h.0) refl, h.1)
runs_on first H k v line count s (Ends (Faulty fault)) said h = absurd h

-- ---- the first event

pub begins_ending : (first : Cells) (k : Option ℕ) (v : Event) (count : ℕ) (s : RunState) (ending : Ending) → Counts first [] k v (Ends ending) count s → Begins first k v (headed.Ends ending)
begins_ending first k v count s (Refused r) h = h.0
begins_ending first k v count s (Faulty fault) h = h

-- the first event in front of the others
pub begun : (at : Stage) (firsts : Firsts) (k : Option ℕ) (v : Event) (h : Headed) → Begins (first_numbers (cells_at at) firsts) k v h → HeadsOn at firsts (says.Event k v) at firsts h
begun at firsts k v headed.Stays b = absurd b
begun at firsts k v (headed.Runs count state event) b =
    subst (λ (e : Option Event). HeadsOn at firsts (says.Event k v) at firsts (headed.Runs count state e)) (sym b.0) (rw b.1 refl, b.2)
begun at firsts k v (headed.Ends (Refused r)) b = (rw b refl, refl, refl)
begun at firsts k v (headed.Ends (Faulty fault)) b = absurd b

-- a line in front of the events, by what it says
pub head_on : (at stage : Stage) (firsts numbers : Firsts) (line : List ℕ) (said : Said) (h : Headed) → line_said firsts at line ≡ Ok (Some said) → HeadsOn at firsts said stage numbers h → HeadsBy at firsts line stage numbers h
head_on at stage firsts numbers line said headed.Stays e b = ap (said_by (Heading at firsts)) e ∙ b
head_on at stage firsts numbers line said (headed.Runs count state event) e b = (ap (said_by (Heading at firsts)) e ∙ b.0, b.1)
head_on at stage firsts numbers line said (headed.Ends ending) e b = (ap (said_by (Heading at firsts)) e ∙ b.0, b.1, b.2)

-- what a line in front of the events says is in range
pub said_allowed : (at : Stage) (firsts : Firsts) (line : List ℕ) (said : Said) → line_said firsts at line ≡ Ok (Some said) → IsAllowed at said
said_allowed at firsts line (says.Event k v) e = line_allowed firsts at line k v e
said_allowed at firsts line (says.Cells count) e = tt
said_allowed at firsts line (says.Cell c x) e = tt
said_allowed at firsts line says.Hist e = tt

-- ---- a line, whatever came before it

pub running_on : (count more : ℕ) (old new : RunState) (line : List ℕ) (o : LineVerdict) →
    ((first : Cells) (H : History) → Holds first H count old → Runs first H line o more new) →
    (s : Sofar) → IsRunning count old s → Goes s line o (IsRunning more new)
running_on count more old new line o runs (Heading at firsts) b = absurd b
running_on count more old new line (Taken event) runs (Running first H) b =
    let r = runs first H b in
    (Running first (with_event event H), r.0, refl, r.1)
running_on count more old new line (Ends ending) runs (Running first H) b = runs first H b

pub stays_on : (at stage : Stage) (firsts numbers : Firsts) (root : Name) (line : List ℕ) → HeadsBy at firsts line stage numbers headed.Stays →
    (s : Sofar) → IsHead at firsts root s → Goes s line (Taken None) (IsHead stage numbers root)
stays_on at stage firsts numbers root line h (Heading st ns) b =
    (Heading stage numbers, subst (λ (f : Firsts). line_behind (Heading st f) line ≡ Ok (Heading stage numbers)) b.1 (subst (λ (a : Stage). line_behind (Heading a firsts) line ≡ Ok (Heading stage numbers)) b.0 h), refl, (refl, refl, b.2))
stays_on at stage firsts numbers root line h (Running first H) b = absurd b

pub runs_from : (at stage : Stage) (firsts numbers : Firsts) (root : Name) (line : List ℕ) (count : ℕ) (state : RunState) (event : Option Event) → HeadsBy at firsts line stage numbers (headed.Runs count state event) →
    (s : Sofar) → IsHead at firsts root s → Goes s line (Taken event) (IsRunning count state)
runs_from at stage firsts numbers root line count state event h (Heading st ns) b =
    let run = Running (first_numbers (cells_at at) firsts) (with_event event []) in (
      run,
      subst (λ (f : Firsts). line_behind (Heading st f) line ≡ Ok run) b.1 (subst (λ (a : Stage). line_behind (Heading a firsts) line ≡ Ok run) b.0 h.0),
      refl,
      h.1,
    )
runs_from at stage firsts numbers root line count state event h (Running first H) b = absurd b

pub ends_at : (at stage : Stage) (firsts numbers : Firsts) (root : Name) (line : List ℕ) (ending : Ending) → HeadsBy at firsts line stage numbers (headed.Ends ending) →
    (s : Sofar) → IsHead at firsts root s → Goes s line (Ends ending) (IsHead stage numbers root)
ends_at at stage firsts numbers root line ending h (Heading st ns) b = (
  subst (λ (f : Firsts). line_behind (Heading st f) line ≡ Err ending) b.1 (subst (λ (a : Stage). line_behind (Heading a firsts) line ≡ Err ending) b.0 h.0),
  (h.1 ∙ b.0, h.2 ∙ b.1, b.2),
)
ends_at at stage firsts numbers root line ending h (Running first H) b = absurd b

-- ---- how many events came

pub heading_count : (at : Stage) (firsts : Firsts) (root : Name) (s : Sofar) → IsHead at firsts root s → heading_events at ≡ events_in s
heading_count at firsts root (Heading stage numbers) h = ap heading_events h.0
heading_count at firsts root (Running first H) h = absurd h

pub running_count : (count : ℕ) (state : RunState) (s : Sofar) → IsRunning count state s → Some count ≡ events_in s
running_count count state (Heading stage numbers) h = absurd h
running_count count state (Running first H) h = ap Some h.counted
