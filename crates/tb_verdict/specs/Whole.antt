-- What a judge of a whole text holds of its lines.
use Rattle.std.specs.Prelude.{◌≡◌, ℕ, Bool, true, false, List, length, Option, None, Result, Ok, Err}
use Rattle.tb_model.specs.declared.event.Event.{Event}
use Rattle.tb_model.specs.Legal.{Cells}
use Rattle.tb_verdict.specs.Held.{IsBehind}
use Rattle.tb_verdict.specs.Texts.{Sofar, history_in, with_event, lines_behind, start, text_judged}
use Rattle.tb_verdict.specs.declared.ending.Ending.{Ending}
use Rattle.tb_verdict.specs.declared.ending.Ending.TheVariants as ending
use Rattle.tb_verdict.specs.declared.judge.Judge.{Judge}
use Rattle.tb_verdict.specs.declared.text_judge.TextJudge.{TextJudge}
use Rattle.tb_verdict.specs.declared.text_judge.TextJudge.TheVariants.{Open, Ended}
use Rattle.tb_verdict.specs.declared.verdict.Verdict.{Verdict}
use Rattle.tb_verdict.specs.declared.verdict.Verdict.TheVariants.{Legal, Faulty, Refused}

-- the judgement ended at none of these lines, and the judge is after them
pub record IsOpen (count : ℕ) (judge : Judge) (lines : List (List ℕ)) : Type 0 where
  pub counted : count ≡ length lines
  pub sofar : Sofar
  pub taken : lines_behind 1 start lines ≡ Ok sofar
  pub behind : IsBehind judge sofar

-- the judge has these lines
abbrev pub IsJudged : TextJudge → List (List ℕ) → Type 0
IsJudged (Open count judge) lines = IsOpen count judge lines
IsJudged (Ended n e) lines = lines_behind 1 start lines ≡ Err (n, e)

-- where the judgement goes on, the last line adds this event, or none; where it ends there or has ended, none
abbrev pub Extends : Option Event → Result Sofar (ℕ × Ending) → Result Sofar (ℕ × Ending) → Type 0
Extends event (Ok s) (Ok t) = history_in t ≡ with_event event (history_in s)
Extends event (Ok s) (Err e) = event ≡ None
Extends event (Err e) new = event ≡ None

-- between these lines and those with one more
abbrev pub Adds : Option Event → List (List ℕ) → List (List ℕ) → Type 0
Adds event old new = Extends event (lines_behind 1 start old) (lines_behind 1 start new)

abbrev pub has_ended : TextJudge → Bool
has_ended (Open count judge) = false
has_ended (Ended n e) = true

-- a legal run of so many events, which the judge has taken
pub record IsLegal (events : ℕ) (judge : Judge) (lines : List (List ℕ)) : Type 0 where
  pub sofar : Sofar
  pub first : Cells
  pub judged : text_judged lines ≡ Ok (first, history_in sofar)
  pub counted : events ≡ length (history_in sofar)
  pub behind : IsBehind judge sofar

-- what a text of these lines comes to
abbrev pub IsVerdict : Verdict → List (List ℕ) → Type 0
IsVerdict (Legal events judge) lines = IsLegal events judge lines
IsVerdict (Faulty n fault) lines = text_judged lines ≡ Err (n, ending.Faulty fault)
IsVerdict (Refused n refusal) lines = text_judged lines ≡ Err (n, ending.Refused refusal)
