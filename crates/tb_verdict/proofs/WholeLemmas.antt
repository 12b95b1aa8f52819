-- A whole text, line after line.
use Rattle.std.proofs.Common.{subst, ◌≡◌, ℕ, suc, ◌+◌, List, [], ◌∷◌, ◌++◌, length, refl, sym, ap, ◌∙◌, arith, Option, Some, None, Result, Ok, Err}
use Rattle.std.proofs.lemmas.List.{length-append}
use Rattle.tb_model.specs.declared.event.Event.{Event}
use Rattle.tb_model.specs.Legal.{Cells}
use Rattle.tb_runs.specs.declared.fault.Fault.TheVariants.{NoCells}
use Rattle.tb_runs.specs.declared.said.Stage.TheVariants as stage
use Rattle.tb_verdict.specs.Held.{IsBehind, Judges}
use Rattle.tb_verdict.specs.Texts.{Sofar, Heading, Running, start, first_numbers, events_in, history_in, line_behind, ended_at, lines_behind, ended_in, ended_after, text_judged}
use Rattle.tb_verdict.specs.Whole.{IsOpen, Adds, Extends, IsLegal}
use Rattle.tb_verdict.specs.declared.ending.Ending.{Ending}
use Rattle.tb_verdict.specs.declared.ending.Ending.TheVariants.{Faulty}
use Rattle.tb_verdict.specs.declared.judge.Judge.{Judge}
use Rattle.tb_verdict.specs.declared.line_verdict.LineVerdict.TheVariants.{Taken, Ends}

not_both : {A E : Type 0} (x : A) (e : E) → ◌≡◌ {A = Result A E} (Err e) (Ok x) → ⊥
not_both x e h = cc

-- ---- lines after others

-- the line was taken, and the others after it
taken_then : (n : ℕ) (r : Result Sofar Ending) (more others : Sofar → Result Sofar (ℕ × Ending)) (t : Sofar) (all : Result Sofar (ℕ × Ending)) → ended_at n r more ≡ Ok t →
    ((u : Sofar) → more u ≡ Ok t → others u ≡ all) → ended_at n r others ≡ all
taken_then n (Err f) more others t all h step = absurd (not_both t (n, f) h)
taken_then n (Ok u) more others t all h step = step u h

-- the judgement ended at the line, or at one after it
ended_then : (n : ℕ) (r : Result Sofar Ending) (more others : Sofar → Result Sofar (ℕ × Ending)) (f : ℕ × Ending) → ended_at n r more ≡ Err f →
    ((u : Sofar) → more u ≡ Err f → others u ≡ Err f) → ended_at n r others ≡ Err f
ended_then n (Err g) more others f h step = h
ended_then n (Ok u) more others f h step = step u h

pub lines_append : (n m : ℕ) (s t : Sofar) (xs ys : List (List ℕ)) → m ≡ n + length xs → lines_behind n s xs ≡ Ok t → lines_behind n s (xs ++ ys) ≡ lines_behind m t ys
lines_append n m s t [] ys e h =
    let same : s ≡ t = cc in
    let here : n ≡ m = omega (arith, e) in
    rw (same, here) refl
lines_append n m s t (x ∷ xs) ys e h =
    taken_then n (line_behind s x) (λ s. lines_behind (suc n) s xs) (λ s. lines_behind (suc n) s (xs ++ ys)) t (lines_behind m t ys) h
    (λ u more. lines_append (suc n) m u t xs ys (omega (arith, e)) more)

-- what ended the judgement ends it whatever lines come after
pub ended_append : (n : ℕ) (s : Sofar) (xs ys : List (List ℕ)) (f : ℕ × Ending) → lines_behind n s xs ≡ Err f → lines_behind n s (xs ++ ys) ≡ Err f
ended_append n s [] ys f h = absurd (not_both s f (sym h))
ended_append n s (x ∷ xs) ys f h =
    ended_then n (line_behind s x) (λ s. lines_behind (suc n) s xs) (λ s. lines_behind (suc n) s (xs ++ ys)) f h (λ u more. ended_append (suc n) u xs ys f more)

-- where it has ended, no line adds an event
pub adds_nothing : (lines : List (List ℕ)) (line : List ℕ) (f : ℕ × Ending) → lines_behind 1 start lines ≡ Err f → Adds None lines (lines ++ line ∷ [])
adds_nothing lines line f h = subst (λ (r : Result Sofar (ℕ × Ending)). Extends None r (lines_behind 1 start (lines ++ line ∷ []))) (sym h) refl

-- ---- one line more

module _ (count : ℕ) (old new : Judge) (lines : List (List ℕ)) (line : List ℕ) (has : IsOpen count old lines) where
  more_lines : count + 1 ≡ length (lines ++ line ∷ [])
  more_lines = omega (arith, has.counted, length-append lines (line ∷ []))

  one_more : lines_behind 1 start (lines ++ line ∷ []) ≡ lines_behind (count + 1) has.sofar (line ∷ [])
  one_more = lines_append 1 (count + 1) start has.sofar lines (line ∷ []) (omega (arith, has.counted)) has.taken

  pub goes_on : (event : Option Event) → Judges has.sofar line new (Taken event) → IsOpen (count + 1) new (lines ++ line ∷ [])
  goes_on event j = record {
    counted = more_lines;
    sofar = j.0;
    taken = one_more ∙ ap (λ r. ended_at (count + 1) r (λ s. Ok s)) j.1;
    behind = j.3;
  }

  pub adds : (event : Option Event) → Judges has.sofar line new (Taken event) → Adds event lines (lines ++ line ∷ [])
  adds event j = rw (has.taken, one_more, j.1) j.2

  pub ends_there : (e : Ending) → Judges has.sofar line new (Ends e) → lines_behind 1 start (lines ++ line ∷ []) ≡ Err (count + 1, e)
  ends_there e j = one_more ∙ ap (λ r. ended_at (count + 1) r (λ s. Ok s)) j.0

  pub adds_none : (e : Ending) → Judges has.sofar line new (Ends e) → Adds None lines (lines ++ line ∷ [])
  adds_none e j = rw (has.taken, ends_there e j) refl

  pub stays_open : IsBehind new has.sofar → IsOpen count new lines
  stays_open b = record { counted = has.counted; sofar = has.sofar; taken = has.taken; behind = b }

-- ---- where the text ends

record Run (s : Sofar) (n : ℕ) : Type 0 where
  first : Cells
  ended : ended_in s ≡ Ok (first, history_in s)
  counted : n ≡ length (history_in s)

no_number : (n : ℕ) → ◌≡◌ {A = Option ℕ} None (Some n) → ⊥
no_number n h = cc

counted_by : (n k : ℕ) → ◌≡◌ {A = Option ℕ} (Some k) (Some n) → n ≡ k
counted_by n k h = cc

run_of : (s : Sofar) (n : ℕ) → events_in s ≡ Some n → Run s n
run_of (Heading stage.Begin firsts) n e = absurd (no_number n e)
run_of (Heading (stage.Cells count) firsts) n e = record { first = first_numbers count firsts; ended = refl; counted = counted_by n 0 e }
run_of (Heading (stage.Events count) firsts) n e = record { first = first_numbers count firsts; ended = refl; counted = counted_by n 0 e }
run_of (Running first H) n e = record { first = first; ended = refl; counted = counted_by n (length H) e }

-- of so many events
pub is_run : (lines : List (List ℕ)) (s : Sofar) (judge : Judge) (n : ℕ) → lines_behind 1 start lines ≡ Ok s → IsBehind judge s → events_in s ≡ Some n → IsLegal n judge lines
is_run lines s judge n h b e =
    let r = run_of s n e in record {
      sofar = s;
      first = r.first;
      judged = ap ended_after h ∙ r.ended;
      counted = r.counted;
      behind = b;
    }

number_there : (k : ℕ) → ◌≡◌ {A = Option ℕ} (Some k) None → ⊥
number_there k h = cc

wordless : (s : Sofar) → events_in s ≡ None → ended_in s ≡ Err (1, Faulty NoCells)
wordless (Heading stage.Begin firsts) e = refl
wordless (Heading (stage.Cells count) firsts) e = absurd (number_there 0 e)
wordless (Heading (stage.Events count) firsts) e = absurd (number_there 0 e)
wordless (Running first H) e = absurd (number_there (length H) e)

-- without words
pub no_cells : (lines : List (List ℕ)) (s : Sofar) → lines_behind 1 start lines ≡ Ok s → events_in s ≡ None → text_judged lines ≡ Err (1, Faulty NoCells)
no_cells lines s h e = ap ended_after h ∙ wordless s e
