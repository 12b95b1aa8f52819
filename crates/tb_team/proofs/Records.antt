-- What the records of steps say of breakpoints.
use Rattle.std.proofs.Common.{◌≡◌, ◌<◌, ◌≤◌, ◌+◌, ◌-◌, ℕ, suc, List, [], ◌∷◌, ◌++◌, Bool, true, false, ◌&&◌, not, length, map, take, drop, reverse, refl, sym, ap, ap₂, ◌∙◌, subst, arith, length-drop, append_assoc, get_or}
use Rattle.std.specs.Prelude.{is_some}
use Rattle.std.specs.List.{list_all}
use Rattle.std.proofs.lemmas.List.{reverse-append, length-map, length-reverse, length-take-le, take-append-drop, drop_all}
use Rattle.std.proofs.Math.Seq.{drop-cons}
use Rattle.std.proofs.lemmas.List.Folds.{list_all-append}
use Rattle.tb_model.specs.declared.action.Action.{Action}
use Rattle.tb_model.specs.Facts.{History}
use Rattle.tb_model.specs.Lines.{Departure, LinesFit, events_of}
use Rattle.tb_model.specs.Names.{Name}
use Rattle.tb_model.specs.Program.{Program, LegalFor}
use Rattle.tb_model.proofs.LinesLemmas.{line_kept}
use Rattle.tb_model.specs.Legal.{Cells}
use Rattle.tb_steps.specs.Entries.{Entry as Step, departure}
use Rattle.tb_core.specs.Seen.{Seen}
use Rattle.tb_live.specs.Soundness.{Fits}
use Rattle.tb_core.specs.Soundness.{AreRecords}
use Rattle.tb_control.specs.declared.breakpoint.Breakpoint.{Breakpoint}
use Rattle.tb_live.specs.Breaks.{met}
use Rattle.tb_team.proofs.Counting.{taken_long, taken_count, last_one, last_within, all_dropped}
use Rattle.tb_team.specs.Looking.{is_met, meets_newest, none_met}

abbrev pub history_of : List Step → History
history_of steps = events_of (map departure steps)

-- the steps, the newest first, are a run of the program, and each has its record
pub record AreRun (P : Program) (steps : List Step) : Type 0 where
  pub records : AreRecords P.cells P.root_line steps
  pub lines : LinesFit P (map departure steps)
  pub legal : LegalFor P (history_of steps)

pub shorter_run : (P : Program) (c : Step) (steps : List Step) → AreRun P (c ∷ steps) → AreRun P steps
shorter_run P c steps are = record { records = are.records.0; lines = are.lines.0; legal = (are.legal.0.0, are.legal.1.0) }

-- what is read of a record says whether the step met a breakpoint
pub met_as_read : (points : List Breakpoint) (step : Step) (line : ℕ) (t : Name) (a : Action) → line ≡ step.at → t ≡ step.event.task → a ≡ step.event.action → is_some (met line (record { task = t; action = a }) points) ≡ is_met points step
met_as_read points step line t a at task did =
    ap₂ (λ (k : ℕ) (u : Name). is_some (met k (record { task = u; action = a }) points)) at task
    ∙ ap (λ (b : Action). is_some (met step.at (record { task = step.event.task; action = b }) points)) did

-- the record's line is the one at which the task was
pub met_by_record : (P : Program) (points : List Breakpoint) (c : Step) (steps : List Step) → AreRun P (c ∷ steps) → is_met points c ≡ meets_newest P points (history_of (c ∷ steps))
met_by_record P points c steps are =
    let shorter = shorter_run P c steps are in
    let kept = line_kept P (map departure steps) c.event.task shorter.lines shorter.legal in
    ap (λ at. is_some (met at c.event points)) (ap (λ r. r.at) are.records.1 ∙ kept)

pub none_by_records : (P : Program) (points : List Breakpoint) (cs steps : List Step) → AreRun P (cs ++ steps) → list_all (λ c. not (is_met points c)) cs ≡ none_met P points (length cs) (history_of (cs ++ steps))
none_by_records P points [] steps are = refl
none_by_records P points (c ∷ cs) steps are =
    ap₂ (λ a b. not a && b) (met_by_record P points c (cs ++ steps) are) (none_by_records P points cs steps (shorter_run P c (cs ++ steps) are))

-- none of the steps from the one index on met a breakpoint, as far as the other
abbrev pub none_between : List Breakpoint → List Step → ℕ → ℕ → Bool
none_between points steps from to = list_all (λ step. not (is_met points step)) (take (to - from) (drop from steps))

module _ (points : List Breakpoint) (steps : List Step) where
  -- the step at the index, and those after it
  one_more : (at to : ℕ) (step : Step) → at < to → to ≤ length steps → step ≡ get_or steps at step → none_between points steps at to ≡ (not (is_met points step) && none_between points steps (at + 1) to)
  one_more at to step below within here =
      let fewer : to - at ≡ suc (to - (at + 1)) = omega arith in
      let inside : at < length steps = omega arith in
      let next : suc at ≡ at + 1 = omega arith in
      let parts : drop at steps ≡ step ∷ drop (at + 1) steps = drop-cons steps at step inside ∙ ap₂ (λ (x : Step) (k : ℕ). x ∷ drop k steps) (sym here) next in
      ap₂ (λ (k : ℕ) (l : List Step). list_all (λ step. not (is_met points step)) (take k l)) fewer parts

  pub none_there : (at to : ℕ) (step : Step) → at < to → to ≤ length steps → step ≡ get_or steps at step → is_met points step ≡ true → false ≡ none_between points steps at to
  none_there at to step below within here met = sym (one_more at to step below within here ∙ ap (λ b. not b && none_between points steps (at + 1) to) met)

  pub none_behind : (at to : ℕ) (step : Step) → at < to → to ≤ length steps → step ≡ get_or steps at step → is_met points step ≡ false → none_between points steps (at + 1) to ≡ none_between points steps at to
  none_behind at to step below within here unmet = sym (one_more at to step below within here ∙ ap (λ b. not b && none_between points steps (at + 1) to) unmet)

  pub none_left : (at to : ℕ) → to ≤ at → true ≡ none_between points steps at to
  none_left at to out =
      let none : 0 ≡ to - at = omega arith in
      ap (λ k. list_all (λ step. not (is_met points step)) (take k (drop at steps))) none

-- a test of all doesn't depend on the order
pub all_turned : {X : Type 0} (p : X → Bool) (xs : List X) → list_all p (reverse xs) ≡ list_all p xs
all_turned p [] = refl
all_turned p (x ∷ xs) =
    ap (list_all p) (reverse-append (x ∷ []) xs) ∙ list_all-append p (reverse xs) (x ∷ []) ∙ swapped (list_all p (reverse xs)) (list_all p xs) (p x) (all_turned p xs)
  where
    swapped : (a b c : Bool) → a ≡ b → (a && (c && true)) ≡ (c && b)
    swapped true b true e = e
    swapped true b false e = refl
    swapped false b true e = e
    swapped false b false e = refl

pub all_reversed : {X : Type 0} (p : X → Bool) (xs : List X) → list_all p xs ≡ true → list_all p (reverse xs) ≡ true
all_reversed p xs h = all_turned p xs ∙ h

-- the steps from the oldest on: so many of the newest, but for the newest, and what is left of the history
module _ (P : Program) (points : List Breakpoint) (steps : List Step) (count : ℕ) where
  before_newest : 1 < count → count ≤ length steps → AreRun P (reverse steps) → none_met P points (count - 1) (drop 1 (history_of (reverse steps))) ≡ none_between points steps (length steps - count) (length steps - 1)
  before_newest some enough are =
      let first = length steps - count in
      let mid = take (length steps - 1 - first) (drop first steps) in
      let last = drop (length steps - 1 - first) (drop first steps) in
      let old = take first steps in
      let long : length mid ≡ count - 1 = length-take-le (length steps - 1 - first) (drop first steps) (subst (λ k. length steps - 1 - first ≤ k) (sym (length-drop first steps)) (taken_long (length steps) count some enough)) ∙ taken_count (length steps) count some enough in
      let whole : steps ≡ old ++ (mid ++ last) = sym (take-append-drop first steps) ∙ ap (λ l. old ++ l) (sym (take-append-drop (length steps - 1 - first) (drop first steps))) in
      let one : length last ≡ 1 = length-drop (length steps - 1 - first) (drop first steps) ∙ (ap (λ k. k - (length steps - 1 - first)) (length-drop first steps) ∙ last_one (length steps) count some enough) in
      at last one (turned old mid last whole) long
    where
      two_or_more : (n : ℕ) → suc (suc n) ≡ 1 → ⊥
      two_or_more n e = omega (arith, e)

      turned : (old mid last : List Step) → steps ≡ old ++ (mid ++ last) → reverse steps ≡ reverse last ++ (reverse mid ++ reverse old)
      turned old mid last whole =
          ap reverse whole ∙ reverse-append old (mid ++ last) ∙ ap (λ l. l ++ reverse old) (reverse-append mid last) ∙ append_assoc (reverse last) (reverse mid) (reverse old)

      at : (last : List Step) → length last ≡ 1 → reverse steps ≡ reverse last ++ (reverse (take (length steps - 1 - (length steps - count)) (drop (length steps - count) steps)) ++ reverse (take (length steps - count) steps))
          → length (take (length steps - 1 - (length steps - count)) (drop (length steps - count) steps)) ≡ count - 1
          → none_met P points (count - 1) (drop 1 (history_of (reverse steps))) ≡ none_between points steps (length steps - count) (length steps - 1)
      at [] one whole long = cc
      at (c ∷ d ∷ last) one whole long = absurd (two_or_more (length last) one)
      at (c ∷ []) one whole long =
          let mid = take (length steps - 1 - (length steps - count)) (drop (length steps - count) steps) in
          let old = take (length steps - count) steps in
          let rest = reverse mid ++ reverse old in
          let run = subst (AreRun P) whole are in
          let between = none_between points steps (length steps - count) (length steps - 1) in
          let n : length (reverse mid) ≡ count - 1 = length-reverse mid ∙ long in
          let done = sym (none_by_records P points (reverse mid) (reverse old) (shorter_run P c rest run)) ∙ all_turned (λ (s : Step). not (is_met points s)) mid in
          subst (λ k. none_met P points k (drop 1 (history_of (reverse steps))) ≡ between) n
          (subst (λ (l : List Step). none_met P points (length (reverse mid)) (drop 1 (history_of l)) ≡ between) (sym whole) done)

  -- the same of a number that is their count
  pub none_before : (all : ℕ) → all ≡ length steps → 1 < count → count ≤ all → AreRun P (reverse steps) → none_met P points (count - 1) (drop 1 (history_of (reverse steps))) ≡ none_between points steps (all - count) (all - 1)
  none_before all counted some few are = before_newest some (omega (arith, counted, few)) are ∙ sym (ap (λ k. none_between points steps (k - count) (k - 1)) counted)

-- the newest step, the last of those from the oldest on
pub newest_by_record : (P : Program) (points : List Breakpoint) (front : List Step) (c : Step) → AreRun P (reverse (front ++ c ∷ [])) → is_met points c ≡ meets_newest P points (history_of (reverse (front ++ c ∷ [])))
newest_by_record P points front c are =
    let e = reverse-append front (c ∷ []) in
    met_by_record P points c (reverse front) (subst (AreRun P) e are) ∙ ap (λ (l : List Step). meets_newest P points (history_of l)) (sym e)

-- ---- the entries of a core

pub run_of : (P : Program) (run : Seen) (steps : List Step) → Fits P run → map departure steps ≡ run.steps → AreRecords run.cells run.root_line steps → AreRun P steps
run_of P run steps fits same records = record {
  records = subst (λ n. AreRecords P.cells n steps) fits.root_line (subst (λ (cells : Cells). AreRecords cells run.root_line steps) fits.cells records);
  lines = subst (λ D. LinesFit P D) (sym same) fits.lines;
  legal = subst (λ D. LegalFor P (events_of D)) (sym same) fits.legal;
}

-- the last of the entries is the newest step
pub newest_at : (P : Program) (points : List Breakpoint) (steps : List Step) (all : ℕ) (c : Step) (H : History) → all ≡ length steps → 1 ≤ all → c ≡ get_or steps (all - 1) c → AreRun P (reverse steps) → history_of (reverse steps) ≡ H
    → is_met points c ≡ meets_newest P points H
newest_at P points steps all c H counted most there are same =
    let some : 1 ≤ length steps = omega arith in
    let here : c ≡ get_or steps (length steps - 1) c = subst (λ k. c ≡ get_or steps (k - 1) c) counted there in
    let front = take (length steps - 1) steps in
    let within : length steps - 1 < length steps = last_within (length steps) some in
    let last : drop (length steps - 1) steps ≡ c ∷ [] =
    drop-cons steps (length steps - 1) c within ∙ ap₂ ◌∷◌ (sym here) (drop_all (suc (length steps - 1)) steps (all_dropped (length steps) some)) in
    let whole : steps ≡ front ++ c ∷ [] = sym (take-append-drop (length steps - 1) steps) ∙ ap (λ l. front ++ l) last in
    newest_by_record P points front c (subst (λ l. AreRun P (reverse l)) whole are)
    ∙ (ap (λ (l : List Step). meets_newest P points (history_of (reverse l))) (sym whole) ∙ ap (meets_newest P points) same)

-- there are as many steps as events of the history
pub as_many : (steps : List Step) (H : History) (all : ℕ) → all ≡ length steps → history_of (reverse steps) ≡ H → all ≡ length H
as_many steps H all counted same =
    counted ∙ sym (length-reverse steps) ∙ sym (length-map (reverse steps) departure) ∙ sym (length-map (map departure (reverse steps)) (λ (d : Departure). d.event)) ∙ ap length same

-- without steps none is the newest
pub no_newest : (P : Program) (points : List Breakpoint) (steps : List Step) (H : History) → length steps ≡ 0 → history_of (reverse steps) ≡ H → false ≡ meets_newest P points H
no_newest P points [] H none same = ap (meets_newest P points) same
no_newest P points (c ∷ steps) H none same = absurd (omega (arith, none))
