-- What is judged of a text, and what the text records.
use Rattle.std.proofs.Common.{◌≡◌, ℕ, suc, List, [], ◌∷◌, true, length, refl, sym, ap, ◌∙◌, subst, IsTrue, Option, Some, None, Result, Ok, Err}
use Rattle.tb_model.specs.declared.event.Event.{Event}
use Rattle.tb_model.specs.Facts.{History}
use Rattle.tb_model.specs.Legal.{Cells, Legal}
use Rattle.tb_plan.specs.Plans.{names_allowed}
use Rattle.tb_runs.specs.Lines.{Firsts, cells_at, line_said}
use Rattle.tb_runs.specs.declared.fault.Fault.{Fault}
use Rattle.tb_runs.specs.declared.said.Said.{Said}
use Rattle.tb_runs.specs.declared.said.Said.TheVariants as says
use Rattle.tb_runs.specs.declared.said.Stage.TheVariants as stage
use Rattle.tb_runs.proofs.LineLemmas.{line_allowed}
use Rattle.tb_verdict.specs.Recorded.{Step, Recorded, Front, Steps, says_in, with_said, with_line, faulty_at, recorded_behind, steps_in, steps_after, text_recorded, history_of, AreDue, RecordsLegal}
use Rattle.tb_verdict.specs.Refusals.{refusal_of}
use Rattle.tb_verdict.specs.Texts.{Sofar, Heading, Running, start, first_numbers, taken_by, said_behind, said_by, line_behind, ended_at, lines_behind, ended_in, ended_after, text_judged}
use Rattle.tb_verdict.specs.declared.ending.Ending.{Ending}
use Rattle.tb_verdict.specs.declared.ending.Ending.TheVariants.{Faulty, Refused}
use Rattle.tb_verdict.specs.declared.refusal.Refusal.{Refusal}
use Rattle.tb_verdict.proofs.ValueLemmas.{firsts_count}
use Rattle.tb_verdict.proofs.UnrefusedLemmas.{longer, unrefused}

not_both : {A E : Type 0} (x : A) (e : E) → ◌≡◌ {A = Result A E} (Err e) (Ok x) → ⊥
not_both x e h = cc

same_ok : {A E : Type 0} (x y : A) → ◌≡◌ {A = Result A E} (Ok x) (Ok y) → x ≡ y
same_ok x y h = cc

-- what is judged where this is recorded
abbrev sofar_of : Recorded → Sofar
sofar_of (Front at firsts) = Heading at firsts
sofar_of (Steps first steps) = Running first (history_of steps)

-- the history is legal, and the ordinals are due
abbrev IsSound : Recorded → Type 0
IsSound (Front at firsts) = Unit {0}
IsSound (Steps first steps) = AreDue steps × Legal first (history_of steps)

-- an event names what there is
abbrev IsAllowedIn : Recorded → Said → Type 0
IsAllowedIn (Front at firsts) (says.Event k v) = IsTrue (names_allowed (length (first_numbers (cells_at at) firsts)) v.action)
IsAllowedIn (Steps first steps) (says.Event k v) = IsTrue (names_allowed (length first) v.action)
IsAllowedIn r said = Unit {0}

allowed_event : (r : Recorded) (line : List ℕ) (k : Option ℕ) (v : Event) → says_in r line ≡ Ok (Some (says.Event k v)) → IsAllowedIn r (says.Event k v)
allowed_event (Front at firsts) line k v e = subst (λ n. names_allowed n v.action ≡ true) (sym (firsts_count firsts (cells_at at))) (line_allowed firsts at line k v e)
allowed_event (Steps first steps) line k v e = line_allowed [] (stage.Events (length first)) line k v e

allowed : (r : Recorded) (line : List ℕ) (said : Said) → says_in r line ≡ Ok (Some said) → IsAllowedIn r said
allowed r line (says.Event k v) e = allowed_event r line k v e
allowed (Front at firsts) line (says.Cells count) e = tt
allowed (Front at firsts) line (says.Cell c x) e = tt
allowed (Front at firsts) line says.Hist e = tt
allowed (Steps first steps) line (says.Cells count) e = tt
allowed (Steps first steps) line (says.Cell c x) e = tt
allowed (Steps first steps) line says.Hist e = tt

-- ---- from what is judged

record Follows (r : Recorded) (t : Sofar) : Type 0 where
  same : t ≡ sofar_of r
  sound : IsSound r

module _ (first : Cells) (steps : List Step) (due : AreDue steps) (legal : Legal first (history_of steps)) (k : Option ℕ) (v : Event) (names : IsTrue (names_allowed (length first) v.action)) where
  event_by : (t : Sofar) (o : Option Refusal) → refusal_of first (history_of steps) k v ≡ o → taken_by first (history_of steps) v o ≡ Ok t → Follows (Steps first ((k, v) ∷ steps)) t
  event_by t (Some refusal) e h = absurd (not_both t (Refused refusal) h)
  event_by t None e h =
      let l = longer first (history_of steps) k v legal names e in
      record { same = sym (same_ok (Running first (v ∷ history_of steps)) t h); sound = ((due, l.0), l.1) }

  event_follows : (t : Sofar) → taken_by first (history_of steps) v (refusal_of first (history_of steps) k v) ≡ Ok t → Follows (Steps first ((k, v) ∷ steps)) t
  event_follows t h = event_by t (refusal_of first (history_of steps) k v) refl h

said_follows : (r : Recorded) (said : Said) (t : Sofar) → IsSound r → IsAllowedIn r said → said_behind (sofar_of r) said ≡ Ok t → Follows (with_said r said) t
said_follows (Front at firsts) (says.Cells count) t s a h = record { same = sym (same_ok _ t h); sound = tt }
said_follows (Front at firsts) (says.Cell c x) t s a h = record { same = sym (same_ok _ t h); sound = tt }
said_follows (Front at firsts) says.Hist t s a h = record { same = sym (same_ok _ t h); sound = (tt, tt) }
said_follows (Front at firsts) (says.Event k v) t s a h = event_follows (first_numbers (cells_at at) firsts) [] tt tt k v a t h
said_follows (Steps first steps) (says.Event k v) t s a h = event_follows first steps s.0 s.1 k v a t h
said_follows (Steps first steps) (says.Cells count) t s a h = record { same = sym (same_ok _ t h); sound = s }
said_follows (Steps first steps) (says.Cell c x) t s a h = record { same = sym (same_ok _ t h); sound = s }
said_follows (Steps first steps) says.Hist t s a h = record { same = sym (same_ok _ t h); sound = s }

-- a line, or lines
record Records (a : Result Recorded Fault) (t : Sofar) : Type 0 where
  recorded : Recorded
  is : a ≡ Ok recorded
  follows : Follows recorded t

said_records : (r : Recorded) (t : Sofar) (o : Result (Option Said) Fault) → IsSound r → ((said : Said) → o ≡ Ok (Some said) → IsAllowedIn r said) → said_by (sofar_of r) o ≡ Ok t → Records (with_line r o) t
said_records r t (Err fault) s a h = absurd (not_both t (Faulty fault) h)
said_records r t (Ok None) s a h = record { recorded = r; is = refl; follows = record { same = sym (same_ok (sofar_of r) t h); sound = s } }
said_records r t (Ok (Some said)) s a h = record { recorded = with_said r said; is = refl; follows = said_follows r said t s (a said refl) h }

line_records : (r : Recorded) (line : List ℕ) (t : Sofar) → IsSound r → line_behind (sofar_of r) line ≡ Ok t → Records (with_line r (says_in r line)) t
line_records (Front at firsts) line t s h = said_records (Front at firsts) t (line_said firsts at line) s (allowed (Front at firsts) line) h
line_records (Steps first steps) line t s h = said_records (Steps first steps) t (line_said [] (stage.Events (length first)) line) s (allowed (Steps first steps) line) h

record RecordsAll (a : Result Recorded (ℕ × Fault)) (t : Sofar) : Type 0 where
  recorded : Recorded
  is : a ≡ Ok recorded
  follows : Follows recorded t

taken_records : (n : ℕ) (r : Recorded) (q : Result Sofar Ending) (o : Result Recorded Fault) (more : Sofar → Result Sofar (ℕ × Ending)) (others : Recorded → Result Recorded (ℕ × Fault)) (t : Sofar) →
    ((u : Sofar) → q ≡ Ok u → Records o u) → ended_at n q more ≡ Ok t → ((x : Recorded) → IsSound x → more (sofar_of x) ≡ Ok t → RecordsAll (others x) t) → RecordsAll (faulty_at n o others) t
taken_records n r (Err e) o more others t step h rest = absurd (not_both t (n, e) h)
taken_records n r (Ok u) o more others t step h rest =
    let p = step u refl in
    let f = p.follows in
    let all = rest p.recorded f.sound (subst (λ (w : Sofar). more w ≡ Ok t) f.same h) in
    subst (λ (y : Result Recorded Fault). RecordsAll (faulty_at n y others) t) (sym p.is) all

lines_record : (n : ℕ) (r : Recorded) (lines : List (List ℕ)) (t : Sofar) → IsSound r → lines_behind n (sofar_of r) lines ≡ Ok t → RecordsAll (recorded_behind n r lines) t
lines_record n r [] t s h = record { recorded = r; is = refl; follows = record { same = sym (same_ok (sofar_of r) t h); sound = s } }
lines_record n r (line ∷ lines) t s h =
    taken_records n r (line_behind (sofar_of r) line) (with_line r (says_in r line)) (λ u. lines_behind (suc n) u lines) (λ x. recorded_behind (suc n) x lines) t
    (λ u e. line_records r line u s e) h (λ x y e. lines_record (suc n) x lines t y e)

none_recorded : (lines : List (List ℕ)) (first : Cells) (H : History) (count : ℕ) (firsts : Firsts) → text_recorded lines ≡ Ok (first_numbers count firsts, []) → ◌≡◌ {A = Cells × History} (first_numbers count firsts, []) (first, H) → RecordsLegal lines first H
none_recorded lines first H count firsts e same = record {
  steps = [];
  recorded = e ∙ ap (λ (p : Cells × History). Ok (p.0, [])) same;
  events = sym (ap (λ (p : Cells × History). p.1) same);
  due = tt;
  legal = subst (λ (K : History). Legal first K) (ap (λ (p : Cells × History). p.1) same) tt;
}

end_records : (lines : List (List ℕ)) (first : Cells) (H : History) (r : Recorded) → recorded_behind 1 (Front stage.Begin []) lines ≡ Ok r → IsSound r → ended_in (sofar_of r) ≡ Ok (first, H) → RecordsLegal lines first H
end_records lines first H (Front stage.Begin firsts) e s h = absurd (not_both (first, H) _ h)
end_records lines first H (Front (stage.Cells count) firsts) e s h = none_recorded lines first H count firsts (ap steps_after e) (same_ok (first_numbers count firsts, []) (first, H) h)
end_records lines first H (Front (stage.Events count) firsts) e s h = none_recorded lines first H count firsts (ap steps_after e) (same_ok (first_numbers count firsts, []) (first, H) h)
end_records lines first H (Steps cells steps) e s h =
    let same = same_ok (cells, history_of steps) (first, H) h in record {
      steps = steps;
      recorded = ap steps_after e ∙ ap (λ (p : Cells × History). Ok (p.0, steps)) same;
      events = sym (ap (λ (p : Cells × History). p.1) same);
      due = s.0;
      legal = subst (λ (p : Cells × History). Legal p.0 p.1) same s.1;
    }

ended_by : (q : Result Sofar (ℕ × Ending)) (x : Cells × History) → ended_after q ≡ Ok x → (t : Sofar) × (q ≡ Ok t) × (ended_in t ≡ Ok x)
ended_by (Err e) x h = absurd (not_both x e h)
ended_by (Ok t) x h = (t, refl, h)

pub judged_legal : (lines : List (List ℕ)) (first : Cells) (H : History) → text_judged lines ≡ Ok (first, H) → RecordsLegal lines first H
judged_legal lines first H h =
    let e = ended_by (lines_behind 1 start lines) (first, H) h in
    let p = lines_record 1 (Front stage.Begin []) lines e.0 tt e.1 in
    let f = p.follows in
    end_records lines first H p.recorded p.is f.sound (subst (λ (t : Sofar). ended_in t ≡ Ok (first, H)) f.same e.2)

-- ---- from what is recorded

record Judged (r : Recorded) (q : Result Sofar Ending) (x : Recorded) : Type 0 where
  sound : IsSound r
  taken : q ≡ Ok (sofar_of x)

event_judged : (first : Cells) (steps : List Step) (k : Option ℕ) (v : Event) → IsSound (Steps first ((k, v) ∷ steps)) → taken_by first (history_of steps) v (refusal_of first (history_of steps) k v) ≡ Ok (Running first (v ∷ history_of steps))
event_judged first steps k v s = ap (taken_by first (history_of steps) v) (unrefused first (history_of steps) k v s.1 s.0.1)

said_judged : (r : Recorded) (said : Said) → IsSound (with_said r said) → Judged r (said_behind (sofar_of r) said) (with_said r said)
said_judged (Front at firsts) (says.Cells count) s = record { sound = tt; taken = refl }
said_judged (Front at firsts) (says.Cell c x) s = record { sound = tt; taken = refl }
said_judged (Front at firsts) says.Hist s = record { sound = tt; taken = refl }
said_judged (Front at firsts) (says.Event k v) s = record { sound = tt; taken = event_judged (first_numbers (cells_at at) firsts) [] k v s }
said_judged (Steps first steps) (says.Event k v) s = record { sound = (s.0.0, s.1.0); taken = event_judged first steps k v s }
said_judged (Steps first steps) (says.Cells count) s = record { sound = s; taken = refl }
said_judged (Steps first steps) (says.Cell c x) s = record { sound = s; taken = refl }
said_judged (Steps first steps) says.Hist s = record { sound = s; taken = refl }

line_judged_by : (r : Recorded) (o : Result (Option Said) Fault) (x : Recorded) → with_line r o ≡ Ok x → IsSound x → Judged r (said_by (sofar_of r) o) x
line_judged_by r (Err fault) x h s = absurd (not_both x fault h)
line_judged_by r (Ok None) x h s =
    let same : r ≡ x = same_ok r x h in
    subst (λ (y : Recorded). Judged r (Ok (sofar_of r)) y) same (record { sound = subst IsSound (sym same) s; taken = refl })
line_judged_by r (Ok (Some said)) x h s =
    let same : with_said r said ≡ x = same_ok (with_said r said) x h in
    subst (λ (y : Recorded). Judged r (said_behind (sofar_of r) said) y) same (said_judged r said (subst IsSound (sym same) s))

line_judged : (r : Recorded) (line : List ℕ) (x : Recorded) → with_line r (says_in r line) ≡ Ok x → IsSound x → Judged r (line_behind (sofar_of r) line) x
line_judged (Front at firsts) line x h s = line_judged_by (Front at firsts) (line_said firsts at line) x h s
line_judged (Steps first steps) line x h s = line_judged_by (Steps first steps) (line_said [] (stage.Events (length first)) line) x h s

record JudgedAll (r : Recorded) (q : Result Sofar (ℕ × Ending)) (x : Recorded) : Type 0 where
  sound : IsSound r
  taken : q ≡ Ok (sofar_of x)

taken_judged : (n : ℕ) (r : Recorded) (q : Result Sofar Ending) (o : Result Recorded Fault) (more : Sofar → Result Sofar (ℕ × Ending)) (others : Recorded → Result Recorded (ℕ × Fault)) (x : Recorded) →
    ((y : Recorded) → o ≡ Ok y → IsSound y → Judged r q y) → faulty_at n o others ≡ Ok x → ((y : Recorded) → others y ≡ Ok x → JudgedAll y (more (sofar_of y)) x) → JudgedAll r (ended_at n q more) x
taken_judged n r q (Err fault) more others x step h rest = absurd (not_both x (n, fault) h)
taken_judged n r q (Ok y) more others x step h rest =
    let all = rest y h in
    let one = step y refl all.sound in
    record { sound = one.sound; taken = ap (λ (p : Result Sofar Ending). ended_at n p more) one.taken ∙ all.taken }

lines_judged : (n : ℕ) (r : Recorded) (lines : List (List ℕ)) (x : Recorded) → recorded_behind n r lines ≡ Ok x → IsSound x → JudgedAll r (lines_behind n (sofar_of r) lines) x
lines_judged n r [] x h s =
    let same : r ≡ x = same_ok r x h in
    subst (λ (y : Recorded). JudgedAll r (Ok (sofar_of r)) y) same (record { sound = subst IsSound (sym same) s; taken = refl })
lines_judged n r (line ∷ lines) x h s =
    taken_judged n r (line_behind (sofar_of r) line) (with_line r (says_in r line)) (λ u. lines_behind (suc n) u lines) (λ y. recorded_behind (suc n) y lines) x
    (λ y e t. line_judged r line y e t) h (λ y e. lines_judged (suc n) y lines x e s)

steps_by : (q : Result Recorded (ℕ × Fault)) (x : Cells × List Step) → steps_after q ≡ Ok x → (r : Recorded) × (q ≡ Ok r) × (steps_in r ≡ Ok x)
steps_by (Err e) x h = absurd (not_both x e h)
steps_by (Ok r) x h = (r, refl, h)

-- where these steps are recorded, which are legal
record Ends (r : Recorded) (first : Cells) (H : History) : Type 0 where
  sound : IsSound r
  ended : ended_in (sofar_of r) ≡ Ok (first, H)

ends_none : (count : ℕ) (firsts : Firsts) (first : Cells) (steps : List Step) → ◌≡◌ {A = Cells × List Step} (first_numbers count firsts, []) (first, steps) → ◌≡◌ {A = Result (Cells × History) (ℕ × Ending)} (Ok (first_numbers count firsts, [])) (Ok (first, history_of steps))
ends_none count firsts first steps same = ap (λ (p : Cells × List Step). Ok (p.0, history_of p.1)) same

ends_by : (r : Recorded) (first : Cells) (steps : List Step) → steps_in r ≡ Ok (first, steps) → AreDue steps → Legal first (history_of steps) → Ends r first (history_of steps)
ends_by (Front stage.Begin firsts) first steps h due legal = absurd (not_both (first, steps) _ h)
ends_by (Front (stage.Cells count) firsts) first steps h due legal = record { sound = tt; ended = ends_none count firsts first steps (same_ok (first_numbers count firsts, []) (first, steps) h) }
ends_by (Front (stage.Events count) firsts) first steps h due legal = record { sound = tt; ended = ends_none count firsts first steps (same_ok (first_numbers count firsts, []) (first, steps) h) }
ends_by (Steps cells all) first steps h due legal =
    let same : ◌≡◌ {A = Cells × List Step} (cells, all) (first, steps) = same_ok (cells, all) (first, steps) h in record {
      sound = subst (λ (p : Cells × List Step). AreDue p.1 × Legal p.0 (history_of p.1)) (sym same) (due, legal);
      ended = ap (λ (p : Cells × List Step). Ok (p.0, history_of p.1)) same;
    }

pub legal_judged : (lines : List (List ℕ)) (first : Cells) (H : History) → RecordsLegal lines first H → text_judged lines ≡ Ok (first, H)
legal_judged lines first H l =
    let e = steps_by (recorded_behind 1 (Front stage.Begin []) lines) (first, l.steps) l.recorded in
    let ends = ends_by e.0 first l.steps e.2 l.due (subst (Legal first) l.events l.legal) in
    let all = lines_judged 1 (Front stage.Begin []) lines e.0 e.1 ends.sound in
    ap ended_after all.taken ∙ ends.ended ∙ ap (λ (K : History). Ok (first, K)) (sym l.events)
