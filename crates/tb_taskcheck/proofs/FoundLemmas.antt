-- The races of a run, as they are found event by event.
use Rattle.std.proofs.Common.{◌≡◌, ◌+◌, ℕ, List, [], ◌∷◌, ◌++◌, true, cond, length, reverse, refl, sym, ap, ◌∙◌, subst, arith, append_assoc, append-nil, Option, Some, Result, Ok, Err}
use Rattle.std.specs.Prelude.{OnOk}
use Rattle.std.specs.Option.{option_to_list}
use Rattle.std.proofs.lemmas.List.{length-append, reverse-append}
use Rattle.tb_draft.specs.Races.{race_line, race_lines}
use Rattle.tb_model.specs.declared.event.Event.{Event}
use Rattle.tb_model.specs.Facts.{History}
use Rattle.tb_model.specs.Legal.{Cells, Legal}
use Rattle.tb_races.specs.declared.race.Race.{Race}
use Rattle.tb_races.specs.Racing.{race_of, races}
use Rattle.tb_runs.specs.declared.said.Stage.TheVariants as stage
use Rattle.tb_stream.specs.Halves.{AreRaces}
use Rattle.tb_stream.specs.declared.races.Races.{Races}
use Rattle.tb_taskcheck.specs.Races.{FoundAt, FoundIn, IsFound, listed, some_unordered}
use Rattle.tb_taskcheck.specs.declared.found.Found.{Found}
use Rattle.tb_verdict.specs.Texts.{Sofar, Heading, Running, history_in, with_event, ended_in, ended_after, lines_behind, start}
use Rattle.tb_verdict.specs.Whole.{Adds as AddsEvent, Extends}
use Rattle.tb_verdict.specs.declared.ending.Ending.{Ending}
use Rattle.tb_verdict.proofs.WholeLemmas.{ended_append}

-- ---- the race of one event more

lines_one : (rs : List Race) (r : Race) → race_lines (rs ++ r ∷ []) ≡ race_lines rs ++ race_line r
lines_one [] r = append-nil (race_line r)
lines_one (q ∷ rs) r = ap (λ l. race_line q ++ l) (lines_one rs r) ∙ sym (append_assoc (race_line q) (race_lines rs) (race_line r))

module _ (H : History) (v : Event) where
  listed_by : (o : Option Race) → o ≡ race_of H v → listed (v ∷ H) ≡ reverse (option_to_list o ++ races H)
  listed_by o e = ap (λ p. reverse (option_to_list p ++ races H)) (sym e)

  listed_some : (r : Race) → Some r ≡ race_of H v → listed (v ∷ H) ≡ listed H ++ r ∷ []
  listed_some r e = listed_by (Some r) e ∙ reverse-append (r ∷ []) (races H)

  unordered_by : (o : Option Race) → o ≡ race_of H v → some_unordered (races (v ∷ H)) ≡ some_unordered (option_to_list o ++ races H)
  unordered_by o e = ap (λ p. some_unordered (option_to_list p ++ races H)) (sym e)

  -- the next event's race is this one, if it has one
  abbrev pub Names : Races → Option Race → Type 0
  Names races o = (cells : Cells) → AreRaces cells H races → Legal cells (v ∷ H) → o ≡ race_of H v

  -- with the event these give the races of those to come
  abbrev pub Adds : Races → Races → Type 0
  Adds old new = (cells : Cells) → AreRaces cells H old → Legal cells (v ∷ H) → AreRaces cells (v ∷ H) new

  module _ (old : Found) (held : Races) (adds : Adds old.races held) (f : IsFound H old) where
    module _ (r : Race) (new : Found) (kept : new.races ≡ held) (line : new.lines ≡ old.lines ++ race_line r) (one : new.count ≡ old.count + 1) where
      pub found_one : new.is_unordered ≡ cond r.apart old.is_unordered true → Names old.races (Some r) → IsFound (v ∷ H) new
      found_one kind names cells legal =
          let before = f cells legal.0 in
          let e = names cells before.held legal in
          let some = listed_some r e in record {
            held = subst (AreRaces cells (v ∷ H)) (sym kept) (adds cells before.held legal);
            lines = line ∙ ap (λ l. l ++ race_line r) before.lines ∙ sym (lines_one (listed H) r) ∙ ap race_lines (sym some);
            count = omega (arith, one, before.count, ap length some, length-append (listed H) (r ∷ []));
            unordered = kind ∙ ap (λ b. cond r.apart b true) before.unordered ∙ sym (unordered_by (Some r) e);
          }

-- what follows of four facts that hold where memory doesn't fail
pub four_ok : {E A B C D Q : Type 0} (r : Result (Unit {0}) E) → (A → B → C → D → Q) → OnOk r A → OnOk r B → OnOk r C → OnOk r D → OnOk r Q
four_ok (Ok u) f a b c d = f a b c d
four_ok (Err x) f a b c d = tt

-- ---- one line more

not_both : {A E : Type 0} (x : A) (e : E) → ◌≡◌ {A = Result A E} (Err e) (Ok x) → ⊥
not_both x e h = cc

same_ok : {A E : Type 0} (x y : A) → ◌≡◌ {A = Result A E} (Ok x) (Ok y) → x ≡ y
same_ok x y h = cc

module _ (event : Option Event) (old new : Found) (adds : (H : History) → IsFound H old → IsFound (with_event event H) new) where
  -- the races of the run after some lines
  abbrev IsBehind : Result Sofar (ℕ × Ending) → Found → Type 0
  IsBehind r found = (s : Sofar) → r ≡ Ok s → IsFound (history_in s) found

  -- where the judgement went on, the events are those in front with the line's
  extended : (before after : Result Sofar (ℕ × Ending)) → Extends event before after → ((f : ℕ × Ending) → before ≡ Err f → after ≡ Err f)
      → IsBehind before old → IsBehind after new
  extended (Err f) after x ends found t e = absurd (not_both t f (sym (ends f refl) ∙ e))
  extended (Ok s) (Err f) x ends found t e = absurd (not_both t f e)
  extended (Ok s) (Ok u) x ends found t e =
      let is : IsFound (history_in u) new = subst (λ (H : History). IsFound H new) (sym x) (adds (history_in s) (found s refl)) in
      subst (λ (w : Sofar). IsFound (history_in w) new) (same_ok u t e) is

  pub found_more : (lines more : List (List ℕ)) → AddsEvent event lines (lines ++ more) → FoundAt lines old → FoundAt (lines ++ more) new
  found_more lines more x found =
      extended (lines_behind 1 start lines) (lines_behind 1 start (lines ++ more)) x (λ f e. ended_append 1 start lines more f e) found

pub found_first : (new : Found) → IsFound [] new → FoundAt [] new
found_first new found s e = subst (λ (w : Sofar). IsFound (history_in w) new) (same_ok _ s e) found

-- ---- a whole text

ended_history : (s : Sofar) (first : Cells) (H : History) → ended_in s ≡ Ok (first, H) → history_in s ≡ H
ended_history (Heading stage.Begin firsts) first H e = absurd (not_both (first, H) _ e)
ended_history (Heading (stage.Cells count) firsts) first H e = ap (λ (p : Cells × History). p.1) (same_ok _ (first, H) e)
ended_history (Heading (stage.Events count) firsts) first H e = ap (λ (p : Cells × History). p.1) (same_ok _ (first, H) e)
ended_history (Running cells K) first H e = ap (λ (p : Cells × History). p.1) (same_ok (cells, K) (first, H) e)

whole_by : (r : Result Sofar (ℕ × Ending)) (found : Found) → ((s : Sofar) → r ≡ Ok s → IsFound (history_in s) found) → (first : Cells) (H : History)
    → ended_after r ≡ Ok (first, H) → IsFound H found
whole_by (Err f) found at first H e = absurd (not_both (first, H) f e)
whole_by (Ok s) found at first H e = subst (λ (K : History). IsFound K found) (ended_history s first H e) (at s refl)

pub found_whole : (lines : List (List ℕ)) (found : Found) → FoundAt lines found → FoundIn lines found
found_whole lines found at first H e = whole_by (lines_behind 1 start lines) found at first H e

-- where its judgement ends it has no run
pub found_ended : (lines : List (List ℕ)) (found : Found) (f : ℕ × Ending) → lines_behind 1 start lines ≡ Err f → FoundIn lines found
found_ended lines found f h first H e = absurd (not_both (first, H) f (sym (ap ended_after h) ∙ e))
