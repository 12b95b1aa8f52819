-- The unended tasks, one after another.
use Rattle.std.proofs.Common.{◌≡◌, ℕ, List, [], ◌∷◌, refl, sym, subst, reverse, Option, Some, None}
use Rattle.std.specs.declared.cmp.Ordering.TheVariants.{Less, Equal, Greater}
use Rattle.std.specs.Cmp.Lexicographic.{slice_cmp}
use Rattle.std.specs.Ordering.{nat_cmp}
use Rattle.std.proofs.lemmas.Bool.{false≢true}
use Rattle.tb_model.specs.LeastNames.{IsLeastName}
use Rattle.tb_model.specs.Names.{Name, name_cmp}
use Rattle.tb_model.specs.Facts.{History}
use Rattle.tb_model.specs.Lines.{Departure, events_of}
use Rattle.tb_runs.specs.Lines.{Firsts}
use Rattle.tb_runs.specs.declared.said.Stage.{Stage}
use Rattle.tb_undo.specs.Readings.{IsUnendedBehind}
use Rattle.tb_undo.specs.State.{IsTaskState}
use Rattle.tb_verdict.specs.Held.{departures, IsHead, IsRunning}
use Rattle.tb_verdict.specs.Texts.{Sofar, Heading, Running, history_in}
use Rattle.tb_verdict.specs.declared.run_state.RunState.{RunState}
use Rattle.tb_verdict.proofs.HeldLemmas.{its_events}

not_less : (xs : List ℕ) → slice_cmp nat_cmp xs [] ≡ Less → ⊥
not_less [] h = cc
not_less (x ∷ xs) h = cc

alone : (after : Option Name) (t : Name) → IsUnendedBehind [] after t → t ≡ []
alone after [] u = refl
alone after (n ∷ t) u = absurd (false≢true u.unended)

pub first_of_all : IsLeastName (IsUnendedBehind [] None) (Some [])
first_of_all = record {
  found = λ t e. (let same : ◌≡◌ {A = Name} [] t = cc in subst (IsUnendedBehind [] None) same (record { unended = refl; behind = tt }));
  least = λ t u. ([], refl, λ h. subst (λ (v : Name). name_cmp [] v ≡ Greater → ⊥) (sym (alone None t u)) (λ (g : Equal ≡ Greater). cc) h);
}

pub none_behind : (after : Name) → IsLeastName (IsUnendedBehind [] (Some after)) None
none_behind after = record {
  found = λ t e. absurd (let no : ◌≡◌ {A = Option Name} None (Some t) = e in cc);
  least = λ t u. absurd (not_less (reverse after) (subst (λ (v : Name). name_cmp after v ≡ Less) (alone (Some after) t u) u.behind));
}

abbrev IsNext : Option Name → Option Name → History → Type 0
IsNext after o H = IsLeastName (IsUnendedBehind H after) o

pub unended_running : (count : ℕ) (state : RunState) (after o : Option Name) → ((root_line : ℕ) (D : List Departure) → IsTaskState root_line D state.tables → IsNext after o (events_of D)) →
    (s : Sofar) → IsRunning count state s → IsNext after o (history_in s)
unended_running count state after o next (Heading at firsts) b = absurd b
unended_running count state after o next (Running first H) b = subst (IsNext after o) (its_events H) (next 0 (departures H) b.run.state)

-- in front of the first event the root alone is unended
pub unended_heading : (at : Stage) (firsts : Firsts) (root : Name) (after o : Option Name) → (root ≡ [] → IsNext after o []) → (s : Sofar) → IsHead at firsts root s → IsNext after o (history_in s)
unended_heading at firsts root after o next (Heading stage numbers) b = next b.2
unended_heading at firsts root after o next (Running first H) b = absurd b
