-- The report of a legal run.
use Rattle.std.proofs.Common.{◌≡◌, ℕ, List, ◌++◌, length, sym, ap, ap₂, ◌∙◌, subst, append_assoc}
use Rattle.tb_draft.specs.Races.{races_head}
use Rattle.tb_model.specs.Legal.{Cells, Legal}
use Rattle.tb_model.specs.Names.{Name}
use Rattle.tb_taskcheck.specs.Listing.{ListsUnended}
use Rattle.tb_taskcheck.specs.Races.{FoundIn, IsFound}
use Rattle.tb_taskcheck.specs.Report.{IsLegalReport, IsReport, Reports, head_text, names_text, outcome_of}
use Rattle.tb_taskcheck.specs.declared.found.Found.{Found}
use Rattle.tb_taskcheck.specs.declared.outcome.Outcome.{Outcome}
use Rattle.tb_verdict.specs.Held.{IsBehind}
use Rattle.tb_verdict.specs.Texts.{Sofar, history_in}
use Rattle.tb_verdict.specs.Whole.{IsLegal}
use Rattle.tb_verdict.specs.declared.judge.Judge.{Judge}
use Rattle.tb_verdict.proofs.RecordedLemmas.{judged_legal}

-- the lines in front of the races are those of the unended tasks, with the two in front of them
module _ (s : Sofar) (events unended : ℕ) (names front : List ℕ) (l : ListsUnended s names unended) (put : front ≡ head_text events unended ++ names) where
  module _ (counted : events ≡ length (history_in s)) where
    front_is : front ≡ head_text (length (history_in s)) (length l.names) ++ names_text l.names
    front_is =
        put
        ∙ ap₂ (λ n m. head_text n m ++ names) counted l.count
        ∙ ap (λ t. head_text (length (history_in s)) (length l.names) ++ t) l.text

    module _ (cells : Cells) (found : Found) (report : List ℕ) (o : Outcome) (says : (ts : List Name) → unended ≡ length ts → o ≡ outcome_of found.is_unordered ts) where
      pub legal_report : report ≡ front ++ races_head found.count ++ found.lines → Legal cells (history_in s) → IsFound (history_in s) found → IsLegalReport (history_in s) o report
      legal_report all legal is =
          let f = is cells legal in record {
            unended = l.names;
            all = l.all;
            outcome = says l.names l.count ∙ ap (λ b. outcome_of b l.names) f.unordered;
            text =
                all
                ∙ append_assoc front (races_head found.count) found.lines
                ∙ ap₂ (λ a b. a ++ b) front_is (ap₂ (λ n b. races_head n ++ b) f.count f.lines);
          }

-- what is said of the run that the judge has taken
abbrev pub ReportsRun : ℕ → Judge → Found → Outcome → List ℕ → Type 0
ReportsRun events judge found o out =
    (s : Sofar) (cells : Cells) → IsBehind judge s → Legal cells (history_in s) → IsFound (history_in s) found → events ≡ length (history_in s)
    → IsLegalReport (history_in s) o out

module _ (lines : List (List ℕ)) (events : ℕ) (judge : Judge) (found : Found) (o : Outcome) (out : List ℕ) where
  pub text_report : IsLegal events judge lines → FoundIn lines found → ReportsRun events judge found o out → IsReport lines o out
  text_report l races tells =
      let legal = judged_legal lines l.first (history_in l.sofar) l.judged in
      let report = tells l.sofar l.first l.behind legal.legal (races l.first (history_in l.sofar) l.judged) l.counted in
      subst (λ r. Reports r o out) (sym l.judged) report
