-- Steps written one after another, along the stored steps.
use Rattle.std.proofs.Common.{◌≡◌, ◌<◌, ◌≤◌, ◌+◌, ◌-◌, ◌⊎◌, inl, inr, ℕ, suc, List, [], ◌∷◌, ◌++◌, Bool, true, false, ◌&&◌, ◌||◌, ◌==◌, cond, nat_le, length, take, drop, reverse, refl, sym, ap, ap₂, ◌∙◌, subst, arith, append_assoc, append-nil, ne_eqb, eq-eqb}
use Rattle.std.proofs.lemmas.Bool.{or_parts, and_from}
use Rattle.std.proofs.lemmas.Bool.Decides.{nat_tests}
use Rattle.std.proofs.lemmas.List.{reverse-append, reverse-reverse, take_all, drop-drop, drop_all, drop_more}
use Rattle.tb_model.specs.declared.event.Event.{Event}
use Rattle.tb_model.specs.declared.step_id.StepId.{StepId}
use Rattle.tb_model.specs.Facts.{History, own}
use Rattle.tb_model.specs.Names.{same_name}
use Rattle.tb_model.specs.Needs.{step_of}
use Rattle.tb_model.specs.Program.{Program}
use Rattle.tb_model.proofs.FactsLemmas.{own_mine}
use Rattle.tb_model.proofs.RemovalLemmas.{own_grows}
use Rattle.tb_model.proofs.TestLemmas.{same_true, same_refl}
use Rattle.tb_steps.specs.Entries.{Entry}
use Rattle.tb_steps.specs.Scans.{history_of}
use Rattle.tb_steps.proofs.ScanLemmas.{history_more, history_of-append}
use Rattle.tb_view.specs.Lines.{event_line, step_line}
use Rattle.tb_view.proofs.CountLemmas.{IsReadAt, read_more}
use Rattle.tb_view.specs.Steps.{history_lines, newest_lines, Counts, count_of, AreCounts}

-- ---- all steps

-- a step by its task's count
abbrev counted_step : Counts → Event → StepId
counted_step counts v = record { task = v.task; k = suc (count_of counts v.task) }

is_its : (H : History) (v : Event) (counts : Counts) → AreCounts H counts → counted_step counts v ≡ step_of H v
is_its H v counts are = ap (λ n. record { task = v.task; k = suc n }) (are v.task)

-- the text with one line more
pub told_more : (P : Program) (entries : List Entry) (i : ℕ) (v : Event) (counts : Counts) (head text text' : List ℕ) → IsReadAt entries i v
    → AreCounts (history_of (take i entries)) counts → text ≡ head ++ history_lines P (history_of (take i entries)) → text' ≡ text ++ event_line P (counted_step counts v) v
    → text' ≡ head ++ history_lines P (history_of (take (i + 1) entries))
told_more P entries i v counts head text text' is are so_far grows =
    let F = history_of (take i entries) in
    grows ∙ ap₂ (λ x (n : StepId). x ++ event_line P n v) so_far (is_its F v counts are) ∙ append_assoc head (history_lines P F) (step_line P F v)
    ∙ ap (λ H. head ++ history_lines P H) (sym (read_more entries i v is))

-- the text with one line more, where the stored step is one of the newest
pub newest_more : (P : Program) (entries : List Entry) (i first : ℕ) (v : Event) (counts : Counts) (head text text' : List ℕ) → IsReadAt entries i v
    → AreCounts (history_of (take i entries)) counts → text ≡ head ++ newest_lines P (i - first) (history_of (take i entries))
    → text' ≡ text ++ cond (nat_le first i) (event_line P (counted_step counts v) v) []
    → text' ≡ head ++ newest_lines P (i + 1 - first) (history_of (take (i + 1) entries))
newest_more P entries i first v counts head text text' read are so_far grows = by_place (nat_le first i) refl grows
  where
    by_place : (b : Bool) → nat_le first i ≡ b → text' ≡ text ++ cond b (event_line P (counted_step counts v) v) [] → text' ≡ head ++ newest_lines P (i + 1 - first) (history_of (take (i + 1) entries))
    by_place true is grows =
        let F = history_of (take i entries) in
        let behind : first ≤ i = grind (arith, nat_tests) in
        let n : i + 1 - first ≡ suc (i - first) = omega (arith, behind) in
        grows ∙ ap₂ (λ x (n : StepId). x ++ event_line P n v) so_far (is_its F v counts are) ∙ append_assoc head (newest_lines P (i - first) F) (step_line P F v)
        ∙ ap₂ (λ k H. head ++ newest_lines P k H) (sym n) (sym (read_more entries i v read))
    by_place false is grows =
        let front : i < first = grind (arith, nat_tests) in
        let n : i - first ≡ 0 = omega (arith, front) in
        let m : i + 1 - first ≡ 0 = omega (arith, front) in
        grows ∙ append-nil text ∙ so_far ∙ ap (λ k. head ++ newest_lines P k (history_of (take i entries))) n ∙ ap (λ k. head ++ newest_lines P k (history_of (take (i + 1) entries))) (sym m)

pub newest_all : (P : Program) (entries : List Entry) (i count : ℕ) (head text : List ℕ) → length entries ≤ i → i ≤ length entries → count ≤ length entries
    → text ≡ head ++ newest_lines P (i - (length entries - count)) (history_of (take i entries)) → text ≡ head ++ newest_lines P count (history_of entries)
newest_all P entries i count head text over within few is =
    let n : i - (length entries - count) ≡ count = omega (arith, over, within, few) in
    is ∙ ap₂ (λ k (es : List Entry). head ++ newest_lines P k (history_of es)) n (take_all i entries over)
