-- Receipts that grow by steps of one's own.
use Rattle.std.proofs.Common.{ℕ, ◌≡◌, List, [], ◌∷◌, ◌++◌, true, refl, ap, sym, subst, ◌∙◌, arith, append_assoc, length, length-append, get_or, suc, ◌≤◌, ◌<◌}
use Rattle.std.proofs.lemmas.Bool.Decides.{nat_tests}
use Rattle.std.proofs.lemmas.List.{append-nil}
use Rattle.std.proofs.lemmas.List.Sums.{sum_by-cons}
use Rattle.tb_model.specs.Program.{Program}
use Rattle.tb_model.specs.declared.entry.Entry.TheVariants.{Stepped}
use Rattle.tb_plan.specs.declared.planned.Plan.{Plan}
use Rattle.tb_work.specs.declared.receipt.Receipt.{Receipt}
use Rattle.tb_work.specs.Receipts.{Seated, receipt, receipts_in}
use Rattle.tb_work.specs.Changes.{Commits}
use Rattle.tb_work.specs.Growing.{is_step_of, all_steps_of, GrewBySteps}

pub grew_none : (s : Seated) → GrewBySteps s s
grew_none s = record { number = refl; more = []; receipts = sym (append-nil s.receipts); steps = refl }

-- a seat that stays has grown by the same steps
pub grew_same : (s t u : Seated) → GrewBySteps s t → u ≡ t → GrewBySteps s u
grew_same s t u w is = subst (GrewBySteps s) (sym is) w

pub steps_both : (seat : ℕ) (rs ss : List Receipt) → all_steps_of seat rs ≡ true → all_steps_of seat ss ≡ true → all_steps_of seat (rs ++ ss) ≡ true
steps_both seat [] ss is more = more
steps_both seat (x ∷ rs) ss is more =
    let first : is_step_of seat x.entry ≡ true = grind arith in
    let rest : all_steps_of seat rs ≡ true = grind arith in
    let both = steps_both seat rs ss rest more in
    grind arith

-- a seat that grew twice grew by the steps of both
pub grew_both : (s t u : Seated) → GrewBySteps s t → GrewBySteps t u → GrewBySteps s u
grew_both s t u v w =
    let own : all_steps_of s.number w.more ≡ true = subst (λ n. all_steps_of n w.more ≡ true) v.number w.steps in
    record {
      number = w.number ∙ v.number;
      more = v.more ++ w.more;
      receipts = w.receipts ∙ ap (λ l. l ++ w.more) v.receipts ∙ append_assoc s.receipts v.more w.more;
      steps = steps_both s.number v.more w.more v.steps own;
    }

-- a commit grows the seat by the step of a plan
pub grew_committed : (P : Program) (p : Plan) (s t : Seated) (place : ℕ) → Commits P p s t place → GrewBySteps s t
grew_committed P p s t place c =
    record {
      number = c.grew.number;
      more = receipt place (Stepped s.number c.event) ∷ [];
      receipts = c.grew.receipts;
      steps = grind (arith, nat_tests);
    }

-- what grew has as many or more
pub grew_len : (s t : Seated) → GrewBySteps s t → length s.receipts ≤ length t.receipts
grew_len s t w = omega (arith, ap length w.receipts ∙ length-append s.receipts w.more)

pub counts_grow : (ss ts : List Seated) → length ss ≡ length ts
    → ((i : ℕ) (d : Seated) → i < length ss → length (get_or ss i d).receipts ≤ length (get_or ts i d).receipts)
    → receipts_in ss ≤ receipts_in ts
counts_grow [] [] is each = omega arith
counts_grow [] (t ∷ ts) is each = absurd (omega (arith, is))
counts_grow (s ∷ ss) [] is each = absurd (omega (arith, is))
counts_grow (s ∷ ss) (t ∷ ts) is each =
    let rest = counts_grow ss ts (omega (arith, is)) (λ i d lt. each (suc i) d (omega (arith, lt))) in
    let first : length s.receipts ≤ length t.receipts = each 0 s (omega arith) in
    let a = sum_by-cons (λ (x : Seated). length x.receipts) s ss in
    let b = sum_by-cons (λ (x : Seated). length x.receipts) t ts in
    omega (arith, a, b, rest, first)
