-- A text has one report.
use Rattle.std.proofs.Common.{◌≡◌, ℕ, List, [], ◌∷◌, true, length, refl, sym, ap, ap₂, ◌∙◌, subst, ⊎_elim, IsTrue, Some, Result, Ok, Err}
use Rattle.std.specs.List.{list_any, AllByRecursion}
use Rattle.std.specs.declared.cmp.Ordering.TheVariants.{Less}
use Rattle.std.proofs.lemmas.Bool.{false≢true, or_cases, or_left, or_right}
use Rattle.tb_model.specs.Facts.{History}
use Rattle.tb_model.specs.Legal.{Cells}
use Rattle.tb_model.specs.Names.{Name, same_name, name_cmp}
use Rattle.tb_model.specs.NameLaws.{name_cmp_total}
use Rattle.tb_model.specs.State.{is_unended}
use Rattle.tb_model.proofs.TestLemmas.{same_refl, same_true}
use Rattle.tb_races.specs.Racing.{races}
use Rattle.tb_ready.specs.Tasks.{IsBehind}
use Rattle.tb_taskcheck.specs.Races.{listed, some_unordered}
use Rattle.tb_taskcheck.specs.Report.{IsEndingReport, IsLegalReport, IsReport, Reports, legal_text, outcome_of}
use Rattle.tb_taskcheck.specs.Unended.{AreUnended, Rises}
use Rattle.tb_taskcheck.specs.declared.outcome.Outcome.{Outcome}
use Rattle.tb_verdict.specs.Texts.{text_judged}
use Rattle.tb_verdict.specs.declared.ending.Ending.{Ending}
use Rattle.tb_verdict.specs.declared.ending.Ending.TheVariants as ending

-- ---- names that rise are known by which they are

abbrev Has : List Name → Name → Type 0
Has ts t = list_any (same_name t) ts ≡ true

not_both : (t u : Name) → name_cmp t u ≡ Less → name_cmp u t ≡ Less → ⊥
not_both t u a b = cc (name_cmp_total.antisymm t u, a, b)

each_has : (P : Name → Type 0) (ts : List Name) (t : Name) → AllByRecursion P ts → Has ts t → P t
each_has P [] t all h = absurd (false≢true h)
each_has P (u ∷ ts) t all h = ⊎_elim (λ s. subst P (sym (same_true t u s)) all.0) (λ r. each_has P ts t all.1 r) (or_cases (same_name t u) (list_any (same_name t) ts) h)

-- the first of the one is the first of the other
same_first : (t u : Name) (ts us : List Name) → Rises (t ∷ ts) → Rises (u ∷ us) → Has (u ∷ us) t → Has (t ∷ ts) u → t ≡ u
same_first t u ts us r q a b =
    ⊎_elim (λ s. same_true t u s)
    (λ i. ⊎_elim (λ s. sym (same_true u t s)) (λ j. absurd (not_both u t (each_has (IsBehind (Some u)) us t q.0 i) (each_has (IsBehind (Some t)) ts u r.0 j))) (or_cases (same_name u t) (list_any (same_name u) ts) b))
    (or_cases (same_name t u) (list_any (same_name t) us) a)

-- what both lists have, and the first isn't, the rest has
rest_has : (t u x : Name) (ts us : List Name) → t ≡ u → Rises (t ∷ ts) → Has ts x → Has (u ∷ us) x → Has us x
rest_has t u x ts us e r i h =
    ⊎_elim
    (λ s.
    let it : x ≡ t = same_true x u s ∙ sym e in
    let after = each_has (IsBehind (Some t)) ts x r.0 i in
    absurd (not_both t x after (subst (λ (w : Name). name_cmp w t ≡ Less) (sym it) (subst (λ (w : Name). name_cmp t w ≡ Less) it after))))
    (λ j. j) (or_cases (same_name x u) (list_any (same_name x) us) h)

same_lists : (ts us : List Name) → Rises ts → Rises us → ((t : Name) → Has ts t → Has us t) → ((t : Name) → Has us t → Has ts t) → ts ≡ us
same_lists [] [] r q f g = refl
same_lists [] (u ∷ us) r q f g = absurd (false≢true (g u (or_left (same_name u u) (list_any (same_name u) us) (same_refl u))))
same_lists (t ∷ ts) [] r q f g = absurd (false≢true (f t (or_left (same_name t t) (list_any (same_name t) ts) (same_refl t))))
same_lists (t ∷ ts) (u ∷ us) r q f g =
    let first = same_first t u ts us r q (f t (or_left (same_name t t) (list_any (same_name t) ts) (same_refl t))) (g u (or_left (same_name u u) (list_any (same_name u) us) (same_refl u))) in
    ap₂ (λ x xs. x ∷ xs) first
    (same_lists ts us r.1 q.1 (λ x i. rest_has t u x ts us first r i (f x (or_right (same_name x t) (list_any (same_name x) ts) i)))
    (λ x i. rest_has u t x us ts (sym first) q i (g x (or_right (same_name x u) (list_any (same_name x) us) i))))

one_list : (H : History) (ts us : List Name) → AreUnended H ts → AreUnended H us → ts ≡ us
one_list H ts us a b =
    same_lists ts us a.rise b.rise (λ t i. b.whole t (each_has (λ u. IsTrue (is_unended H u)) ts t a.each i)) (λ t i. a.whole t (each_has (λ u. IsTrue (is_unended H u)) us t b.each i))

-- ---- so are reports

one_legal : (H : History) (o p : Outcome) (out more : List ℕ) → IsLegalReport H o out → IsLegalReport H p more → (o ≡ p) × (out ≡ more)
one_legal H o p out more a b =
    let same = one_list H a.unended b.unended a.all b.all in
    (a.outcome ∙ ap (outcome_of (some_unordered (races H))) same ∙ sym b.outcome, a.text ∙ ap (λ ts. legal_text (length H) ts (listed H)) same ∙ sym b.text)

one_ending : (n : ℕ) (e : Ending) (o p : Outcome) (out more : List ℕ) → IsEndingReport n e o out → IsEndingReport n e p more → (o ≡ p) × (out ≡ more)
one_ending n (ending.Refused r) o p out more a b = (a.0 ∙ sym b.0, a.1 ∙ sym b.1)
one_ending n (ending.Faulty fault) o p out more a b = absurd a

one : (r : Result (Cells × History) (ℕ × Ending)) (o p : Outcome) (out more : List ℕ) → Reports r o out → Reports r p more → (o ≡ p) × (out ≡ more)
one (Ok run) o p out more a b = one_legal run.1 o p out more a b
one (Err e) o p out more a b = one_ending e.0 e.1 o p out more a b

pub one_report : (lines : List (List ℕ)) (o p : Outcome) (out more : List ℕ) → IsReport lines o out → IsReport lines p more → (o ≡ p) × (out ≡ more)
one_report lines o p out more a b = one (text_judged lines) o p out more a b
