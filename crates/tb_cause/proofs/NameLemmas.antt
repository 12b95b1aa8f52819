-- The names of steps at some indexes, and the ordinals of all steps.
use Rattle.std.proofs.Common.{◌≡◌, ◌<◌, ◌≤◌, ◌+◌, ℕ, suc, List, [], ◌∷◌, ◌++◌, Bool, true, false, cond, refl, sym, ap, ap₂, ◌∙◌, arith, length, map, take, Option, Some, get_or, length-append, nat_eq}
use Rattle.std.proofs.lemmas.Bool.{eqb-true, eq-eqb}
use Rattle.std.proofs.lemmas.List.{map-append, take_more, get_or_append_left, get_or-append-add}
use Rattle.tb_model.specs.declared.step_id.StepId.{StepId}
use Rattle.tb_model.specs.Names.{Name, same_name}
use Rattle.tb_model.specs.Facts.{History, own, is_of, prepend_if}
use Rattle.tb_model.specs.Needs.{step_of}
use Rattle.tb_model.proofs.TestLemmas.{same_true}
use Rattle.tb_steps.specs.Entries.{Entry}
use Rattle.tb_steps.specs.Scans.{history_of, step_at}
use Rattle.tb_steps.proofs.FirstLemmas.{some_same, step_read}
use Rattle.tb_steps.proofs.ScanLemmas.{count_front, history_more}
use Rattle.tb_cause.specs.Indexes.{AreNumbers}

-- one step more
pub named_more : (entries : List Entry) (places : List ℕ) (i d : ℕ) (steps steps' : List StepId) (id : StepId) → i < length places → map (λ (s : StepId). Some s) steps ≡ map (step_at entries) (take i places)
    → step_at entries (get_or places i d) ≡ Some id → steps' ≡ steps ++ id ∷ [] → map (λ (s : StepId). Some s) steps' ≡ map (step_at entries) (take (i + 1) places)
named_more entries places i d steps steps' id within so_far here more =
    ap (map (λ (s : StepId). Some s)) more ∙ map-append (λ (s : StepId). Some s) steps (id ∷ [])
    ∙ ap₂ (λ a (b : Option StepId). a ++ b ∷ []) so_far (sym here)
    ∙ sym (ap (map (step_at entries)) (take_more places i d within) ∙ map-append (step_at entries) (take i places) (get_or places i d ∷ []))

-- ---- ordinals

own_short : (t : Name) (H : History) → length (own t H) ≤ length H
own_short t [] = omega arith
own_short t (v ∷ H) = by (is_of t v) (own_short t H)
  where
    by : (b : Bool) → length (own t H) ≤ length H → length (prepend_if b v.action (own t H)) ≤ suc (length H)
    by true h = omega (arith, h)
    by false h = omega (arith, h)

-- a task has fewer steps than there may be
pub still_room : (entries : List Entry) (at : ℕ) (t : Name) (n : ℕ) → at < length entries → length entries ≤ 1000000 → n ≡ length (own t (history_of (take at entries))) → n < 1000000
still_room entries at t n within bound is =
    let short = own_short t (history_of (take at entries)) in
    let front = count_front entries at (omega (arith, within)) in
    omega (arith, short, front, within, bound, is)

module _ (entries : List Entry) (at : ℕ) (e : Entry) (within : at < length entries) (here : e ≡ get_or entries at e) where
  abbrev H : History
  H = history_of (take at entries)

  own_more : (t : Name) → length (own t (history_of (take (at + 1) entries))) ≡ cond (is_of t e.event) (length (own t H) + 1) (length (own t H))
  own_more t = ap (λ X. length (own t X)) (history_more entries at e within here) ∙ by (is_of t e.event)
    where
      by : (b : Bool) → length (prepend_if b e.event.action (own t H)) ≡ cond b (length (own t H) + 1) (length (own t H))
      by true = omega arith
      by false = refl

  pub counted_more : (C C' : Name → ℕ) → ((t : Name) → C t ≡ length (own t H)) → ((t : Name) → C' t ≡ cond (same_name e.event.task t) (C e.event.task + 1) (C t)) → (t : Name) → C' t ≡ length (own t (history_of (take (at + 1) entries)))
  counted_more C C' so_far changed t = changed t ∙ by (is_of t e.event) refl ∙ sym (own_more t)
    where
      by : (b : Bool) → is_of t e.event ≡ b → cond b (C e.event.task + 1) (C t) ≡ cond b (length (own t H) + 1) (length (own t H))
      by true h = ap (λ n. n + 1) (so_far e.event.task ∙ ap (λ u. length (own u H)) (same_true e.event.task t h))
      by false h = so_far t

  pub numbered_one : (numbers numbers' : List ℕ) (k : ℕ) → AreNumbers entries at numbers → k ≡ length (own e.event.task H) + 1 → numbers' ≡ numbers ++ k ∷ [] → AreNumbers entries (at + 1) numbers'
  numbered_one numbers numbers' k so_far is more = record {
    count = ap length more ∙ length-append numbers (k ∷ []) ∙ ap (λ n. n + 1) so_far.count;
    told = λ p id lower there. ap (λ ns. get_or ns p 0) more ∙ by p id lower there (nat_eq p at) refl;
  }
    where
      by : (p : ℕ) (id : StepId) → p < at + 1 → step_at entries p ≡ Some id → (b : Bool) → nat_eq p at ≡ b → get_or (numbers ++ k ∷ []) p 0 ≡ id.k
      by p id lower there true z =
          let same : p ≡ at = eqb-true p at z in
          let its : step_of H e.event ≡ id = some_same _ _ (sym (step_read entries at e within here) ∙ ap (step_at entries) (sym same) ∙ there) in
          ap (λ q. get_or (numbers ++ k ∷ []) q 0) (same ∙ sym so_far.count) ∙ at_end ∙ is ∙ numbered ∙ ap (λ (i : StepId). i.k) its
        where
          at_end : get_or (numbers ++ k ∷ []) (length numbers) 0 ≡ k
          at_end = ap (λ q. get_or (numbers ++ k ∷ []) q 0) (omega arith) ∙ get_or-append-add numbers (k ∷ []) 0 0

          numbered : length (own e.event.task H) + 1 ≡ suc (length (own e.event.task H))
          numbered = omega arith
      by p id lower there false z =
          let below : p < at = lower_by p lower (λ s. no (sym z ∙ eq-eqb p at s)) in
          get_or_append_left numbers (k ∷ []) 0 p (omega (arith, below, so_far.count)) ∙ so_far.told p id below there
        where
          no : ◌≡◌ {A = Bool} false true → ⊥
          no h = cc

          lower_by : (p : ℕ) → p < at + 1 → (p ≡ at → ⊥) → p < at
          lower_by p l n = omega (arith, l, n)
