-- The lines of some steps of a history are those of each, one after another.
use Rattle.std.proofs.Common.{◌≡◌, ◌<◌, ◌≤◌, ◌+◌, ◌⊎◌, inl, inr, ℕ, zero, suc, List, [], ◌∷◌, ◌++◌, Bool, true, false, ◌&&◌, ◌||◌, ◌==◌, cond, Some, length, take, drop, reverse, get_or, refl, sym, ap, ap₂, ◌∙◌, subst, arith, append_assoc, append-nil, ne_eqb, eq-eqb}
use Rattle.std.specs.List.{AllByRecursion, list_any}
use Rattle.std.proofs.lemmas.Bool.{and_from, and_parts, or_left, or_parts, or_right, eqb-true}
use Rattle.std.proofs.lemmas.List.{reverse-append, reverse-reverse}
use Rattle.std.proofs.lemmas.List.Sorted.{list_any-IsPermutation, IsPermutation-reverse}
use Rattle.tb_model.specs.declared.action.Action.{Action}
use Rattle.tb_model.specs.declared.event.Event.{Event}
use Rattle.tb_model.specs.declared.step_id.StepId.{StepId}
use Rattle.tb_model.specs.Equivalent.{stands}
use Rattle.tb_model.specs.Facts.{History, is_of, own}
use Rattle.tb_model.specs.Names.{Name, same_name}
use Rattle.tb_model.specs.Needs.{step_of}
use Rattle.tb_model.specs.Program.{Program}
use Rattle.tb_model.proofs.FactsLemmas.{own_mine}
use Rattle.tb_model.proofs.RemovalLemmas.{own_grows}
use Rattle.tb_model.proofs.TestLemmas.{same_true, same_refl}
use Rattle.tb_steps.specs.Entries.{Entry}
use Rattle.tb_steps.specs.Scans.{history_of, step_at}
use Rattle.tb_steps.proofs.FirstLemmas.{step_read}
use Rattle.tb_steps.proofs.ScanLemmas.{history_cut}
use Rattle.tb_view.specs.Lines.{event_line, step_line}
use Rattle.tb_view.specs.Steps.{same_step, is_among, chosen_lines, AreStepsOf}

same_itself : (i : StepId) → same_step i i ≡ true
same_itself i = and_from _ _ (same_refl i.task) (eq-eqb i.k i.k refl)

-- the next event is no step that is in H, nor one that comes later
not_it : (i : StepId) (H : History) (v : Event) → i.k ≤ length (own i.task H) → same_step i (step_of H v) ≡ false
not_it i H v past = at (same_name i.task v.task) refl
  where
    at : (b : Bool) → same_name i.task v.task ≡ b → (b && (i.k == suc (length (own v.task H)))) ≡ false
    at true s = ne_eqb i.k (suc (length (own v.task H))) (λ z. omega (arith, z, past, ap (λ t. length (own t H)) (same_true i.task v.task s)))
    at false s = refl

counts_one : (i : StepId) (H : History) (v : Event) → same_name i.task v.task ≡ true → length (own i.task (v ∷ H)) ≡ suc (length (own i.task H))
counts_one i H v s = ap length (own_mine i.task v H (subst (λ t. same_name t i.task ≡ true) (same_true i.task v.task s) (same_refl i.task)))

not_yet : (i : StepId) (H : History) (v : Event) → length (own i.task (v ∷ H)) < i.k → same_step i (step_of H v) ≡ false
not_yet i H v later = at (same_name i.task v.task) refl
  where
    at : (b : Bool) → same_name i.task v.task ≡ b → (b && (i.k == suc (length (own v.task H)))) ≡ false
    at true s = ne_eqb i.k (suc (length (own v.task H))) (λ z. omega (arith, z, later, counts_one i H v s, ap (λ t. length (own t H)) (same_true i.task v.task s)))
    at false s = refl

turned : (i j : StepId) → same_step i j ≡ false → same_step j i ≡ false
turned i j h = at (same_step j i) refl
  where
    both : same_step j i ≡ true → i ≡ j → same_step j i ≡ false
    both t e = subst (λ k. same_step k i ≡ false) e (subst (λ k. same_step i k ≡ false) (sym e) h)

    equal : same_step j i ≡ true → i ≡ j
    equal t =
        let o = and_parts (same_name j.task i.task) (j.k == i.k) t in
        made (sym (same_true j.task i.task o.0)) (sym (eqb-true j.k i.k o.1))
      where
        made : i.task ≡ j.task → i.k ≡ j.k → i ≡ j
        made p q = cc

    at : (b : Bool) → same_step j i ≡ b → same_step j i ≡ false
    at false t = t
    at true t = both t (equal t)

-- none of the steps of H comes later
none_later : (T : List StepId) (H : History) (j : StepId) → AreStepsOf T H → length (own j.task H) < j.k → is_among j T ≡ false
none_later T [] j a later = ap (is_among j) a
none_later T (v ∷ H) j (inl a) later = none_later T H j a (omega (arith, later, own_grows j.task v H))
none_later T (v ∷ H) j (inr a) later =
    ap (is_among j) a.1 ∙ ap₂ (λ b c. b || c) (turned j (step_of H v) (not_yet j H v later)) (none_later a.0 H j a.2 (omega (arith, later, own_grows j.task v H)))

module _ (P : Program) where
  nothing : (H : History) → chosen_lines P [] H ≡ []
  nothing [] = refl
  nothing (v ∷ H) = append-nil (chosen_lines P [] H) ∙ nothing H

  -- a step that comes later adds no line
  without_later : (j : StepId) (S : List StepId) (H : History) → length (own j.task H) < j.k → chosen_lines P (j ∷ S) H ≡ chosen_lines P S H
  without_later j S [] later = refl
  without_later j S (v ∷ H) later =
      ap₂ (λ x b. x ++ cond (b || is_among (step_of H v) S) (step_line P H v) []) (without_later j S H (omega (arith, later, own_grows j.task v H))) (not_yet j H v later)

  -- ---- one step

  alone : (v : Event) (D F : History) → chosen_lines P (step_of F v ∷ []) (D ++ v ∷ F) ≡ step_line P F v
  alone v [] F =
      let i = step_of F v in
      ap₂ (λ x b. x ++ cond (b || false) (step_line P F v) []) (without_later i [] F (omega arith) ∙ nothing F) (same_itself i)
  alone v (w ∷ D) F =
      let i = step_of F v in
      let K = D ++ v ∷ F in
      ap (λ b. chosen_lines P (i ∷ []) K ++ cond (b || false) (step_line P K w) []) (not_it i K w (past D)) ∙ append-nil (chosen_lines P (i ∷ []) K) ∙ alone v D F
    where
      past : (E : History) → suc (length (own v.task F)) ≤ length (own v.task (E ++ v ∷ F))
      past [] = omega (arith, ap length (own_mine v.task v F (same_refl v.task)))
      past (x ∷ E) = omega (arith, past E, own_grows v.task x (E ++ v ∷ F))

  pub line_at : (entries : List Entry) (at : ℕ) (e : Entry) (i : StepId) → at < length entries → e ≡ get_or entries at e → step_at entries at ≡ Some i → event_line P i e.event ≡ chosen_lines P (i ∷ []) (history_of entries)
  line_at entries at e i within here step =
      let F = history_of (take at entries) in
      let same = inside (step_of F e.event) i (sym (step_read entries at e within here) ∙ step) in
      subst (λ j. event_line P j e.event ≡ chosen_lines P (j ∷ []) (history_of entries)) same
      (sym (ap (chosen_lines P (step_of F e.event ∷ [])) (history_cut entries at e within here) ∙ alone e.event (history_of (drop (suc at) entries)) F))
    where
      inside : (x y : StepId) → Some x ≡ Some y → x ≡ y
      inside x y h = cc

  -- ---- several

  abbrev pub each_line : List StepId → History → List ℕ
  each_line [] H = []
  each_line (i ∷ S) H = chosen_lines P (i ∷ []) H ++ each_line S H

  -- from the last one on
  abbrev each_back : List StepId → History → List ℕ
  each_back [] H = []
  each_back (i ∷ T) H = each_back T H ++ chosen_lines P (i ∷ []) H

  back_append : (S T : List StepId) (H : History) → each_back (S ++ T) H ≡ each_back T H ++ each_back S H
  back_append [] T H = sym (append-nil (each_back T H))
  back_append (i ∷ S) T H = ap (λ x. x ++ chosen_lines P (i ∷ []) H) (back_append S T H) ∙ append_assoc (each_back T H) (each_back S H) (chosen_lines P (i ∷ []) H)

  each_turned : (S : List StepId) (H : History) → each_back (reverse S) H ≡ each_line S H
  each_turned [] H = refl
  each_turned (i ∷ S) H =
      ap (λ T. each_back T H) (reverse-append (i ∷ []) S) ∙ back_append (reverse S) (i ∷ []) H ∙ ap (λ x. chosen_lines P (i ∷ []) H ++ x) (each_turned S H)

  -- a later event that is none of them changes nothing
  back_stays : (T : List StepId) (H : History) (v : Event) → is_among (step_of H v) T ≡ false → each_back T (v ∷ H) ≡ each_back T H
  back_stays [] H v none = refl
  back_stays (i ∷ T) H v none =
      let o = or_parts (same_step i (step_of H v)) (is_among (step_of H v) T) none in
      ap₂ (λ x b. x ++ (chosen_lines P (i ∷ []) H ++ cond (b || false) (step_line P H v) [])) (back_stays T H v o.1) o.0
      ∙ ap (λ x. each_back T H ++ x) (append-nil (chosen_lines P (i ∷ []) H))

  by_each : (T : List StepId) (H : History) → AreStepsOf T H → chosen_lines P T H ≡ each_back T H
  by_each T [] a = sym (ap (λ S. each_back S []) a)
  by_each T (v ∷ H) (inl a) =
      let none = none_later T H (step_of H v) a (omega arith) in
      ap (λ b. chosen_lines P T H ++ cond b (step_line P H v) []) none ∙ append-nil (chosen_lines P T H) ∙ by_each T H a ∙ sym (back_stays T H v none)
  by_each T (v ∷ H) (inr a) =
      let i = step_of H v in
      let rest = a.0 in
      let none = none_later rest H i a.2 (omega arith) in
      ap (λ S. chosen_lines P S (v ∷ H)) a.1
      ∙ ap₂ (λ x b. x ++ cond (b || is_among i rest) (step_line P H v) []) (without_later i rest H (omega arith) ∙ by_each rest H a.2) (same_itself i)
      ∙ ap₂ (λ x y. x ++ y) (sym (back_stays rest H v none)) (sym (alone v [] H))
      ∙ ap (λ S. each_back S (v ∷ H)) (sym a.1)

  among_turned : (S : List StepId) (H : History) → chosen_lines P S H ≡ chosen_lines P (reverse S) H
  among_turned S [] = refl
  among_turned S (v ∷ H) =
      ap₂ (λ x b. x ++ cond b (step_line P H v) []) (among_turned S H) (list_any-IsPermutation (λ s. same_step s (step_of H v)) S (reverse S) (IsPermutation-reverse S))

  pub all_lines : (S : List StepId) (H : History) → AreStepsOf (reverse S) H → chosen_lines P S H ≡ each_line S H
  all_lines S H a = among_turned S H ∙ by_each (reverse S) H a ∙ each_turned S H

  pub line_more : (xs : List StepId) (n : ℕ) (i : StepId) (H : History) → n < length xs → i ≡ get_or xs n i → each_line (take n xs) H ++ chosen_lines P (i ∷ []) H ≡ each_line (take (n + 1) xs) H
  line_more xs n i H within here =
      let one : suc n ≡ n + 1 = omega arith in
      at xs n within here ∙ ap (λ k. each_line (take k xs) H) one
    where
      at : (xs : List StepId) (n : ℕ) → n < length xs → i ≡ get_or xs n i → each_line (take n xs) H ++ chosen_lines P (i ∷ []) H ≡ each_line (take (suc n) xs) H
      at [] n w h = absurd (omega (arith, w))
      at (x ∷ xs) zero w h = sym (append-nil (chosen_lines P (i ∷ []) H)) ∙ ap (λ (j : StepId). chosen_lines P (j ∷ []) H ++ []) h
      at (x ∷ xs) (suc n) w h = append_assoc (chosen_lines P (x ∷ []) H) (each_line (take n xs) H) (chosen_lines P (i ∷ []) H) ∙ ap (λ y. chosen_lines P (x ∷ []) H ++ y) (at xs n (omega (arith, w)) h)

-- the event that is read at the index of a step
pub read_as : (entries : List Entry) (at : ℕ) (e : Entry) (i : StepId) (a : Action) → at < length entries → e ≡ get_or entries at e → step_at entries at ≡ Some i → a ≡ e.event.action → record { task = i.task; action = a } ≡ e.event
read_as entries at e i a within here step did =
    let same = inside (step_of (history_of (take at entries)) e.event) i (sym (step_read entries at e within here) ∙ step) in
    ap₂ (λ (t : Name) (b : Action). record { task = t; action = b }) (sym (ap (λ (j : StepId). j.task) same)) did
  where
    inside : (x y : StepId) → Some x ≡ Some y → x ≡ y
    inside x y h = cc

-- ---- they are there

step_stands : (H : History) (v : Event) → stands (step_of H v) (v ∷ H) ≡ true
step_stands H v = or_left _ (stands (step_of H v) H) (and_from (is_of v.task v) _ (same_refl v.task) (eq-eqb _ (suc (length (own v.task H))) refl))

among_stands : (T : List StepId) (H : History) → AreStepsOf T H → AllByRecursion (λ i. stands i H ≡ true) T
among_stands T [] a = subst (AllByRecursion (λ i. stands i [] ≡ true)) (sym a) tt
among_stands T (v ∷ H) (inl a) = grown T (among_stands T H a)
  where
    grown : (S : List StepId) → AllByRecursion (λ i. stands i H ≡ true) S → AllByRecursion (λ i. stands i (v ∷ H) ≡ true) S
    grown [] h = tt
    grown (i ∷ S) h = (or_right _ (stands i H) h.0, grown S h.1)
among_stands T (v ∷ H) (inr a) = subst (AllByRecursion (λ i. stands i (v ∷ H) ≡ true)) (sym a.1) (step_stands H v, grown a.0 (among_stands a.0 H a.2))
  where
    grown : (S : List StepId) → AllByRecursion (λ i. stands i H ≡ true) S → AllByRecursion (λ i. stands i (v ∷ H) ≡ true) S
    grown [] h = tt
    grown (i ∷ S) h = (or_right _ (stands i H) h.0, grown S h.1)

all_append : (p : StepId → Type 0) (xs ys : List StepId) → AllByRecursion p (xs ++ ys) → AllByRecursion p xs × AllByRecursion p ys
all_append p [] ys h = (tt, h)
all_append p (x ∷ xs) ys h = let o = all_append p xs ys h.1 in ((h.0, o.0), o.1)

all_turned : (p : StepId → Type 0) (xs : List StepId) → AllByRecursion p (reverse xs) → AllByRecursion p xs
all_turned p [] h = tt
all_turned p (x ∷ xs) h = let o = all_append p (reverse xs) (x ∷ []) (subst (AllByRecursion p) (reverse-append (x ∷ []) xs) h) in (o.1.0, all_turned p xs o.0)

pub stands_there : (S : List StepId) (H : History) → AreStepsOf (reverse S) H → (n : ℕ) (i : StepId) → n < length S → i ≡ get_or S n i → stands i H ≡ true
stands_there S H a = at S (all_turned (λ i. stands i H ≡ true) S (among_stands (reverse S) H a))
  where
    at : (xs : List StepId) → AllByRecursion (λ i. stands i H ≡ true) xs → (n : ℕ) (i : StepId) → n < length xs → i ≡ get_or xs n i → stands i H ≡ true
    at [] h n i w g = absurd (omega (arith, w))
    at (x ∷ xs) h zero i w g = subst (λ j. stands j H ≡ true) (sym g) h.0
    at (x ∷ xs) h (suc n) i w g = at xs h.1 n i (omega (arith, w)) g
