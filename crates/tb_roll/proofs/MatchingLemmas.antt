-- Steps that are in two histories, by their indexes.
use Rattle.std.proofs.Common.{◌≡◌, ◌<◌, ◌≤◌, ◌+◌, ℕ, zero, suc, List, [], ◌∷◌, ◌++◌, Bool, true, false, length, take, drop, refl, sym, ap, ◌∙◌, subst, arith, Some, get_or, slice_get, append_assoc, append-nil}
use Rattle.std.specs.Option.{option_map}
use Rattle.std.proofs.lemmas.List.{length-append, take-append-drop, take_all}
use Rattle.std.proofs.lemmas.Option.{slice_get_read, slice_get-get_or}
use Rattle.tb_model.specs.declared.action.Action.{Action}
use Rattle.tb_model.specs.declared.step_id.StepId.{StepId}
use Rattle.tb_model.specs.Facts.{History, is_of, own, prepend_if}
use Rattle.tb_model.specs.Names.{Name, same_name}
use Rattle.tb_model.specs.Needs.{step_of}
use Rattle.tb_model.proofs.FactsLemmas.{own_mine, own_other}
use Rattle.tb_model.proofs.TestLemmas.{same_true, same_refl}
use Rattle.tb_steps.specs.Entries.{Entry}
use Rattle.tb_steps.specs.Scans.{history_of, step_at}
use Rattle.tb_steps.proofs.FirstLemmas.{some_same, step_read, there}
use Rattle.tb_steps.proofs.ScanLemmas.{history_of-append, history_more}
use Rattle.tb_roll.specs.Comparing.{AreFound, AreMatched, AreOldest, IsSameStep, action_at, next_step}

-- ---- lists with one end

pub cons_head : {A : Type 0} (x y : A) (xs ys : List A) → ◌≡◌ {A = List A} (x ∷ xs) (y ∷ ys) → x ≡ y
cons_head x y xs ys e = cc

pub same_end : {A : Type 0} (xs ys zs ws : List A) → length zs ≡ length ws → xs ++ zs ≡ ys ++ ws → zs ≡ ws
same_end [] [] zs ws n e = e
same_end [] (y ∷ ys) zs ws n e = absurd (omega (arith, n, ap length e, length-append ys ws))
same_end (x ∷ xs) [] zs ws n e = absurd (omega (arith, n, ap length e, length-append xs zs))
same_end (x ∷ xs) (y ∷ ys) zs ws n e = same_end xs ys zs ws n (ap (drop 1) e)

pub both_oldest : (xs ys : List Action) → AreOldest xs ys → AreOldest ys xs → xs ≡ ys
both_oldest xs ys a b =
    let n : length ys ≡ length xs = omega (arith, ap length a.1, length-append a.0 xs, ap length b.1, length-append b.0 ys) in
    sym (same_end [] a.0 ys xs n a.1)

-- what holds at each element holds with one more at the end
pub one_pushed : (P : ℕ → ℕ → Type 0) (xs : List ℕ) (x : ℕ) → ((p q : ℕ) → slice_get xs p ≡ Some q → P p q) → P (length xs) x → (p q : ℕ) → slice_get (xs ++ x ∷ []) p ≡ Some q → P p q
one_pushed P [] x all last zero q h = subst (P zero) (some_same x q h) last
one_pushed P [] x all last (suc p) q h = cc
one_pushed P (y ∷ xs) x all last zero q h = all zero q h
one_pushed P (y ∷ xs) x all last (suc p) q h = one_pushed (λ p q. P (suc p) q) xs x (λ p q h. all (suc p) q h) last p q h

-- ---- the actions of a task, cut at an index

own_append : (t : Name) (G H : History) → own t (G ++ H) ≡ own t G ++ own t H
own_append t [] H = refl
own_append t (v ∷ G) H = at (is_of t v) (own_append t G H)
  where
    at : (b : Bool) → own t (G ++ H) ≡ own t G ++ own t H → prepend_if b v.action (own t (G ++ H)) ≡ prepend_if b v.action (own t G) ++ own t H
    at true h = ap (λ l. v.action ∷ l) h
    at false h = h

own_cut : (t : Name) (entries : List Entry) (at : ℕ) → own t (history_of entries) ≡ own t (history_of (drop at entries)) ++ own t (history_of (take at entries))
own_cut t entries at =
    ap (λ l. own t (history_of l)) (sym (take-append-drop at entries)) ∙ ap (own t) (history_of-append (take at entries) (drop at entries))
    ∙ own_append t (history_of (drop at entries)) (history_of (take at entries))

module _ (t : Name) (entries : List Entry) (at : ℕ) (e : Entry) (within : at < length entries) (here : e ≡ get_or entries at e) where
  pub own_more : is_of t e.event ≡ true → own t (history_of (take (at + 1) entries)) ≡ e.event.action ∷ own t (history_of (take at entries))
  own_more mine = ap (own t) (history_more entries at e within here) ∙ own_mine t e.event (history_of (take at entries)) mine

  pub own_same : is_of t e.event ≡ false → own t (history_of (take (at + 1) entries)) ≡ own t (history_of (take at entries))
  own_same other = ap (own t) (history_more entries at e within here) ∙ own_other t e.event (history_of (take at entries)) other

  pub own_here : is_of t e.event ≡ true → own t (history_of entries) ≡ own t (history_of (drop (at + 1) entries)) ++ e.event.action ∷ own t (history_of (take at entries))
  own_here mine = own_cut t entries (at + 1) ∙ ap (λ l. own t (history_of (drop (at + 1) entries)) ++ l) (own_more mine)

-- ---- a step and where it is among the others

action_read : (entries : List Entry) (at : ℕ) (e : Entry) → at < length entries → e ≡ get_or entries at e → action_at entries at ≡ Some e.event.action
action_read entries at e within here = ap (option_map (λ (x : Entry). x.event.action)) (slice_get_read entries (length entries) at e refl within here)

module _ (entries others : List Entry) (p q : ℕ) (e w : Entry) (within : p < length entries) (here : e ≡ get_or entries p e) (inside : q < length others) (its : w ≡ get_or others q w) (same : IsSameStep entries p others q) where
  ids : step_of (history_of (take q others)) w.event ≡ step_of (history_of (take p entries)) e.event
  ids = some_same _ _ (sym (step_read others q w inside its) ∙ same.step ∙ step_read entries p e within here)

  pub same_task : w.event.task ≡ e.event.task
  same_task = ap (λ (i : StepId). i.task) ids

  pub same_count : length (own e.event.task (history_of (take q others))) ≡ length (own e.event.task (history_of (take p entries)))
  same_count =
      let k : suc (length (own w.event.task (history_of (take q others)))) ≡ suc (length (own e.event.task (history_of (take p entries)))) = ap (λ (i : StepId). i.k) ids in
      ap (λ t. length (own t (history_of (take q others)))) (sym same_task) ∙ omega (arith, k)

  pub same_act : w.event.action ≡ e.event.action
  same_act = some_same _ _ (sym (action_read others q w inside its) ∙ same.action ∙ action_read entries p e within here)

of_its : (t u : Name) → t ≡ u → same_name t u ≡ true
of_its t u h = subst (λ x. same_name t x ≡ true) h (same_refl t)

-- ---- where all steps are matched, they are found

get_there : (xs : List ℕ) (p : ℕ) → p < length xs → (q : ℕ) × (slice_get xs p ≡ Some q)
get_there [] p h = absurd (omega (arith, h))
get_there (x ∷ xs) zero h = (x, refl)
get_there (x ∷ xs) (suc p) h = get_there xs p (omega (arith, h))

module _ (entries others : List Entry) (places : List ℕ) (count : length places ≡ length entries) (matched : AreMatched entries places others) (t : Name) where
  abbrev all : List Action
  all = own t (history_of others)

  one_more : (n : ℕ) → n < length entries → (e : Entry) → e ≡ get_or entries n e → (b : Bool) → is_of t e.event ≡ b → AreOldest (own t (history_of (take n entries))) all → AreOldest (own t (history_of (take (n + 1) entries))) all
  one_more n within e here false other o = (o.0, o.1 ∙ ap (λ l. o.0 ++ l) (sym (own_same t entries n e within here other)))
  one_more n within e here true mine o =
      let at = get_there places n (omega (arith, within, count)) in
      let q = at.0 in
      let same = matched n q at.1 in
      let w = there others q same.within in
      let task = same_true e.event.task t mine in
      let its : w.0.event.task ≡ t = same_task entries others n q e w.0 within here same.within w.1 same ∙ task in
      let n_same : length (own t (history_of (take q others))) ≡ length (own t (history_of (take n entries))) =
      subst (λ u. length (own u (history_of (take q others))) ≡ length (own u (history_of (take n entries)))) task (same_count entries others n q e w.0 within here same.within w.1 same) in
      let newer = own t (history_of (drop (q + 1) others)) in
      let cut : all ≡ newer ++ w.0.event.action ∷ own t (history_of (take q others)) = own_here t others q w.0 same.within w.1 (of_its w.0.event.task t its) in
      let front : own t (history_of (take q others)) ≡ own t (history_of (take n entries)) =
      same_end (newer ++ w.0.event.action ∷ []) o.0 (own t (history_of (take q others))) (own t (history_of (take n entries))) n_same
      (append_assoc newer (w.0.event.action ∷ []) (own t (history_of (take q others))) ∙ sym cut ∙ o.1) in (
        newer,
        cut ∙ ap (λ a. newer ++ a ∷ own t (history_of (take q others))) (same_act entries others n q e w.0 within here same.within w.1 same) ∙ ap (λ l. newer ++ e.event.action ∷ l) front
            ∙ ap (λ l. newer ++ l) (sym (own_more t entries n e within here mine)),
      )

  upto : (n : ℕ) → n ≤ length entries → AreOldest (own t (history_of (take n entries))) all
  upto zero h = (all, sym (append-nil all))
  upto (suc n) h =
      let e = there entries n (omega (arith, h)) in
      let next : n + 1 ≡ suc n = omega arith in
      subst (λ m. AreOldest (own t (history_of (take m entries))) all) next (one_more n (omega (arith, h)) e.0 e.1 (is_of t e.0.event) refl (upto n (omega (arith, h))))

  pub all_oldest : AreOldest (own t (history_of entries)) all
  all_oldest = subst (λ l. AreOldest (own t (history_of l)) all) (take_all (length entries) entries (omega arith)) (upto (length entries) (omega arith))

-- ---- the step at an index, where the steps of its task in front of it are matched

module _ (entries others : List Entry) (at begin : ℕ) (e : Entry) (t : Name) (within : at < length entries) (here : e ≡ get_or entries at e) (named : t ≡ e.event.task) (counted : length (own t (history_of (take begin others))) ≡ length (own t (history_of (take at entries)))) where
  abbrev front : List Action
  front = own t (history_of (take at entries))

  mine : own t (history_of entries) ≡ own t (history_of (drop (at + 1) entries)) ++ e.event.action ∷ front
  mine = own_here t entries at e within here (of_its e.event.task t (sym named))

  -- no step of its task is left
  pub none_left : own t (history_of others) ≡ own t (history_of (take begin others)) → AreFound entries others → ⊥
  none_left h found =
      let o = found t in
      omega (arith, ap length h, counted, ap length o.1, length-append o.0 (own t (history_of entries)), ap length mine, length-append (own t (history_of (drop (at + 1) entries))) (e.event.action ∷ front))

  module _ (q : ℕ) (w : Entry) (inside : q < length others) (its : w ≡ get_or others q w) (step : step_at others q ≡ Some (next_step t others begin)) where
    id : step_of (history_of (take q others)) w.event ≡ next_step t others begin
    id = some_same _ _ (sym (step_read others q w inside its) ∙ step)

    task : w.event.task ≡ t
    task = ap (λ (i : StepId). i.task) id

    as_many : length (own t (history_of (take q others))) ≡ length front
    as_many =
        let k : suc (length (own w.event.task (history_of (take q others)))) ≡ suc (length (own t (history_of (take begin others)))) = ap (λ (i : StepId). i.k) id in
        ap (λ u. length (own u (history_of (take q others)))) (sym task) ∙ omega (arith, k, counted)

    -- it is the same with the same action
    pub found_same : w.event.action ≡ e.event.action → IsSameStep entries at others q
    found_same act = record {
      within = inside;
      step =
          step ∙ ap (λ n. Some (record { task = t; k = suc n })) counted
          ∙ ap (λ u. Some (record { task = u; k = suc (length (own u (history_of (take at entries)))) })) named ∙ sym (step_read entries at e within here);
      action = action_read others q w inside its ∙ ap Some act ∙ sym (action_read entries at e within here);
    }

    -- with another it isn't found
    pub found_other : (w.event.action ≡ e.event.action → ⊥) → AreFound entries others → ⊥
    found_other differ found =
        let o = found t in
        let newer = own t (history_of (drop (at + 1) entries)) in
        differ
        (cons_head _ _ _ _
        (same_end (own t (history_of (drop (q + 1) others))) (o.0 ++ newer) (w.event.action ∷ own t (history_of (take q others))) (e.event.action ∷ front) (omega (arith, as_many))
        (sym (own_here t others q w inside its (of_its w.event.task t task)) ∙ o.1 ∙ ap (λ l. o.0 ++ l) mine ∙ sym (append_assoc o.0 newer (e.event.action ∷ front)))))

-- ---- the scans

-- the first that is found is the task's next step
pub next_found : (entries : List Entry) (at begin : ℕ) (t : Name) (e : Entry) → at < length entries → e ≡ get_or entries at e → is_of t e.event ≡ true
    → own t (history_of (take at entries)) ≡ own t (history_of (take begin entries)) → step_at entries at ≡ Some (next_step t entries begin)
next_found entries at begin t e within here mine same =
    let task : e.event.task ≡ t = same_true e.event.task t mine in
    step_read entries at e within here ∙ ap (λ u. Some (record { task = u; k = suc (length (own u (history_of (take at entries)))) })) task
    ∙ ap (λ (acts : List Action). Some (record { task = t; k = suc (length acts) })) same

-- the last of the task in front of an index, and where it is among the others
module _ (entries others : List Entry) (places : List ℕ) (at left : ℕ) (t : Name) (e : Entry) (matched : AreMatched entries places others) (within : left < length entries) (here : e ≡ get_or entries left e) (known : left < length places) (mine : is_of t e.event ≡ true) (same : own t (history_of (take (left + 1) entries)) ≡ own t (history_of (take at entries))) where
  abbrev q : ℕ
  q = get_or places left 0

  its : IsSameStep entries left others q
  its = matched left q (slice_get-get_or places left 0 known)

  pub behind_within : q + 1 ≤ length others
  behind_within = omega (arith, its.within)

  pub behind_counted : length (own t (history_of (take (q + 1) others))) ≡ length (own t (history_of (take at entries)))
  behind_counted =
      let w = there others q its.within in
      let task : e.event.task ≡ t = same_true e.event.task t mine in
      let w_task = same_task entries others left q e w.0 within here its.within w.1 its ∙ task in
      let n = subst (λ u. length (own u (history_of (take q others))) ≡ length (own u (history_of (take left entries)))) task (same_count entries others left q e w.0 within here its.within w.1 its) in
      omega (arith, n, ap length (own_more t others q w.0 its.within w.1 (of_its w.0.event.task t w_task)), ap length (own_more t entries left e within here (of_its e.event.task t task)), ap length same)
