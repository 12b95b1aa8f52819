-- The history of stored steps, cut at one of them, and the indexes of steps.
use Rattle.std.proofs.Common.{◌≡◌, ◌==◌, ◌&&◌, ◌||◌, ◌<◌, ◌+◌, ℕ, suc, Bool, List, [], ◌∷◌, ◌++◌, true, false, refl, sym, ap, ◌∙◌, length, map, take, drop, reverse, Some, arith, get_or, eq-eqb, eqb-true, append_assoc, ◌≤◌, ◌≢◌, ◌-◌, ⊎_elim}
use Rattle.std.proofs.Math.Seq.{split_at}
use Rattle.std.proofs.lemmas.List.{length-map, length-reverse, length-take-le, reverse-append, map-append}
use Rattle.std.proofs.lemmas.Option.{slice_get_read}
use Rattle.std.proofs.lemmas.Bool.{false≢true, or_cases, or_left, or_right, and_from, and_parts}
use Rattle.std.proofs.lemmas.Grind.{common_steps}
use Rattle.tb_model.specs.Names.{Name}
use Rattle.tb_model.specs.declared.action.Action.{Action}
use Rattle.tb_model.specs.declared.event.Event.{Event}
use Rattle.tb_model.specs.declared.step_id.StepId.{StepId}
use Rattle.tb_model.specs.Facts.{History, is_of, own}
use Rattle.tb_model.specs.Lines.{Departure}
use Rattle.tb_model.specs.Needs.{is_step}
use Rattle.tb_model.specs.Equivalent.{stands}
use Rattle.tb_laws.proofs.OrderedLemmas.{the_step}
use Rattle.tb_model.proofs.FactsLemmas.{own_mine, own_other}
use Rattle.tb_steps.specs.Entries.{Entry, departure}
use Rattle.tb_steps.specs.Scans.{history_of, step_behind, step_at}

-- ---- the history of stored steps

-- later stored steps give later events
pub history_of-append : (xs ys : List Entry) → history_of (xs ++ ys) ≡ history_of ys ++ history_of xs
history_of-append xs ys =
    ap (λ es. map (λ (d : Departure). d.event) (map departure es)) (reverse-append xs ys)
    ∙ ap (map (λ (d : Departure). d.event)) (map-append departure (reverse ys) (reverse xs))
    ∙ map-append (λ (d : Departure). d.event) (map departure (reverse ys)) (map departure (reverse xs))

-- there are as many events in front of an index as it says
pub count_front : (entries : List Entry) (at : ℕ) → at ≤ length entries → length (history_of (take at entries)) ≡ at
count_front entries at h =
    length-map (map departure (reverse (take at entries))) (λ (d : Departure). d.event) ∙ length-map (reverse (take at entries)) departure
    ∙ length-reverse (take at entries) ∙ length-take-le at entries h

-- what is after a stored step, itself, and what is before it
pub history_cut : (entries : List Entry) (at : ℕ) (e : Entry) → at < length entries → e ≡ get_or entries at e → history_of entries ≡ history_of (drop (suc at) entries) ++ e.event ∷ history_of (take at entries)
history_cut entries at e within here =
    ap history_of (split_at entries at e within ∙ ap (λ x. take at entries ++ x ∷ drop (suc at) entries) (sym here))
    ∙ history_of-append (take at entries) (e ∷ drop (suc at) entries)
    ∙ ap (λ H. H ++ history_of (take at entries)) (history_of-append (e ∷ []) (drop (suc at) entries))
    ∙ append_assoc (history_of (drop (suc at) entries)) (e.event ∷ []) (history_of (take at entries))

-- the events up to the next stored step
pub history_more : (entries : List Entry) (at : ℕ) (e : Entry) → at < length entries → e ≡ get_or entries at e → history_of (take (at + 1) entries) ≡ e.event ∷ history_of (take at entries)
history_more entries at e within here = grind (arith, common_steps)

-- the newest event, and what is before it
pub history_newest : (rest : List Entry) (e : Entry) → 1 ≤ length rest → e ≡ get_or rest (length rest - 1) e → history_of rest ≡ e.event ∷ history_of (take (length rest - 1) rest)
history_newest rest e some here = grind (arith, common_steps, history_cut)

-- the newest action of its task
pub own_newest : (t : Name) (rest : List Entry) (e : Entry) (a : Action) → 1 ≤ length rest → e ≡ get_or rest (length rest - 1) e → is_of t e.event ≡ true → e.event.action ≡ a → own t (history_of rest) ≡ a ∷ own t (history_of (take (length rest - 1) rest))
own_newest t rest e a some here mine is =
    ap (own t) (history_newest rest e some here) ∙ own_mine t e.event (history_of (take (length rest - 1) rest)) mine ∙ ap (λ b. b ∷ own t (history_of (take (length rest - 1) rest))) is

-- ---- where a step is

stands_later : (i : StepId) (later front : History) → stands i front ≡ true → stands i (later ++ front) ≡ true
stands_later i [] front h = h
stands_later i (v ∷ later) front h = or_right (is_step i (later ++ front) v) _ (stands_later i later front h)

-- a stored step is the step whose ordinal is one more than how many of its task are before it
module _ (entries : List Entry) (at : ℕ) (e : Entry) (i : StepId) (count : ℕ) (within : at < length entries) (here : e ≡ get_or entries at e) (mine : is_of i.task e.event ≡ true) (counted : count ≡ length (own i.task (history_of (take at entries)))) (last : count + 1 ≡ i.k) where
  abbrev front : History
  front = history_of (take at entries)

  step : is_step i front e.event ≡ true
  step = and_from (is_of i.task e.event) _ mine (eq-eqb i.k (suc (length (own i.task front))) (omega arith))

  -- it is there
  pub found_stands : stands i (history_of entries) ≡ true
  found_stands =
      ap (stands i) (history_cut entries at e within here) ∙ stands_later i (history_of (drop (suc at) entries)) (e.event ∷ front) (or_left (is_step i front e.event) _ step)

  -- at its index
  pub found_step_at : step_at entries at ≡ Some i
  found_step_at =
      ap (step_behind (take at entries)) (slice_get_read entries (length entries) at e refl within here) ∙ ap Some (the_step i front e.event step)

-- a further event takes none of the task's steps away
own_longer : (t : Name) (v : Event) (H : History) → length (own t H) ≤ length (own t (v ∷ H))
own_longer t v H = by_task (is_of t v) refl
  where
    by_task : (b : Bool) → is_of t v ≡ b → length (own t H) ≤ length (own t (v ∷ H))
    by_task true mine = let more : length (own t (v ∷ H)) ≡ suc (length (own t H)) = ap length (own_mine t v H mine) in omega (arith, more)
    by_task false other = let same : length (own t (v ∷ H)) ≡ length (own t H) = ap length (own_other t v H other) in omega (arith, same)

-- a step that is there has one of the ordinals of its task's steps
pub numbered : (i : StepId) (H : History) → stands i H ≡ true → (1 ≤ i.k) × (i.k ≤ length (own i.task H))
numbered i [] h = absurd (false≢true h)
numbered i (v ∷ H) h = ⊎_elim here (λ l. let rest = numbered i H l in (rest.0, omega (arith, rest.1, own_longer i.task v H))) (or_cases (is_step i H v) (stands i H) h)
  where
    here : is_step i H v ≡ true → (1 ≤ i.k) × (i.k ≤ length (own i.task (v ∷ H)))
    here is =
        let o = and_parts (is_of i.task v) (i.k == suc (length (own i.task H))) is in
        let number : i.k ≡ suc (length (own i.task H)) = eqb-true i.k _ o.1 in
        let more : length (own i.task (v ∷ H)) ≡ suc (length (own i.task H)) = ap length (own_mine i.task v H o.0) in
        (omega (arith, number), omega (arith, number, more))

-- each ordinal up to how many steps a task has is that of one of them
pub has_numbered : (i : StepId) (H : History) → 1 ≤ i.k → i.k ≤ length (own i.task H) → stands i H ≡ true
has_numbered i [] some most = absurd (omega (arith, some, most))
has_numbered i (v ∷ H) some most = by_task (λ m. has_numbered i H some m) (is_of i.task v) refl
  where
    by_number : (i.k ≤ length (own i.task H) → stands i H ≡ true) → is_of i.task v ≡ true → (b : Bool) → (i.k == suc (length (own i.task H))) ≡ b → stands i (v ∷ H) ≡ true
    by_number rest mine true q = or_left (is_step i H v) _ (and_from (is_of i.task v) _ mine q)
    by_number rest mine false q =
        let more : length (own i.task (v ∷ H)) ≡ suc (length (own i.task H)) = ap length (own_mine i.task v H mine) in
        let other : i.k ≢ suc (length (own i.task H)) = (λ e. false≢true (sym q ∙ eq-eqb i.k _ e)) in
        or_right (is_step i H v) _ (rest (omega (arith, most, more, other)))

    by_task : (i.k ≤ length (own i.task H) → stands i H ≡ true) → (b : Bool) → is_of i.task v ≡ b → stands i (v ∷ H) ≡ true
    by_task rest true mine = by_number rest mine (i.k == suc (length (own i.task H))) refl
    by_task rest false foreign =
        let same : length (own i.task (v ∷ H)) ≡ length (own i.task H) = ap length (own_other i.task v H foreign) in
        or_right (is_step i H v) _ (rest (omega (arith, most, same)))

-- no step has the ordinal 0, or an ordinal beyond those of its task's steps
pub has_none : (i : StepId) (H : History) → i.k ≡ 0 → false ≡ stands i H
has_none i H none = out (stands i H) refl
  where
    out : (b : Bool) → stands i H ≡ b → false ≡ b
    out true s = absurd (omega (arith, none, (numbered i H s).0))
    out false s = refl

pub has_not_so_many : (i : StepId) (H : History) (steps : ℕ) → steps ≡ length (own i.task H) → steps < i.k → false ≡ stands i H
has_not_so_many i H steps counted beyond = out (stands i H) refl
  where
    out : (b : Bool) → stands i H ≡ b → false ≡ b
    out true s = absurd (omega (arith, beyond, counted, (numbered i H s).1))
    out false s = refl

-- the step isn't among those up to this index, of which so many are its task's
pub record IsNotYet (i : StepId) (entries : List Entry) (at count : ℕ) : Type 0 where
  pub counted : count ≡ length (own i.task (history_of (take at entries)))
  pub within : count ≤ at
  pub none : stands i (history_of (take at entries)) ≡ false

module _ (i : StepId) (entries : List Entry) (at count : ℕ) (e : Entry) (within : at < length entries) (here : e ≡ get_or entries at e) (is : IsNotYet i entries at count) where
  abbrev before : History
  before = history_of (take at entries)

  next : history_of (take (at + 1) entries) ≡ e.event ∷ before
  next = history_more entries at e within here

  -- nor is it the next, of another task
  pub not_of_other : is_of i.task e.event ≡ false → IsNotYet i entries (at + 1) count
  not_of_other other = record {
    counted = is.counted ∙ sym (ap (λ H. length (own i.task H)) next ∙ ap length (own_other i.task e.event before other));
    within = omega (arith, is.within);
    none = ap (stands i) next ∙ ap (λ b. (b && (i.k == suc (length (own i.task before)))) || stands i before) other ∙ is.none;
  }

  -- or of another ordinal
  pub not_of_number : is_of i.task e.event ≡ true → count + 1 ≢ i.k → IsNotYet i entries (at + 1) (count + 1)
  not_of_number mine other = record {
    counted = let more : length (own i.task (history_of (take (at + 1) entries))) ≡ suc (length (own i.task before)) = ap (λ H. length (own i.task H)) next ∙ ap length (own_mine i.task e.event before mine) in omega (arith, more, is.counted);
    within = omega (arith, is.within);
    none = ap (stands i) next ∙ by (i.k == suc (length (own i.task before))) refl;
  }
    where
      by : (b : Bool) → (i.k == suc (length (own i.task before))) ≡ b → ((is_of i.task e.event && (i.k == suc (length (own i.task before)))) || stands i before) ≡ false
      by true q = absurd (other (omega (arith, eqb-true i.k _ q, is.counted)))
      by false q = ap (λ b. (b && (i.k == suc (length (own i.task before)))) || stands i before) mine ∙ ap (λ b. b || stands i before) q ∙ is.none

-- ---- the same from the newest stored step on

-- the step isn't from this index on, and so many of its task are before the index
pub record IsInFront (i : StepId) (entries : List Entry) (at : ℕ) (left : ℕ) : Type 0 where
  pub none : stands i (history_of (take at entries)) ≡ stands i (history_of entries)
  pub counted : left ≡ length (own i.task (history_of (take at entries)))

module _ (i : StepId) (entries : List Entry) (at left : ℕ) (e : Entry) (some : 0 < at) (within : at ≤ length entries) (here : e ≡ get_or entries (at - 1) e) (is : IsInFront i entries at left) where
  abbrev rest : History
  rest = history_of (take (at - 1) entries)

  more : history_of (take at entries) ≡ e.event ∷ rest
  more = ap (λ n. history_of (take n entries)) (omega (arith, some)) ∙ history_more entries (at - 1) e (omega (arith, some, within)) here

  -- a stored step of another task
  pub among_other : is_of i.task e.event ≡ false → IsInFront i entries (at - 1) left
  among_other other = record {
    none = sym (ap (stands i) more ∙ ap (λ b. (b && (i.k == suc (length (own i.task rest)))) || stands i rest) other) ∙ is.none;
    counted = is.counted ∙ ap (λ H. length (own i.task H)) more ∙ ap length (own_other i.task e.event rest other);
  }

  module _ (mine : is_of i.task e.event ≡ true) where
    counted : left ≡ suc (length (own i.task rest))
    counted = is.counted ∙ ap (λ H. length (own i.task H)) more ∙ ap length (own_mine i.task e.event rest mine)

    pub among_some : 1 ≤ left
    among_some = omega (arith, counted)

    -- the step itself
    pub among_stands : left ≡ i.k → stands i (history_of entries) ≡ true
    among_stands last = found_stands entries (at - 1) e i (length (own i.task rest)) (omega (arith, some, within)) here mine refl (omega (arith, counted, last))

    pub among_step_at : left ≡ i.k → step_at entries (at - 1) ≡ Some i
    among_step_at last = found_step_at entries (at - 1) e i (length (own i.task rest)) (omega (arith, some, within)) here mine refl (omega (arith, counted, last))

    -- another step of the task
    pub among_mine : left ≢ i.k → IsInFront i entries (at - 1) (left - 1)
    among_mine other = record {
      none = sym (ap (stands i) more ∙ ap (λ b. b || stands i rest) (not_it (is_of i.task e.event) (i.k == suc (length (own i.task rest))) refl)) ∙ is.none;
      counted = omega (arith, counted);
    }
      where
        not_it : (p b : Bool) → (i.k == suc (length (own i.task rest))) ≡ b → (p && b) ≡ false
        not_it true true q = absurd (other (counted ∙ sym (eqb-true i.k _ q)))
        not_it true false q = refl
        not_it false b q = refl
