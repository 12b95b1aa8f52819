-- The steps of a task by their indexes.
use Rattle.std.proofs.Common.{◌≡◌, ◌<◌, ◌≤◌, ◌+◌, ◌-◌, ℕ, zero, suc, List, [], ◌∷◌, ◌++◌, Bool, true, false, cond, Some, None, IsTrue, length, take, filter, get_or, slice_get, refl, sym, ap, ◌∙◌, subst, arith}
use Rattle.std.proofs.lemmas.List.{length-map}
use Rattle.std.proofs.lemmas.List.Sums.{length-filter, count_by-le-length}
use Rattle.std.proofs.lemmas.Option.{slice_get-get_or, slice_get_read}
use Rattle.tb_model.specs.declared.event.Event.{Event}
use Rattle.tb_model.specs.declared.step_id.StepId.{StepId}
use Rattle.tb_model.specs.Names.{Name}
use Rattle.tb_model.specs.Facts.{History, is_of, own, prepend_if}
use Rattle.tb_model.specs.Equivalent.{stands}
use Rattle.tb_model.specs.Needs.{step_of}
use Rattle.tb_places.specs.Where.{places_from, places_where}
use Rattle.tb_places.proofs.WhereLemmas.{places_cons}
use Rattle.tb_places.proofs.RoomLemmas.{places_count}
use Rattle.tb_steps.specs.Entries.{Entry}
use Rattle.tb_core.specs.Renumbering.{events_in}
use Rattle.tb_steps.specs.Scans.{history_of, step_at, step_behind}
use Rattle.tb_steps.proofs.ScanLemmas.{history_of-append, found_stands, found_step_at, numbered}

-- ---- one index of those at which a test passes

-- the jth is that of a stored step at which it passes, and j pass in front of it
record IsNth (n : ℕ) (p : Event → Bool) (es : List Entry) (j at : ℕ) : Type 0 where
  index : ℕ
  entry : Entry
  place : at ≡ n + index
  within : index < length es
  here : entry ≡ get_or es index entry
  passes : p entry.event ≡ true
  count : length (filter p (events_in (take index es))) ≡ j

behind_one : (n : ℕ) (p : Event → Bool) (x : Entry) (es : List Entry) (j k at : ℕ) → length (cond (p x.event) (x.event ∷ []) []) + j ≡ k
    → IsNth (n + 1) p es j at → IsNth n p (x ∷ es) k at
behind_one n p x es j k at count r = record {
  index = suc r.index;
  entry = r.entry;
  place = omega (arith, r.place);
  within = omega (arith, r.within);
  here = r.here;
  passes = r.passes;
  count = more (p x.event) count;
}
  where
    more : (b : Bool) → length (cond b (x.event ∷ []) []) + j ≡ k
        → length (cond b (x.event ∷ filter p (events_in (take r.index es))) (filter p (events_in (take r.index es)))) ≡ k
    more true h = omega (arith, h, r.count)
    more false h = omega (arith, h, r.count)

nth : (n : ℕ) (p : Event → Bool) (es : List Entry) (j at : ℕ) → slice_get (places_from n p (events_in es)) j ≡ Some at → IsNth n p es j at
nth n p [] j at h = absurd (none h)
  where
    none : None ≡ Some at → ⊥
    none e = cc
nth n p (x ∷ es) j at h = by (p x.event) refl j (sym (ap (λ l. slice_get l j) (places_cons n p x.event (events_in es))) ∙ h) (λ i. nth (n + 1) p es i at)
  where
    by : (b : Bool) → p x.event ≡ b → (k : ℕ)
        → slice_get (cond (p x.event) (n ∷ places_from (n + 1) p (events_in es)) (places_from (n + 1) p (events_in es))) k ≡ Some at
        → ((i : ℕ) → slice_get (places_from (n + 1) p (events_in es)) i ≡ Some at → IsNth (n + 1) p es i at) → IsNth n p (x ∷ es) k at
    by false f k g rest =
        behind_one n p x es k k at (ap (λ b. length (cond b (x.event ∷ []) []) + k) f ∙ omega arith)
        (rest k (sym (ap (λ b. slice_get (cond b (n ∷ places_from (n + 1) p (events_in es)) (places_from (n + 1) p (events_in es))) k) f) ∙ g))
    by true t zero g rest =
        let first : Some n ≡ Some at = sym (ap (λ b. slice_get (cond b (n ∷ places_from (n + 1) p (events_in es)) (places_from (n + 1) p (events_in es))) 0) t) ∙ g in
        let same : n ≡ at = cc in
        record { index = 0; entry = x; place = omega (arith, same); within = omega arith; here = refl; passes = t; count = refl }
    by true t (suc k) g rest =
        behind_one n p x es k (suc k) at (ap (λ b. length (cond b (x.event ∷ []) []) + k) t ∙ omega arith)
        (rest k (sym (ap (λ b. slice_get (cond b (n ∷ places_from (n + 1) p (events_in es)) (places_from (n + 1) p (events_in es))) (suc k)) t) ∙ g))

-- ---- how many steps a task has

own_append : (t : Name) (G H : History) → length (own t (G ++ H)) ≡ length (own t G) + length (own t H)
own_append t [] H = omega arith
own_append t (v ∷ G) H = by (is_of t v) (own_append t G H)
  where
    by : (b : Bool) → length (own t (G ++ H)) ≡ length (own t G) + length (own t H)
        → length (prepend_if b v.action (own t (G ++ H))) ≡ length (prepend_if b v.action (own t G)) + length (own t H)
    by true h = omega (arith, h)
    by false h = h

pub own_count : (t : Name) (es : List Entry) → length (own t (history_of es)) ≡ length (filter (is_of t) (events_in es))
own_count t [] = refl
own_count t (x ∷ es) =
    ap (λ H. length (own t H)) (history_of-append (x ∷ []) es) ∙ own_append t (history_of es) (x.event ∷ []) ∙ by (is_of t x.event) (own_count t es)
  where
    by : (b : Bool) → length (own t (history_of es)) ≡ length (filter (is_of t) (events_in es)) → length (own t (history_of es)) + length (prepend_if b x.event.action []) ≡ length (cond b (x.event ∷ filter (is_of t) (events_in es)) (filter (is_of t) (events_in es)))
    by true h = omega (arith, h)
    by false h = omega (arith, h)

-- ---- the step of a number

module _ (es : List Entry) (own_places : List ℕ) (i : StepId) (is : own_places ≡ places_where (is_of i.task) (events_in es)) where
  pub record IsOwn (at : ℕ) : Type 0 where
    pub stands : IsTrue (stands i (history_of es))
    pub step : step_at es at ≡ Some i
    pub within : at < length es

  -- the index of the kth is that of the task's kth step
  pub own_step : (j at : ℕ) → j + 1 ≡ i.k → slice_get own_places j ≡ Some at → IsOwn at
  own_step j at number h =
      let r = nth 0 (is_of i.task) es j at (ap (λ l. slice_get l j) (sym is) ∙ h) in
      let same : r.index ≡ at = omega (arith, r.place) in
      let counted : j ≡ length (own i.task (history_of (take r.index es))) = sym r.count ∙ sym (own_count i.task (take r.index es)) in
      subst IsOwn same
      (record {
        stands = found_stands es r.index r.entry i j r.within r.here r.passes counted number;
        step = found_step_at es r.index r.entry i j r.within r.here r.passes counted number;
        within = r.within;
      })

  -- as they are many
  pub places_counted : length own_places ≡ length (own i.task (history_of es))
  places_counted = ap length is ∙ places_count 0 (is_of i.task) (events_in es) ∙ sym (own_count i.task es)

  -- a step that is there has an ordinal, and its index is there
  pub own_at : (b : Bool) (d : ℕ) → ((H : History) → length own_places ≡ length (own i.task H) → b ≡ stands i H) → b ≡ true
      → IsOwn (get_or own_places (i.k - 1) d)
  own_at b d test there =
      let n = numbered i (history_of es) (sym (test (history_of es) places_counted) ∙ there) in
      own_step (i.k - 1) (get_or own_places (i.k - 1) d) (omega (arith, n.0)) (slice_get-get_or own_places (i.k - 1) d (omega (arith, n.0, n.1, places_counted)))

  pub own_within : (b : Bool) → ((H : History) → length own_places ≡ length (own i.task H) → b ≡ stands i H) → b ≡ true → (1 ≤ i.k) × (i.k ≤ length own_places)
  own_within b test there =
      let n = numbered i (history_of es) (sym (test (history_of es) places_counted) ∙ there) in
      (n.0, omega (arith, n.1, places_counted))

-- ---- the ordinal of the step at an index

module _ (es : List Entry) (own_places : List ℕ) (at : ℕ) (e : Entry) (is : own_places ≡ places_where (is_of e.event.task) (events_in es))
    (within : at < length es) (here : e ≡ get_or es at e) where
  -- it is one more than how many of its task's indexes come in front of it
  pub own_number : (j : ℕ) (d : ℕ) → j < length own_places → get_or own_places j d ≡ at → (id : StepId) → step_at es at ≡ Some id → j + 1 ≡ id.k
  own_number j d inside there id step =
      let r = nth 0 (is_of e.event.task) es j at (ap (λ l. slice_get l j) (sym is) ∙ slice_get-get_or own_places j d inside ∙ ap Some there) in
      let same : r.index ≡ at = omega (arith, r.place) in
      let front : length (own e.event.task (history_of (take at es))) ≡ j = own_count e.event.task (take at es) ∙ ap (λ n. length (filter (is_of e.event.task) (events_in (take n es)))) (sym same) ∙ r.count in
      let itself : step_at es at ≡ Some (step_of (history_of (take at es)) e.event) = ap (step_behind (take at es)) (slice_get_read es (length es) at e refl within here) in
      let whole : Some (step_of (history_of (take at es)) e.event) ≡ Some id = sym itself ∙ step in
      let one : step_of (history_of (take at es)) e.event ≡ id = inside_of _ _ whole in
      let number : suc (length (own e.event.task (history_of (take at es)))) ≡ id.k = ap (λ (s : StepId). s.k) one in
      omega (arith, front, number)
    where
      inside_of : (x y : StepId) → Some x ≡ Some y → x ≡ y
      inside_of x y h = cc

  pub own_few : length own_places ≤ length es
  own_few =
      omega (arith, ap length is, places_count 0 (is_of e.event.task) (events_in es), length-filter (is_of e.event.task) (events_in es), count_by-le-length (is_of e.event.task) (events_in es), length-map es (λ (x : Entry). x.event))
