-- What comes after what, link by link.
use Rattle.std.proofs.Common.{◌≡◌, ◌==◌, ◌<◌, ◌≤◌, ℕ, zero, suc, List, [], ◌∷◌, ◌++◌, Bool, true, ◌||◌, length, take, drop, refl, sym, ap, ap₂, ◌∙◌, subst, arith, Some, slice_get, get_or, ◌⊎◌, inl, inr, ⊎_elim, ◌≢◌, eqb-true, eq-eqb, ne_eqb}
use Rattle.std.specs.List.{list_any}
use Rattle.std.proofs.lemmas.Bool.{or_cases, or_left, or_right, both_ways, false≢true, cases_eq}
use Rattle.std.proofs.lemmas.Option.{slice_get_read}
use Rattle.tb_model.specs.declared.event.Event.{Event}
use Rattle.tb_model.specs.declared.step_id.StepId.{StepId}
use Rattle.tb_model.specs.Names.{Name}
use Rattle.tb_model.specs.Facts.{History, own}
use Rattle.tb_model.specs.Needs.{is_step, step_of}
use Rattle.tb_model.proofs.LeastLemmas.{later_not_step}
use Rattle.tb_model.proofs.RemovalLemmas.{own_grows, not_step, its_step}
use Rattle.tb_steps.specs.Entries.{Entry}
use Rattle.tb_steps.specs.Scans.{history_of}
use Rattle.tb_steps.proofs.FirstLemmas.{some_same, step_read, there}
use Rattle.tb_races.specs.Orders.{Order, links, comes_after, followers}
use Rattle.tb_races.proofs.PassLemmas.{any_put, passing}
use Rattle.tb_lanes.specs.Clocks.{after_so, is_after, reaches, links_so, links_at}
use Rattle.tb_lanes.proofs.FrontLemmas.{front_cut, one_more}

-- the step at the first index is linked to that at the second, or to one that comes after it
pub data After : Order → List Entry → ℕ → ℕ → Type 0 where
  direct : (o : Order) (entries : List Entry) (p q : ℕ) → q < p → p < length entries → links_at o entries p q ≡ true → After o entries p q
  by_way : (o : Order) (entries : List Entry) (p x q : ℕ) → x < p → p < length entries → links_at o entries p x ≡ true → After o entries x q → After o entries p q

pub low : {o : Order} {entries : List Entry} {p q : ℕ} → After o entries p q → q < p
low (direct o entries p q l w h) = l
low (by_way o entries p x q l w h a) = omega (arith, low a, l)

pub within : {o : Order} {entries : List Entry} {p q : ℕ} → After o entries p q → p < length entries
within (direct o entries p q l w h) = w
within (by_way o entries p x q l w h a) = w

pub chain : {o : Order} {entries : List Entry} {p x q : ℕ} → After o entries p x → After o entries x q → After o entries p q
chain {q = q} (direct o entries p x l w h) b = by_way o entries p x q l w h b
chain {q = q} (by_way o entries p y x l w h a) b = by_way o entries p y q l w h (chain a b)

own_more : (t : Name) (later front : History) → length (own t front) ≤ length (own t (later ++ front))
own_more t [] front = omega arith
own_more t (v ∷ later) front = omega (arith, own_more t later front, own_grows t v (later ++ front))

-- a stored step is at its index whatever shows that the index is one
pub same_at : (entries : List Entry) (p : ℕ) (w x : p < length entries) → (there entries p w).0 ≡ (there entries p x).0
same_at entries p w x = some_same _ _ (sym (read w) ∙ read x)
  where
    read : (w : p < length entries) → slice_get entries p ≡ Some (there entries p w).0
    read w = slice_get_read entries (length entries) p (there entries p w).0 refl w (there entries p w).1

module _ (o : Order) (entries : List Entry) where
  abbrev pub at : (p : ℕ) → p < length entries → Entry
  at p w = (there entries p w).0

  pub at_is : (p : ℕ) (w : p < length entries) → at p w ≡ get_or entries p (at p w)
  at_is p w = (there entries p w).1

  pub at_read : (p : ℕ) (w : p < length entries) → slice_get entries p ≡ Some (at p w)
  at_read p w = slice_get_read entries (length entries) p (at p w) refl w (at_is p w)

  abbrev H : ℕ → History
  H p = history_of (take p entries)

  pub after_is : (p q : ℕ) (w : p < length entries) (x : q < length entries) → is_after o entries p q ≡ comes_after o (step_of (H q) (at q x).event) (H p) (at p w).event
  after_is p q w x = ap₂ (after_so o (H p)) (at_read p w) (step_read entries q (at q x) x (at_is q x))

  pub links_is : (p q : ℕ) (w : p < length entries) (x : q < length entries) → links_at o entries p q ≡ links o (H p) (at p w).event (at q x).event
  links_is p q w x = ap₂ (links_so o (H p)) (at_read p w) (at_read q x)

  module _ (q : ℕ) (inside : q < length entries) where
    abbrev e : StepId
    e = step_of (H q) (at q inside).event

    -- the step at an index is that one only where the index is
    pub step_place : (n : ℕ) (w : n < length entries) → is_step e (H n) (at n w).event ≡ true → n ≡ q
    step_place n w h = by (cases_eq n q)
      where
        later : q < n → ⊥
        later l =
            both_ways _ (later_not_step (at q inside).event (H q) (history_of (drop (suc q) (take n entries))) (at n w).event)
            (subst (λ G. is_step e G (at n w).event ≡ true) (front_cut entries n q (at q inside) l (omega (arith, w)) (at_is q inside)) h)

        earlier : n < q → ⊥
        earlier l =
            let more = own_more (at q inside).event.task (history_of (drop (suc n) (take q entries))) ((at n w).event ∷ H n) in
            let cut = ap (λ G. length (own (at q inside).event.task G)) (front_cut entries q n (at n w) l (omega (arith, inside)) (at_is n w)) in
            both_ways _ (not_step e (H n) (at n w).event (omega (arith, more, cut))) h

        by : (n ≡ q) ⊎ (n ≢ q) → n ≡ q
        by (inl s) = s
        by (inr d) =
            let l : (n < q) ⊎ (q < n) = split n q d in
            ⊎_elim (λ a. absurd (earlier a)) (λ a. absurd (later a)) l
          where
            split : (m k : ℕ) → m ≢ k → (m < k) ⊎ (k < m)
            split zero zero d = absurd (d refl)
            split zero (suc k) d = inl (omega arith)
            split (suc m) zero d = inr (omega arith)
            split (suc m) (suc k) d = ⊎_elim (λ a. inl (omega (arith, a))) (λ a. inr (omega (arith, a))) (split m k (λ s. d (ap suc s)))

    pub record Found (P : Event → Bool) (n : ℕ) : Type 0 where
      x : ℕ
      low : x < n
      inside_x : x < length entries
      passes : P (at x inside_x).event ≡ true
      reached : (x ≡ q) ⊎ (is_after o entries x q ≡ true)

    found : (P : Event → Bool) (n : ℕ) → n ≤ length entries → list_any P (followers o e (H n)) ≡ true → Found P n
    found P zero l h = absurd (false≢true h)
    found P (suc n) l h =
        let w : n < length entries = omega (arith, l) in
        let v = (at n w).event in
        let more = one_more entries n (at n w) w (at_is n w) in
        ⊎_elim
        (λ a. record {
          x = n;
          low = omega arith;
          inside_x = w;
          passes = a.1;
          reached = ⊎_elim (λ s. inl (step_place n w s)) (λ s. inr (after_is n q w inside ∙ s)) (or_cases (is_step e (H n) v) (list_any (links o (H n) v) (followers o e (H n))) a.0);
        })
        (λ a. let f = found P n (omega (arith, l)) a in record { x = f.x; low = omega (arith, f.low); inside_x = f.inside_x; passes = f.passes; reached = f.reached })
        (any_put P (is_step e (H n) v || list_any (links o (H n) v) (followers o e (H n))) v (followers o e (H n)) (subst (λ G. list_any P (followers o e G) ≡ true) more h))

    -- what an event reaches is found
    kept : (P : Event → Bool) (n x : ℕ) (l : x < n) (w : x < length entries) → n ≤ length entries → P (at x w).event ≡ true → (x ≡ q) ⊎ (is_after o entries x q ≡ true) → list_any P (followers o e (H n)) ≡ true
    kept P n x l w m h r =
        subst (λ G. list_any P (followers o e G) ≡ true) (sym (front_cut entries n x (at x w) l m (at_is x w)))
        (passing o P e (history_of (drop (suc x) (take n entries))) (at x w).event (H x) (follows r) h)
      where
        follows : (x ≡ q) ⊎ (is_after o entries x q ≡ true) → (is_step e (H x) (at x w).event || comes_after o e (H x) (at x w).event) ≡ true
        follows (inl s) = or_left (is_step e (H x) (at x w).event) _ (itself x w s)
          where
            itself : (y : ℕ) (i : y < length entries) → y ≡ q → is_step e (H y) (at y i).event ≡ true
            itself y i s = subst (λ z. (j : z < length entries) → is_step (step_of (H z) (at z j).event) (H y) (at y i).event ≡ true) s (λ j. subst (λ (z : Entry). is_step (step_of (H y) z.event) (H y) (at y i).event ≡ true) (some_same (at y i) (at y j) (sym (at_read y i) ∙ at_read y j)) (its_step (H y) (at y i).event)) inside
        follows (inr a) = or_right (is_step e (H x) (at x w).event) _ (sym (after_is x q w inside) ∙ a)

  -- whatever comes after comes so link by link
  linked : (n p q : ℕ) → p < n → (w : p < length entries) (i : q < length entries) → is_after o entries p q ≡ true → After o entries p q
  linked zero p q l w i h = absurd (omega (arith, l))
  linked (suc n) p q l w i h =
      let f = found q i (links o (H p) (at p w).event) p (omega (arith, w)) (sym (after_is p q w i) ∙ h) in
      let link = links_is p f.x w f.inside_x ∙ f.passes in
      ⊎_elim (λ s. subst (After o entries p) s (direct o entries p f.x f.low w link)) (λ a. by_way o entries p f.x q f.low w link (linked n f.x q (omega (arith, f.low, l)) f.inside_x i a)) f.reached

  pub after_links : (p q : ℕ) → p < length entries → q < length entries → is_after o entries p q ≡ true → After o entries p q
  after_links p q w i h = linked (suc p) p q (omega arith) w i h

-- what comes after is found by the test too
pub links_after : {o : Order} {entries : List Entry} {p q : ℕ} → After o entries p q → is_after o entries p q ≡ true
links_after (direct o entries p q l w h) =
    let i : q < length entries = omega (arith, l, w) in
    after_is o entries p q w i ∙ kept o entries q i (links o (history_of (take p entries)) (at o entries p w).event) p q l i (omega (arith, w)) (sym (links_is o entries p q w i) ∙ h) (inl refl)
links_after (by_way o entries p x q l w h a) =
    let j : x < length entries = omega (arith, l, w) in
    let i : q < length entries = omega (arith, l, w, low a) in
    after_is o entries p q w i ∙ kept o entries q i (links o (history_of (take p entries)) (at o entries p w).event) p x l j (omega (arith, w)) (sym (links_is o entries p x w j) ∙ h) (inr (links_after a))

-- ---- one that is reached: itself, or one that it comes after

abbrev pub Reached : Order → List Entry → ℕ → ℕ → Type 0
Reached o entries p q = (p ≡ q) ⊎ (After o entries p q)

pub reached : (o : Order) (entries : List Entry) (p q : ℕ) → p < length entries → q < length entries → reaches o entries p q ≡ true → Reached o entries p q
reached o entries p q w i h =
    ⊎_elim (λ s. inl (eqb-true p q s)) (λ a. inr (after_links o entries p q w i a)) (or_cases (p == q) (is_after o entries p q) h)

pub reaches_so : (o : Order) (entries : List Entry) (p q : ℕ) → Reached o entries p q → reaches o entries p q ≡ true
reaches_so o entries p q (inl s) = or_left (p == q) _ (eq-eqb p q s)
reaches_so o entries p q (inr a) = or_right (p == q) _ (links_after a)

-- what is reached reaches on
pub reach_on : (o : Order) (entries : List Entry) (p x q : ℕ) → Reached o entries p x → Reached o entries x q → Reached o entries p q
reach_on o entries p x q (inl s) b = subst (λ y. Reached o entries y q) (sym s) b
reach_on o entries p x q (inr a) (inl s) = inr (subst (After o entries p) s a)
reach_on o entries p x q (inr a) (inr b) = inr (chain a b)

-- the first link of what comes after
pub first_link : {o : Order} {entries : List Entry} {p q : ℕ} → After o entries p q → (x : ℕ) × (x < p) × (links_at o entries p x ≡ true) × Reached o entries x q
first_link (direct o entries p q l w h) = (q, l, h, inl refl)
first_link (by_way o entries p x q l w h a) = (x, l, h, inr a)

pub linked_on : (o : Order) (entries : List Entry) (p x q : ℕ) → x < p → p < length entries → links_at o entries p x ≡ true → Reached o entries x q → After o entries p q
linked_on o entries p x q l w h (inl s) = subst (After o entries p) s (direct o entries p x l w h)
linked_on o entries p x q l w h (inr a) = by_way o entries p x q l w h a

-- whether an earlier step is reached, as it is tested
pub reach_tested : (o : Order) (entries : List Entry) (p q : ℕ) → q < p → p < length entries → (v u : Entry) → slice_get entries p ≡ Some v → slice_get entries q ≡ Some u → reaches o entries p q ≡ comes_after o (step_of (history_of (take q entries)) u.event) (history_of (take p entries)) v.event
reach_tested o entries p q l w v u v_is u_is =
    let i : q < length entries = omega (arith, l, w) in
    ap (λ b. b || is_after o entries p q) (ne_eqb p q (λ e. omega (arith, e, l)))
    ∙ after_is o entries p q w i
    ∙ ap₂ (λ (a b : Entry). comes_after o (step_of (history_of (take q entries)) b.event) (history_of (take p entries)) a.event) (some_same _ v (sym (at_read o entries p w) ∙ v_is)) (some_same _ u (sym (at_read o entries q i) ∙ u_is))
