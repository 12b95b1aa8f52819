-- The order of steps, by their indexes.
use Rattle.std.proofs.Common.{◌↔◌, IsTrue, IfOk, Result, Ok, Err, ◌≡◌, ◌<◌, ◌≤◌, ◌+◌, ℕ, suc, List, [], ◌∷◌, ◌++◌, Bool, true, false, ◌&&◌, ◌||◌, not, length, take, drop, refl, sym, ap, ◌∙◌, subst, arith, Some, get_or, slice_get, ⊎_elim, eqb-true}
use Rattle.std.proofs.lemmas.Bool.{or_cases, or_left, or_right, and_parts, and_from, and_right, false≢true, false_from_ne_true}
use Rattle.std.proofs.lemmas.List.{get_or-take, length-take, take-take, take-append-drop}
use Rattle.tb_model.specs.declared.event.Event.{Event}
use Rattle.tb_model.specs.declared.step_id.StepId.{StepId}
use Rattle.tb_model.specs.Equivalent.{Equivalent, stands, comes_first}
use Rattle.tb_model.specs.Facts.{History, is_of, own}
use Rattle.tb_model.specs.Names.{Name}
use Rattle.tb_model.specs.Needs.{needs, is_step, step_of}
use Rattle.tb_model.specs.Ordered.{all_first, ordered}
use Rattle.tb_model.proofs.FactsLemmas.{own_mine}
use Rattle.tb_laws.proofs.OrderedLemmas.{in_order, from_order}
use Rattle.tb_model.proofs.RemovalLemmas.{its_step, own_grows}
use Rattle.tb_steps.specs.Entries.{Entry}
use Rattle.tb_steps.specs.Scans.{history_of, step_at}
use Rattle.tb_steps.proofs.FirstLemmas.{some_same, step_read, there}
use Rattle.tb_steps.proofs.ScanLemmas.{history_of-append, history_cut, history_more}
use Rattle.tb_roll.specs.Comparing.{AreMatched, IsFoundIn}
use Rattle.tb_roll.proofs.MatchingLemmas.{all_oldest, both_oldest}

-- ---- steps that are there

step_bound : (i : StepId) (H : History) (v : Event) → is_step i H v ≡ true → i.k ≤ length (own i.task (v ∷ H))
step_bound i H v h =
    let o = and_parts (is_of i.task v) _ h in
    let k : i.k ≡ suc (length (own i.task H)) = eqb-true i.k _ o.1 in
    omega (arith, k, ap length (own_mine i.task v H o.0))

stands_bound : (i : StepId) (H : History) → stands i H ≡ true → i.k ≤ length (own i.task H)
stands_bound i [] h = absurd (false≢true h)
stands_bound i (v ∷ H) h =
    ⊎_elim (λ s. step_bound i H v s) (λ s. omega (arith, stands_bound i H s, own_grows i.task v H)) (or_cases (is_step i H v) (stands i H) h)

not_again : (i : StepId) (H : History) (v : Event) → stands i H ≡ true → is_step i H v ≡ true → ⊥
not_again i H v s h =
    let o = and_parts (is_of i.task v) _ h in
    let k : i.k ≡ suc (length (own i.task H)) = eqb-true i.k _ o.1 in
    omega (arith, k, stands_bound i H s)

stands_later : (i : StepId) (later front : History) → stands i front ≡ true → stands i (later ++ front) ≡ true
stands_later i [] front h = h
stands_later i (v ∷ later) front h = or_right (is_step i (later ++ front) v) _ (stands_later i later front h)

first_later : (j i : StepId) (later front : History) → comes_first j i front ≡ true → comes_first j i (later ++ front) ≡ true
first_later j i [] front h = h
first_later j i (v ∷ later) front h = or_right (is_step i (later ++ front) v && stands j (later ++ front)) _ (first_later j i later front h)

first_stands : (j i : StepId) (H : History) → comes_first j i H ≡ true → stands j H ≡ true
first_stands j i [] h = absurd (false≢true h)
first_stands j i (v ∷ H) h =
    or_right (is_step j H v) _ (⊎_elim (λ a. (and_parts (is_step i H v) (stands j H) a).1) (λ b. first_stands j i H b) (or_cases (is_step i H v && stands j H) _ h))

-- what comes first is in front
in_front : (j : StepId) (later : History) (w : Event) (F : History) → comes_first j (step_of F w) (later ++ w ∷ F) ≡ true → stands j F ≡ true
in_front j [] w F h =
    ⊎_elim (λ a. (and_parts (is_step (step_of F w) F w) (stands j F) a).1) (λ b. first_stands j (step_of F w) F b) (or_cases (is_step (step_of F w) F w && stands j F) _ h)
in_front j (v ∷ later) w F h =
    let i = step_of F w in
    let H = later ++ w ∷ F in
    ⊎_elim
    (λ a. absurd (not_again i H v (stands_later i later (w ∷ F) (or_left (is_step i F w) _ (its_step F w))) (and_parts (is_step i H v) (stands j H) a).0))
    (λ b. in_front j later w F b)
    (or_cases (is_step i H v && stands j H) _ h)

-- ---- by indexes

own_longer : (t : Name) (later front : History) → length (own t front) ≤ length (own t (later ++ front))
own_longer t [] front = omega arith
own_longer t (v ∷ later) front = omega (arith, own_longer t later front, own_grows t v (later ++ front))

front_shorter : (t : Name) (entries : List Entry) (p q : ℕ) → q ≤ p → length (own t (history_of (take q entries))) ≤ length (own t (history_of (take p entries)))
front_shorter t entries p q h =
    let cut : history_of (take p entries) ≡ history_of (drop q (take p entries)) ++ history_of (take q entries) =
    ap history_of (sym (take-append-drop q (take p entries))) ∙ history_of-append (take q (take p entries)) (drop q (take p entries))
    ∙ ap (λ (l : List Entry). history_of (drop q (take p entries)) ++ history_of l) (take-take q p entries h) in
    subst (λ H. length (own t (history_of (take q entries))) ≤ length (own t H)) (sym cut) (own_longer t (history_of (drop q (take p entries))) (history_of (take q entries)))

module _ (others : List Entry) (p q : ℕ) (j i : StepId) (inside : p < length others) (within : q < length others) (first : step_at others p ≡ Some j) (second : step_at others q ≡ Some i) where
  abbrev u : Entry
  u = (there others p inside).0

  abbrev w : Entry
  w = (there others q within).0

  abbrev F : History
  F = history_of (take q others)

  cut : history_of others ≡ history_of (drop (suc q) others) ++ w.event ∷ F
  cut = history_cut others q w within (there others q within).1

  its_j : step_of (history_of (take p others)) u.event ≡ j
  its_j = some_same _ _ (sym (step_read others p u inside (there others p inside).1) ∙ first)

  its_i : step_of F w.event ≡ i
  its_i = some_same _ _ (sym (step_read others q w within (there others q within).1) ∙ second)

  stands_in_front : p < q → stands j F ≡ true
  stands_in_front h =
      let front_cut : F ≡ history_of (drop (suc p) (take q others)) ++ u.event ∷ history_of (take p others) =
      history_cut (take q others) p u (omega (arith, length-take q others)) ((there others p inside).1 ∙ sym (get_or-take q others p u h))
      ∙ ap (λ (es : List Entry). history_of (drop (suc p) (take q others)) ++ u.event ∷ history_of es) (take-take p q others (omega (arith, h))) in
      let here : stands (step_of (history_of (take p others)) u.event) (u.event ∷ history_of (take p others)) ≡ true = or_left (is_step (step_of (history_of (take p others)) u.event) (history_of (take p others)) u.event) _ (its_step (history_of (take p others)) u.event) in
      subst (λ H. stands j H ≡ true) (sym front_cut)
      (stands_later j (history_of (drop (suc p) (take q others))) (u.event ∷ history_of (take p others)) (subst (λ s. stands s (u.event ∷ history_of (take p others)) ≡ true) its_j here))

  pub comes_first_by : p < q → comes_first j i (history_of others) ≡ true
  comes_first_by h =
      subst (λ H. comes_first j i H ≡ true) (sym cut)
      (first_later j i (history_of (drop (suc q) others)) (w.event ∷ F)
      (or_left (is_step i F w.event && stands j F) _ (and_from (is_step i F w.event) (stands j F) (subst (λ s. is_step s F w.event ≡ true) its_i (its_step F w.event)) (stands_in_front h))))

  pub comes_later_by : q ≤ p → comes_first j i (history_of others) ≡ false
  comes_later_by h = false_from_ne_true _ (λ e.
      let front = in_front j (history_of (drop (suc q) others)) w.event F (subst (λ s. comes_first j s (history_of (drop (suc q) others) ++ w.event ∷ F) ≡ true) (sym its_i) (subst (λ H. comes_first j i H ≡ true) cut e)) in
      let k : suc (length (own u.event.task (history_of (take p others)))) ≡ j.k = ap (λ (s : StepId). s.k) its_j in
      let task : u.event.task ≡ j.task = ap (λ (s : StepId). s.task) its_j in
      let n = subst (λ t. suc (length (own t (history_of (take p others)))) ≡ j.k) task k in
      omega (arith, stands_bound j F front, n, front_shorter j.task others p q h))

-- ---- the passes

holds_or : (a b : Bool) → (a ≡ true → b ≡ true) → (not a || b) ≡ true
holds_or true b f = f refl
holds_or false b f = refl

fails_or : (a b : Bool) → a ≡ true → b ≡ false → (not a || b) ≡ false
fails_or true b x y = y
fails_or false b x y = absurd (false≢true x)

-- what fails in front fails
first_fails : (H : History) (i : StepId) (F : History) (v : Event) (later K : History) → all_first H i F v K ≡ false → all_first H i F v (later ++ K) ≡ false
first_fails H i F v [] K h = h
first_fails H i F v (u ∷ later) K h = and_right _ _ (first_fails H i F v later K h)

order_fails : (H : History) (later G : History) → ordered H G ≡ false → ordered H (later ++ G) ≡ false
order_fails H [] G h = h
order_fails H (v ∷ later) G h = and_right _ _ (order_fails H later G h)

and_left_false : (a b : Bool) → a ≡ false → (a && b) ≡ false
and_left_false true b h = absurd (false≢true (sym h))
and_left_false false b h = refl

-- one stored step more, which is before the one that is asked
module _ (entries others : List Entry) (places : List ℕ) (matched : AreMatched entries places others) (later earlier p q : ℕ) (v : Event) (i : StepId) (e : Entry) (behind : earlier < later) (within : later < length entries) (here : e ≡ get_or entries earlier e) (its : slice_get places later ≡ Some p) (of_it : slice_get places earlier ≡ Some q) (step : step_at entries later ≡ Some i) where
  abbrev H : History
  H = history_of others

  abbrev front : History
  front = history_of (take later entries)

  abbrev K : History
  K = history_of (take earlier entries)

  abbrev j : StepId
  j = step_of K e.event

  j_at : step_at others q ≡ Some j
  j_at = (matched earlier q of_it).step ∙ step_read entries earlier e (omega (arith, behind, within)) here

  i_at : step_at others p ≡ Some i
  i_at = (matched later p its).step ∙ step

  more : history_of (take (earlier + 1) entries) ≡ e.event ∷ K
  more = history_more entries earlier e (omega (arith, behind, within)) here

  pub passes : (needs front v e.event ≡ true → q < p) → all_first H i front v K ≡ true → all_first H i front v (history_of (take (earlier + 1) entries)) ≡ true
  passes f so_far =
      ap (all_first H i front v) more
      ∙ and_from (not (needs front v e.event) || comes_first j i H) _
      (holds_or (needs front v e.event) (comes_first j i H) (λ n. comes_first_by others q p j i (matched earlier q of_it).within (matched later p its).within j_at i_at (f n)))
      so_far

  pub fails : needs front v e.event ≡ true → p ≤ q → all_first H i front v front ≡ false
  fails n h =
      let late : comes_first j i H ≡ false = comes_later_by others q p j i (matched earlier q of_it).within (matched later p its).within j_at i_at h in
      let rest = history_of (drop (suc earlier) (take later entries)) in
      let cut_front : front ≡ rest ++ e.event ∷ K =
      history_cut (take later entries) earlier e (omega (arith, length-take later entries, within, behind)) (here ∙ sym (get_or-take later entries earlier e behind))
      ∙ ap (λ (es : List Entry). rest ++ e.event ∷ history_of es) (take-take earlier later entries (omega (arith, behind))) in
      ap (all_first H i front v) cut_front
      ∙ first_fails H i front v rest (e.event ∷ K) (and_left_false (not (needs front v e.event) || comes_first j i H) _ (fails_or (needs front v e.event) (comes_first j i H) n late))

-- one stored step more of all
module _ (entries others : List Entry) (later : ℕ) (e : Entry) (within : later < length entries) (here : e ≡ get_or entries later e) where
  abbrev G : History
  G = history_of (take later entries)

  abbrev asked : Bool
  asked = all_first (history_of others) (step_of G e.event) G e.event G

  pub ordered_more : asked ≡ true → ordered (history_of others) G ≡ true → ordered (history_of others) (history_of (take (later + 1) entries)) ≡ true
  ordered_more a so_far = ap (ordered (history_of others)) (history_more entries later e within here) ∙ and_from asked _ a so_far

  pub ordered_no_more : asked ≡ false → ordered (history_of others) (history_of entries) ≡ false
  ordered_no_more a =
      ap (ordered (history_of others)) (history_cut entries later e within here)
      ∙ order_fails (history_of others) (history_of (drop (suc later) entries)) (e.event ∷ G) (and_left_false asked _ a)

-- ---- what is answered

pub found_in : (entries others : List Entry) (places : List ℕ) (r : Bool) → length places ≡ length entries → AreMatched entries places others → r ≡ ordered (history_of others) (history_of entries) → (r ≡ true → IsFoundIn (history_of entries) (history_of others)) × (IsFoundIn (history_of entries) (history_of others) → r ≡ true)
found_in entries others places r count matched is = (
  (λ h. record {
    acts = all_oldest entries others places count matched;
    order = in_order (history_of others) (history_of entries) (sym is ∙ h);
  }),
  (λ f. is ∙ from_order (history_of others) (history_of entries) f.order),
)

module _ (G H : History) where
  pub equivalent_by : IsFoundIn G H → IsFoundIn H G → Equivalent G H
  equivalent_by f g = record { acts = λ t. both_oldest (own t G) (own t H) (f.acts t) (g.acts t); there = f.order; back = g.order }

  pub there_by : Equivalent G H → IsFoundIn G H
  there_by e = record { acts = λ t. ([], sym (e.acts t)); order = e.there }

  pub back_by : Equivalent G H → IsFoundIn H G
  back_by e = record { acts = λ t. ([], e.acts t); order = e.back }

-- where the first is found in the second, the second decides
pub answered : {E : Type 0} (G H G' H' : History) → G ≡ G' → H ≡ H' → IsFoundIn G H → (r : Result Bool E) → IfOk r (λ b. IsTrue b ↔ IsFoundIn H G) → IfOk r (λ b. IsTrue b ↔ Equivalent G' H')
answered G H G' H' g h found (Ok b) told =
    subst (λ X. IsTrue b ↔ Equivalent X H') g
    (subst (λ Y. IsTrue b ↔ Equivalent G Y) h ((λ t. equivalent_by G H found (told.0 t)), (λ e. told.1 (back_by G H e))))
answered G H G' H' g h found (Err e) told = told
