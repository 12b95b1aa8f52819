-- Stored steps that are left out take none of the keys.
use Rattle.std.proofs.Common.{◌≡◌, ◌⊎◌, inl, inr, ⊎_elim, ◌<◌, ◌≤◌, ◌+◌, ◌-◌, ℕ, zero, suc, List, [], ◌∷◌, Bool, true, false, ◌&&◌, ◌||◌, not, Option, Some, None, length, take, get_or, slice_get, if◌then◌else◌, refl, sym, ap, ◌∙◌, subst, arith}
use Rattle.std.specs.List.{list_any}
use Rattle.std.proofs.lemmas.Bool.{or_cases, or_left, or_right, and_parts, both_ways, eq-eqb, false≢true}
use Rattle.tb_model.specs.declared.action.Action.{Action}
use Rattle.tb_model.specs.declared.action.Action.TheVariants.{Start, Let, Load, Store, Print, Spawn, Wait, Open, Close, Test, End, Fault}
use Rattle.tb_model.specs.declared.event.Event.{Event}
use Rattle.tb_model.specs.declared.item.Item.{Item as AnItem}
use Rattle.tb_model.specs.declared.kind.Kind.{Kind}
use Rattle.tb_model.specs.declared.place.Place.{Place}
use Rattle.tb_model.specs.declared.place.Place.TheVariants.{Cell, All}
use Rattle.tb_model.specs.declared.step_id.StepId.{StepId}
use Rattle.tb_model.specs.Names.{Name, same_name, parent, is_child, is_within}
use Rattle.tb_model.specs.Items.{has_no_items}
use Rattle.tb_model.specs.Facts.{History, own, groups, innermost, holds, is_end, is_of, is_print, is_store_to, touches}
use Rattle.tb_model.specs.Legal.{Legal}
use Rattle.tb_model.proofs.FactsLemmas.{AreChildren, first_children, group_children, held_child}
use Rattle.tb_model.proofs.TestLemmas.{any_weaker, same_refl, same_true}
use Rattle.tb_steps.specs.Entries.{Entry}
use Rattle.tb_core.specs.Lending.{IsNoneBetween}
use Rattle.tb_steps.specs.Scans.{AreLegal, history_of}
use Rattle.tb_cause.specs.Chains.{AreGivenAt, events_at}
use Rattle.tb_cause.specs.Indexes.{items_told}
use Rattle.tb_cause.specs.Keys.{Key, Task, Ended, Parent, Within, Item, Stored, Touched, Printed, held_by, held_any, action_any, wait_any, place_any, kind_any, item_any, items_any, kinds, kind_number, comes_behind, gives, takes_any}
use Rattle.tb_cause.specs.Skipping.{ArePassed, AreParentsPassed, AreTouchesPassed, HasNoItems, LeavesOut}
use Rattle.tb_cause.proofs.ConeLemmas.{Found, found_same}
use Rattle.tb_cause.proofs.KeyedLemmas.{legal_here, taken_is_needed}
use Rattle.tb_steps.proofs.FirstLemmas.{there}

-- ---- what is given together

-- an end is given as within itself, as that of a child within its parent, and a store as a touch
module _ (entries : List Entry) (places : List ℕ) (f : Key → Bool) (given : AreGivenAt entries places f) where
  abbrev I : Name → List AnItem
  I = items_told entries

  by_each : (k m : Key) → ((u : Event) → gives I u k ≡ true → gives I u m ≡ true) → f k ≡ true → f m ≡ true
  by_each k m each h = given m ∙ any_weaker (λ u. gives I u k) (λ u. gives I u m) each (events_at entries places) (sym (given k) ∙ h)

  pub ended_within : (s : Name) → f (Ended s) ≡ true → f (Within s) ≡ true
  ended_within s = by_each (Ended s) (Within s) each
    where
      itself : (t : Name) → same_name t s ≡ true → is_within s t ≡ true
      itself [] h = subst (λ u. is_within u [] ≡ true) (same_true [] s h) (same_refl [])
      itself (n ∷ t) h = or_left (same_name s (n ∷ t)) _ (subst (λ u. same_name u (n ∷ t) ≡ true) (same_true (n ∷ t) s h) (same_refl (n ∷ t)))

      each : (u : Event) → gives I u (Ended s) ≡ true → gives I u (Within s) ≡ true
      each u h = by (is_end u.action) h
        where
          by : (b : Bool) → (b && (same_name u.task s || false)) ≡ true → (b && (is_within s u.task || false)) ≡ true
          by false z = z
          by true z = or_left (is_within s u.task) false (itself u.task (⊎_elim (λ a. a) (λ b. absurd (false≢true b)) (or_cases (same_name u.task s) false z)))

  pub stored_touched : (c : ℕ) → f (Stored c) ≡ true → f (Touched c) ≡ true
  stored_touched c = by_each (Stored c) (Touched c) each
    where
      both : (a : Action) → is_store_to c a ≡ true → touches c a ≡ true
      both (Store d x) h = h
      both Start h = absurd (false≢true h)
      both (Let r x) h = absurd (false≢true h)
      both (Load r d x) h = absurd (false≢true h)
      both (Print x) h = absurd (false≢true h)
      both (Spawn s) h = absurd (false≢true h)
      both (Wait items) h = absurd (false≢true h)
      both Open h = absurd (false≢true h)
      both Close h = absurd (false≢true h)
      both (Test b) h = absurd (false≢true h)
      both End h = absurd (false≢true h)
      both Fault h = absurd (false≢true h)

      each : (u : Event) → gives I u (Stored c) ≡ true → gives I u (Touched c) ≡ true
      each u h =
          ⊎_elim (λ s. or_left (touches c u.action) _ (both u.action s)) (λ e. absurd (none (is_end u.action) e)) (or_cases (is_store_to c u.action) _ h)
        where
          none : (b : Bool) → (b && false) ≡ true → ⊥
          none false z = false≢true z
          none true z = false≢true z

  -- some end of a child of s is given
  pub record OfChild (s : Name) : Type 0 where
    pub child : Name
    pub is : is_child s child ≡ true
    pub within : f (Within child) ≡ true

  pub parent_child : (s : Name) → f (Parent s) ≡ true → OfChild s
  parent_child s h = at (events_at entries places) (λ u z. given_by u z) (sym (given (Parent s)) ∙ h)
    where
      at : (F : History) → ((u : Event) → list_any (λ v. gives I v (Within u.task)) F ≡ true → f (Within u.task) ≡ true) → list_any (λ u. gives I u (Parent s)) F ≡ true → OfChild s
      at [] up z = absurd (false≢true z)
      at (u ∷ F) up z =
          ⊎_elim (λ here. by (is_end u.action) refl here) (λ rest. at F (λ v y. up v (or_right (gives I u (Within v.task)) _ y)) rest) (or_cases (gives I u (Parent s)) _ z)
        where
          mine : (t : Name) → is_within t t ≡ true
          mine [] = same_refl []
          mine (n ∷ t) = or_left (same_name (n ∷ t) (n ∷ t)) _ (same_refl (n ∷ t))

          by : (b : Bool) → is_end u.action ≡ b → (b && (is_child s u.task || false)) ≡ true → OfChild s
          by false e y = absurd (false≢true y)
          by true e y = record {
            child = u.task;
            is = ⊎_elim (λ a. a) (λ b. absurd (false≢true b)) (or_cases (is_child s u.task) false y);
            within = up u (or_left (gives I u (Within u.task)) _ (ap (λ b. b && (is_within u.task u.task || false)) e ∙ or_left (is_within u.task u.task) false (mine u.task)));
          }

      given_by : (u : Event) → list_any (λ v. gives I v (Within u.task)) (events_at entries places) ≡ true → f (Within u.task) ≡ true
      given_by u z = given (Within u.task) ∙ z

-- ---- one of the first so many

any_at : {A : Type 0} (test : A → Bool) (xs : List A) (n : ℕ) (x : A) → slice_get xs n ≡ Some x → list_any test (take (suc n) xs) ≡ true → (list_any test (take n xs) ≡ true) ⊎ (test x ≡ true)
any_at test [] n x i z = absurd (false≢true z)
any_at {A} test (y ∷ ys) zero x i z = inr (⊎_elim (λ t. ap test (sym (same i)) ∙ t) (λ r. absurd (false≢true r)) (or_cases (test y) false z))
  where
    same : ◌≡◌ {A = Option A} (Some y) (Some x) → y ≡ x
    same g = cc
any_at test (y ∷ ys) (suc n) x i z =
    ⊎_elim (λ t. inl (or_left (test y) _ t)) (λ r. ⊎_elim (λ l. inl (or_right (test y) _ l)) (λ l. inr l) (any_at test ys n x i r)) (or_cases (test y) _ z)

pub any_next : {A : Type 0} (test : A → Bool) (xs : List A) (n : ℕ) (x : A) → slice_get xs n ≡ Some x → list_any test (take (n + 1) xs) ≡ true → (list_any test (take n xs) ≡ true) ⊎ (test x ≡ true)
any_next test xs n x here h =
    let same : n + 1 ≡ suc n = omega arith in
    any_at test xs n x here (subst (λ k. list_any test (take k xs) ≡ true) same h)

-- nothing is passed where the next is no later
pub fewer : (test : Event → Bool) (entries : List Entry) (from next to : ℕ) → to ≤ next → IsNoneBetween test entries from next → IsNoneBetween test entries from to
fewer test entries from next to less none k e low high here = none k e low (omega (arith, high, less)) here

-- ---- no keys of items

module _ (f : Key → Bool) (none : HasNoItems f) where
  no_place : (p : Name) (i : Place) (m : ℕ) → place_any f p i m ≡ false
  no_place p (Cell c) m = ap (λ b. b || f (Item p (m + 2) 0)) (none p m c) ∙ none p (m + 2) 0
  no_place p All m = ap (λ b. b || f (Item p (m + 2) 0)) (none p (m + 1) 0) ∙ none p (m + 2) 0

  no_item : (p : Name) (starts : Bool) (i : AnItem) (ks : List Kind) → list_any (kind_any f p starts i) ks ≡ false
  no_item p starts i [] = refl
  no_item p starts i (k ∷ ks) =
      ap (λ b. (comes_behind starts i.kind k && b) || list_any (kind_any f p starts i) ks) (no_place p i.place (kind_number k)) ∙ neither (comes_behind starts i.kind k) (no_item p starts i ks)
    where
      neither : (b : Bool) {c : Bool} → c ≡ false → ((b && false) || c) ≡ false
      neither true h = h
      neither false h = h

  none_of : (p : Name) (starts : Bool) (items : List AnItem) → list_any (item_any f p starts) items ≡ false
  none_of p starts [] = refl
  none_of p starts (i ∷ items) = ap (λ b. b || list_any (item_any f p starts) items) (no_item p starts i kinds) ∙ none_of p starts items

  pub no_items_taken : (I : Name → List AnItem) (t : Name) (a : Action) → items_any f I t a ≡ false
  no_items_taken I [] Start = refl
  no_items_taken I (n ∷ p) Start = none_of p true (I (n ∷ p))
  no_items_taken I [] (Wait items) = none_of [] false items
  no_items_taken I (n ∷ p) (Wait items) = none_of (n ∷ p) false items
  no_items_taken I [] (Let r x) = refl
  no_items_taken I (n ∷ p) (Let r x) = refl
  no_items_taken I [] (Load r c x) = refl
  no_items_taken I (n ∷ p) (Load r c x) = refl
  no_items_taken I [] (Store c x) = refl
  no_items_taken I (n ∷ p) (Store c x) = refl
  no_items_taken I [] (Print x) = refl
  no_items_taken I (n ∷ p) (Print x) = refl
  no_items_taken I [] (Spawn s) = refl
  no_items_taken I (n ∷ p) (Spawn s) = refl
  no_items_taken I [] Open = refl
  no_items_taken I (n ∷ p) Open = refl
  no_items_taken I [] Close = refl
  no_items_taken I (n ∷ p) Close = refl
  no_items_taken I [] (Test b) = refl
  no_items_taken I (n ∷ p) (Test b) = refl
  no_items_taken I [] End = refl
  no_items_taken I (n ∷ p) End = refl
  no_items_taken I [] Fault = refl
  no_items_taken I (n ∷ p) Fault = refl

-- ---- a stored step that is left out

module _ (entries : List Entry) (legal : AreLegal entries) (places : List ℕ) (f : Key → Bool) (given : AreGivenAt entries places f) (bare : HasNoItems f) (k : ℕ) (e : Entry) (within : k < length entries) (here : e ≡ get_or entries k e)
    (task : (t : Name) → f (Task t) ≡ true → is_of t e.event ≡ false) (parent : (p u : Name) → f (Within u) ≡ true → is_child p u ≡ true → is_of p e.event ≡ false)
    (touch : (c : ℕ) → f (Touched c) ≡ true → touches c e.event.action ≡ false) (print : f Printed ≡ true → is_print e.event.action ≡ false) where
  abbrev H : History
  H = history_of (take k entries)

  abbrev t : Name
  t = e.event.task

  front : Legal legal.cells H
  front = (legal_here entries k e within here legal).0

  mine : is_of t e.event ≡ true
  mine = same_refl t

  no_child : (u : Name) → f (Within u) ≡ true → is_child t u ≡ true → ⊥
  no_child u w c = both_ways (is_of t e.event) (parent t u w c) mine

  not_held : (acts : List Action) → acts ≡ own t H → held_any f (held_by acts) ≡ true → ⊥
  not_held [] is h = false≢true h
  not_held (Spawn s ∷ acts) is h = by s.deferred refl h
    where
      by : (b : Bool) → s.deferred ≡ b → held_any f (if b then None else Some s.child) ≡ true → ⊥
      by true d z = false≢true z
      by false d z =
          let held : holds (own t H) s.child ≡ true = ap (λ acs. holds acs s.child) (sym is) ∙ ap (λ b. not b && same_name s.child s.child) d ∙ same_refl s.child in
          no_child s.child (ended_within entries places f given s.child z) (held_child legal.cells H t s.child front held).0
  not_held (Start ∷ acts) is h = false≢true h
  not_held (Let r x ∷ acts) is h = false≢true h
  not_held (Load r c x ∷ acts) is h = false≢true h
  not_held (Store c x ∷ acts) is h = false≢true h
  not_held (Print x ∷ acts) is h = false≢true h
  not_held (Wait items ∷ acts) is h = false≢true h
  not_held (Open ∷ acts) is h = false≢true h
  not_held (Close ∷ acts) is h = false≢true h
  not_held (Test b ∷ acts) is h = false≢true h
  not_held (End ∷ acts) is h = false≢true h
  not_held (Fault ∷ acts) is h = false≢true h

  not_touched : (c : ℕ) (a : Action) → a ≡ e.event.action → touches c a ≡ true → f (Touched c) ≡ true → ⊥
  not_touched c a is h z = both_ways (touches c e.event.action) (touch c z) (ap (touches c) (sym is) ∙ h)

  not_by_action : (a : Action) → a ≡ e.event.action → action_any f a ≡ true → ⊥
  not_by_action (Load r c x) is h = not_touched c (Load r c x) is (eq-eqb c c refl) (stored_touched entries places f given c h)
  not_by_action (Store c x) is h = not_touched c (Store c x) is (eq-eqb c c refl) h
  not_by_action (Print x) is h = both_ways (is_print e.event.action) (print h) (ap is_print (sym is))
  not_by_action Start is h = false≢true h
  not_by_action (Let r x) is h = false≢true h
  not_by_action (Spawn s) is h = false≢true h
  not_by_action (Wait items) is h = false≢true h
  not_by_action Open is h = false≢true h
  not_by_action Close is h = false≢true h
  not_by_action (Test b) is h = false≢true h
  not_by_action End is h = false≢true h
  not_by_action Fault is h = false≢true h

  none_among : (us : List Name) → AreChildren t us → list_any (λ c. f (Within c)) us ≡ true → ⊥
  none_among [] g h = false≢true h
  none_among (u ∷ us) g h = ⊎_elim (λ w. no_child u w g.0) (λ r. none_among us g.1 r) (or_cases (f (Within u)) _ h)

  not_by_wait : (a : Action) → wait_any f H t a ≡ true → ⊥
  not_by_wait (Wait items) h =
      let o = parent_child entries places f given t (and_parts (has_no_items items) (f (Parent t)) h).1 in
      no_child o.child o.within o.is
  not_by_wait Close h = none_among (innermost (groups (own t H))) (first_children t _ (group_children legal.cells H t front)) h
  not_by_wait Start h = false≢true h
  not_by_wait (Let r x) h = false≢true h
  not_by_wait (Load r c x) h = false≢true h
  not_by_wait (Store c x) h = false≢true h
  not_by_wait (Print x) h = false≢true h
  not_by_wait (Spawn s) h = false≢true h
  not_by_wait Open h = false≢true h
  not_by_wait (Test b) h = false≢true h
  not_by_wait End h = false≢true h
  not_by_wait Fault h = false≢true h

  pub takes_none : takes_any f (items_told entries) H e.event ≡ false
  takes_none = by (takes_any f (items_told entries) H e.event) refl
    where
      taken : takes_any f (items_told entries) H e.event ≡ true → ⊥
      taken h =
          ⊎_elim (λ x. both_ways (is_of t e.event) (task t x) mine)
          (λ i. ⊎_elim (not_held (own t H) refl)
          (λ j. ⊎_elim (not_by_action e.event.action refl)
          (λ m. ⊎_elim (not_by_wait e.event.action) (λ n. both_ways (items_any f (items_told entries) t e.event.action) (no_items_taken f bare (items_told entries) t e.event.action) n)
          (or_cases (wait_any f H t e.event.action) _ m))
          (or_cases (action_any f e.event.action) _ j))
          (or_cases (held_any f (held_by (own t H))) _ i))
          (or_cases (f (Task t)) _ h)

      by : (b : Bool) → takes_any f (items_told entries) H e.event ≡ b → takes_any f (items_told entries) H e.event ≡ false
      by false z = z
      by true z = absurd (taken z)

-- ---- where a pass goes on

-- the parent of a task is the one that it is a child of
pub one_parent : (t u p q : Name) → parent t ≡ Some q → same_name t u ≡ true → is_child p u ≡ true → q ≡ p
one_parent t u p q is same child = at t is (subst (λ v. is_child p v ≡ true) (sym (same_true t u same)) child)
  where
    at : (t : Name) → parent t ≡ Some q → is_child p t ≡ true → q ≡ p
    at [] i c = absurd (false≢true c)
    at (n ∷ r) i c = sym (inside i) ∙ same_true r p c
      where
        inside : Some r ≡ Some q → r ≡ q
        inside g = cc

module _ (entries : List Entry) (legal : AreLegal entries) (places : List ℕ) (f : Key → Bool) (given : AreGivenAt entries places f) (bare : HasNoItems f) (from a b c : ℕ) (tasks : ArePassed (λ t. f (Task t)) entries from (length entries) a)
    (parents : AreParentsPassed (λ u. f (Within u)) entries from a b) (touched : AreTouchesPassed (λ d. f (Touched d)) entries from b c) where
  pub left_out : (next : ℕ) → from ≤ next → next ≤ c → (f Printed ≡ true → IsNoneBetween (λ v. is_print v.action) entries from next) → LeavesOut f entries from next
  left_out next low high printed = record {
    low = low;
    high = omega (arith, high, touched.high, parents.high, tasks.high);
    none = λ k e l h here.
        takes_none entries legal places f given bare k e (omega (arith, h, high, touched.high, parents.high, tasks.high)) here
        (λ t x. tasks.none t x k e l (omega (arith, h, high, touched.high, parents.high)) here) (λ p u x i. parents.none p u x i k e l (omega (arith, h, high, touched.high)) here)
        (λ d x. touched.none d x k e l (omega (arith, h, high)) here) (λ x. printed x k e l h here);
  }

-- what asks for no key isn't found
module _ (e : StepId) (entries : List Entry) (legal : AreLegal entries) (places : List ℕ) (f : Key → Bool) (given : AreGivenAt entries places f) where
  found_on : (later k : ℕ) → later + k ≤ length entries → ((j : ℕ) (w : Entry) → later ≤ j → j < later + k → w ≡ get_or entries j w → takes_any f (items_told entries) (history_of (take j entries)) w.event ≡ false)
      → Found e entries later places → Found e entries (later + k) places
  found_on later zero within none found = subst (λ n. Found e entries n places) (omega arith) found
  found_on later (suc k) within none found =
      let at : later + k < length entries = omega (arith, within) in
      let w = there entries (later + k) at in
      let so_far = found_on later k (omega (arith, within)) (λ j x low high here. none j x low (omega (arith, high)) here) found in
      let free = none (later + k) w.0 (omega arith) (omega arith) w.1 in
      let needed = taken_is_needed entries (later + k) w.0 at w.1 legal e places so_far f given false (sym free) in
      subst (λ n. Found e entries n places) (omega arith) (found_same e entries (later + k) places w.0 at w.1 so_far needed places refl)

  pub found_upto : (later next : ℕ) → LeavesOut f entries later next → Found e entries later places → Found e entries next places
  found_upto later next out found =
      let k = next - later in
      let same : later + k ≡ next = omega (arith, out.low) in
      subst (λ n. Found e entries n places) same (found_on later k (omega (arith, same, out.high)) (λ j w low high here. out.none j w low (omega (arith, same, high)) here) found)
