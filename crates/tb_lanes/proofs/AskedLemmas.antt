-- Each end to which a step is linked is one about which it is asked.
use Rattle.std.proofs.Common.{◌≡◌, ◌≢◌, ◌==◌, ◌<◌, ℕ, zero, suc, List, [], ◌∷◌, Bool, true, false, ◌||◌, ◌&&◌, cond, length, take, refl, sym, ap, ap₂, ◌∙◌, subst, arith, Option, Some, None, Result, Ok, Err, OnOk, ◌⊎◌, inl, inr, ⊎_elim, eqb-true, eq-eqb, ne_eqb, slice_get, nat_lt, get_or}
use Rattle.std.specs.List.{list_any}
use Rattle.std.specs.Option.{option_or}
use Rattle.std.proofs.lemmas.Bool.{or_cases, or_left, or_right, and_parts, and_from, false≢true, false_from_ne_true, cases_eq}
use Rattle.tb_model.specs.declared.action.Action.{Action}
use Rattle.tb_model.specs.declared.action.Action.TheVariants.{Start, Wait, Close}
use Rattle.tb_model.specs.declared.event.Event.{Event}
use Rattle.tb_model.specs.declared.item.Item.{Item}
use Rattle.tb_model.specs.declared.kind.Kind.{Kind}
use Rattle.tb_model.specs.declared.kind.Kind.TheVariants.{In, Out, Inout, Mutexinoutset, Inoutset}
use Rattle.tb_model.specs.declared.place.Place.{Place}
use Rattle.tb_model.specs.declared.place.Place.TheVariants.{Cell, All}
use Rattle.tb_model.specs.Names.{Name, is_child, is_elder, same_name}
use Rattle.tb_model.specs.Facts.{History, apart, before, covers, holds, is_of, is_start, items_of, own, spawns}
use Rattle.tb_model.specs.Items.{has_no_items, is_apart, is_before, meets, relation, same_place, some_meet}
use Rattle.tb_model.specs.Legal.{Continues}
use Rattle.tb_model.proofs.FactsLemmas.{spawn_names}
use Rattle.tb_model.proofs.TestLemmas.{same_true, same_refl}
use Rattle.tb_steps.specs.Entries.{Entry}
use Rattle.tb_steps.specs.Scans.{AreLegal}
use Rattle.tb_steps.proofs.NeedsLemmas.{held_within}
use Rattle.tb_steps.proofs.FirstLemmas.{front_legal}
use Rattle.tb_races.specs.declared.need_kind.NeedKind.{NeedKind}
use Rattle.tb_races.specs.declared.need_kind.NeedKind.TheVariants.{Before, Apart, Wait as Waits, Undeferred}
use Rattle.tb_races.specs.Kinds.{some_if, wait_kind, end_kind}
use Rattle.tb_races.specs.Orders.{Order, Synchronised, counts_some}
use Rattle.tb_lanes.specs.declared.ends.Ends.{Ends}
use Rattle.tb_lanes.specs.declared.tasks.Tasks.{Tasks}
use Rattle.tb_lanes.specs.Clocks.{AreRow, AreTasks, IsEnd, both_at, end_at, generates, is_end_at, links_at, number, of_one, origin}
use Rattle.tb_lanes.specs.Linking.{order_of}
use Rattle.tb_lanes.specs.Rows.{IsAsked, IsNoted, asks, item_key, items_at, items_so, may_meet, parent, some_may_meet, starts_at, starts_so, waits_at, waits_so}
use Rattle.tb_lanes.proofs.AfterLemmas.{at, at_is, at_read, links_is}
use Rattle.tb_lanes.proofs.LinkLemmas.{both_is, end_is, end_links}
use Rattle.tb_lanes.proofs.OwnLemmas.{H, ev, items_none_at, items_some_at, legal_here, rootless}

-- ---- lists and answers

pub on_ok_map : {A E : Type 0} (r : Result A E) (P Q : Type 0) → (P → Q) → OnOk r P → OnOk r Q
on_ok_map (Ok x) P Q f h = f h
on_ok_map (Err e) P Q f h = tt

pub on_ok_both : {A E : Type 0} (r : Result A E) (P Q R : Type 0) → (P → Q → R) → OnOk r P → OnOk r Q → OnOk r R
on_ok_both (Ok x) P Q R f h g = f h g
on_ok_both (Err e) P Q R f h g = tt

-- one that passes has an index
pub any_at : {A : Type 0} (p : A → Bool) (xs : List A) → list_any p xs ≡ true → (i : ℕ) × (x : A) × (i < length xs) × (slice_get xs i ≡ Some x) × (p x ≡ true)
any_at p [] h = absurd (false≢true h)
any_at p (x ∷ xs) h =
    ⊎_elim (λ a. (0, x, omega arith, refl, a)) (λ a. let r = any_at p xs a in (suc r.0, r.1, omega (arith, r.2), r.3, r.4))
    (or_cases (p x) (list_any p xs) h)

pub any_some : {A : Type 0} (p : A → Bool) (xs : List A) (i : ℕ) (x : A) → slice_get xs i ≡ Some x → p x ≡ true → list_any p xs ≡ true
any_some p [] i x e h = absurd (none e)
  where
    none : None ≡ Some x → ⊥
    none e = cc
any_some p (y ∷ xs) zero x e h = or_left (p y) _ (ap p (same e) ∙ h)
  where
    same : Some y ≡ Some x → y ≡ x
    same e = cc
any_some p (y ∷ xs) (suc i) x e h = or_right (p y) _ (any_some p xs i x e h)

got_low : {A : Type 0} (xs : List A) (i : ℕ) (x : A) → slice_get xs i ≡ Some x → i < length xs
got_low [] i x e = absurd (none e)
  where
    none : None ≡ Some x → ⊥
    none e = cc
got_low (y ∷ xs) zero x e = omega arith
got_low (y ∷ xs) (suc i) x e = omega (arith, got_low xs i x e)

pub got_is : {A : Type 0} (xs : List A) (i : ℕ) (x d : A) → slice_get xs i ≡ Some x → get_or xs i d ≡ x
got_is [] i x d e = absurd (none e)
  where
    none : None ≡ Some x → ⊥
    none e = cc
got_is (y ∷ xs) zero x d e = same e
  where
    same : Some y ≡ Some x → y ≡ x
    same e = cc
got_is (y ∷ xs) (suc i) x d e = got_is xs i x d e

-- a list that isn't empty
pub some_items : (items : List Item) (empty : Bool) → empty ≡ (length items == 0) → empty ≡ false → has_no_items items ≡ false
some_items [] empty is h = absurd (false≢true (sym h ∙ is))
some_items (i ∷ items) empty is h = refl

-- ---- rows

-- what is said of each end of the row is said of all that are meant
pub row_told : (o : Order) (entries : List Entry) (P : ℕ → Type 0) (ends : Ends) → AreRow o entries P ends → (Link Told : ℕ → Type 0) → ((i : ℕ) → i < length ends.places.items → Link (end_at ends i) → Told (end_at ends i)) → (x : ℕ) → P x → Link x → Told x
row_told o entries P ends row Link Told told x p link =
    let f = row.all x p in
    subst Told f.2 (told f.0 f.1 (subst Link (sym f.2) link))

-- an item of the kind at the cell, or at all memory, has the key of the one or of the other
pub noted_item : (o : Order) (entries : List Entry) (tasks : Tasks) (p g x i : ℕ) (j : Item) (kind : Kind) (c : ℕ) → IsAsked o entries tasks p g x → slice_get (items_at entries x) i ≡ Some j → kind ≡ j.kind → same_place (Cell c) j.place ≡ true
    → IsNoted entries tasks p (item_key g kind (Cell c)) x ⊎ IsNoted entries tasks p (item_key g kind All) x
noted_item o entries tasks p g x i j kind c asked got is place = by j.place refl place
  where
    noted : (q : Place) → item_key g kind q ≡ item_key (parent tasks x) j.kind j.place → IsNoted entries tasks p (item_key g kind q) x
    noted q e = (asked.end, inr (i, j, got_low (items_at entries x) i j got, got, e))

    by : (q : Place) → j.place ≡ q → same_place (Cell c) q ≡ true → IsNoted entries tasks p (item_key g kind (Cell c)) x ⊎ IsNoted entries tasks p (item_key g kind All) x
    by (Cell d) e h = inl (noted (Cell c) (ap₂ (λ m k. item_key m k (Cell c)) (sym asked.child) is ∙ ap (item_key (parent tasks x) j.kind) (ap Cell (eqb-true c d h) ∙ sym e)))
    by All e h = inr (noted All (ap₂ (λ m k. item_key m k All) (sym asked.child) is ∙ ap (item_key (parent tasks x) j.kind) (sym e)))

pub the_kind : (r : Option Kind) (a b : Kind) → r ≡ Some a → r ≡ Some b → a ≡ b
the_kind r a b e f = same (sym e ∙ f)
  where
    same : Some a ≡ Some b → a ≡ b
    same e = cc

pub kind_some : (r : Option Kind) (b : Bool) (a : Kind) → r ≡ cond b (Some a) None → b ≡ true → r ≡ Some a
kind_some r b a e h = e ∙ ap (λ c. cond c (Some a) None) h

-- each kind is asked for where the item may meet it
pub item_told : (exclusion : Bool) (entries : List Entry) (x : ℕ) (item : Item) (cell : ℕ) (Told : Type 0) → item.place ≡ Cell cell → list_any (may_meet exclusion item) (items_at entries x) ≡ true
    → ((kind : Kind) (i : ℕ) (j : Item) → asks exclusion item.kind kind ≡ true → slice_get (items_at entries x) i ≡ Some j → j.kind ≡ kind → same_place (Cell cell) j.place ≡ true → Told) → Told
item_told exclusion entries x item cell Told place h told =
    let r = any_at (may_meet exclusion item) (items_at entries x) h in
    let b = and_parts (same_place item.place r.1.place) (asks exclusion item.kind r.1.kind) r.4 in
    told r.1.kind r.0 r.1 b.1 r.3 refl (subst (λ q. same_place q r.1.place ≡ true) place b.0)

-- at all memory, any item may be met
pub all_place : (p q : Place) → p ≡ All → same_place p q ≡ true
all_place p q e = ap (λ r. same_place r q) e

-- a fact for each kind
pub each_kind : (P : Kind → Type 0) → P In → P Out → P Inout → P Mutexinoutset → P Inoutset → (k : Kind) → P k
each_kind P a b c d e In = a
each_kind P a b c d e Out = b
each_kind P a b c d e Inout = c
each_kind P a b c d e Mutexinoutset = d
each_kind P a b c d e Inoutset = e

-- ---- names

elder_names : (u t : Name) → is_elder u t ≡ true → (m : ℕ) × (n : ℕ) × (s : Name) × (u ≡ m ∷ s) × (t ≡ n ∷ s)
elder_names [] t h = absurd (false≢true h)
elder_names (m ∷ u) [] h = absurd (false≢true h)
elder_names (m ∷ u) (n ∷ t) h = let b = and_parts (nat_lt m n) (same_name u t) h in (m, n, t, ap (λ s. m ∷ s) (same_true u t b.1), refl)

child_names : (t u : Name) → is_child t u ≡ true → (m : ℕ) × (u ≡ m ∷ t)
child_names t [] h = absurd (false≢true h)
child_names t (m ∷ u) h = (m, ap (λ s. m ∷ s) (same_true u t h))

-- ---- who generates a task

module _ (entries : List Entry) (tasks : Tasks) (are : AreTasks entries tasks) (legal : AreLegal entries) where
  -- the step that generates the task of the one at p
  maker : (p : ℕ) (w : p < length entries) (n : ℕ) (s : Name) → (ev entries p w).task ≡ n ∷ s → (a : ℕ) × (origin tasks p ≡ suc a) × ((i : a < length entries) × ((ev entries a i).task ≡ s))
  maker p w n s is = by (are.origins p w)
    where
      no_cons : {k : ℕ} {t : Name} → ◌≡◌ {A = Name} [] (k ∷ t) → ⊥
      no_cons e = cc

      tail : {k l : ℕ} {a b : Name} → ◌≡◌ {A = Name} (k ∷ a) (l ∷ b) → a ≡ b
      tail e = cc

      by : ((origin tasks p ≡ 0) × ((x : ℕ) → x < p → both_at generates entries p x ≡ true → ⊥)) ⊎ ((u : ℕ) × (origin tasks p ≡ suc u) × (u < p) × (both_at generates entries p u ≡ true)) → (a : ℕ) × (origin tasks p ≡ suc a) × ((i : a < length entries) × ((ev entries a i).task ≡ s))
      by (inl z) = absurd (no_cons (sym (rootless entries tasks are p w legal z.1) ∙ is))
      by (inr b) =
          let i : b.0 < length entries = omega (arith, b.2, w) in
          let y = ev entries b.0 i in
          let made : spawns (ev entries p w).task y ≡ true = sym (both_is Synchronised entries p b.0 w i generates) ∙ b.3 in
          (b.0, b.1, (i, tail (sym (spawn_names legal.cells y.task (ev entries p w).task (own y.task (H entries b.0)) y.action (legal_here entries legal b.0 i).1.own made) ∙ is)))

  same_number : (a b : ℕ) (i : a < length entries) (j : b < length entries) → (ev entries a i).task ≡ (ev entries b j).task → number tasks a ≡ number tasks b
  same_number a b i j e =
      eqb-true (number tasks a) (number tasks b)
      (are.same a b i j ∙ both_is Synchronised entries a b i j of_one ∙ subst (λ t. same_name (ev entries b j).task t ≡ true) (sym e) (same_refl (ev entries b j).task))

  parent_is : (p : ℕ) (w : p < length entries) (n : ℕ) (s : Name) → (ev entries p w).task ≡ n ∷ s → (q : ℕ) (i : q < length entries) → (ev entries q i).task ≡ s → parent tasks p ≡ number tasks q
  parent_is p w n s is q i named =
      let a = maker p w n s is in
      ap (number tasks) (omega (arith, a.1)) ∙ same_number a.0 q a.2.0 i (a.2.1 ∙ sym named)

  pub siblings_parent : (p x : ℕ) (w : p < length entries) (i : x < length entries) → is_elder (ev entries x i).task (ev entries p w).task ≡ true ⊎ is_elder (ev entries p w).task (ev entries x i).task ≡ true → parent tasks x ≡ parent tasks p
  siblings_parent p x w i h = ⊎_elim (λ a. let r = elder_names _ _ a in by r.0 r.1 r.2 r.3 r.4) (λ a. let r = elder_names _ _ a in by r.1 r.0 r.2 r.4 r.3) h
    where
      by : (m n : ℕ) (s : Name) → (ev entries x i).task ≡ m ∷ s → (ev entries p w).task ≡ n ∷ s → parent tasks x ≡ parent tasks p
      by m n s e f = let a = maker p w n s f in parent_is x i m s e a.0 a.2.0 a.2.1 ∙ sym (parent_is p w n s f a.0 a.2.0 a.2.1)

  pub child_parent : (p x : ℕ) (w : p < length entries) (i : x < length entries) → is_child (ev entries p w).task (ev entries x i).task ≡ true → parent tasks x ≡ number tasks p
  child_parent p x w i h = let r = child_names _ _ h in parent_is x i r.0 (ev entries p w).task r.1 p w refl

  -- ---- depend items stay

  pub items_stay : (x n : ℕ) (i : x < length entries) → x < n → n < length entries → items_of (ev entries x i).task (H entries n) ≡ items_at entries x
  items_stay x n i l m =
      by (are.origins x i) ∙ sym (ap (items_so (H entries x)) (at_read Synchronised entries x i))
    where
      by : ((origin tasks x ≡ 0) × ((y : ℕ) → y < x → both_at generates entries x y ≡ true → ⊥)) ⊎ ((u : ℕ) × (origin tasks x ≡ suc u) × (u < x) × (both_at generates entries x u ≡ true)) → items_of (ev entries x i).task (H entries n) ≡ items_of (ev entries x i).task (H entries x)
      by (inl z) = items_none_at entries tasks are x i legal n m z.0 ∙ sym (items_none_at entries tasks are x i legal x i z.0)
      by (inr b) =
          let iu : b.0 < length entries = omega (arith, b.2, i) in
          items_some_at entries tasks are x i legal n b.0 (omega (arith, l)) m iu b.1 ∙ sym (items_some_at entries tasks are x i legal x b.0 (omega arith) i iu b.1)

-- ---- why it waits

-- other actions wait for none
pub other_waits : (G : History) (t u : Name) (a : Action) → (a ≡ Start → ⊥) → ((items : List Item) → a ≡ Wait items → ⊥) → (a ≡ Close → ⊥) → wait_kind G t a u ≡ None
other_waits G t u Start f g h = absurd (f refl)
other_waits G t u (Wait items) f g h = absurd (g items refl)
other_waits G t u Close f g h = absurd (h refl)
other_waits G t u _ f g h = refl

module _ (o : Order) (entries : List Entry) (p x : ℕ) (w : p < length entries) (i : x < length entries) where
  abbrev one : Event
  one = ev entries p w

  abbrev other : Event
  other = ev entries x i

  pub waits_is : waits_at o entries p x ≡ counts_some o (wait_kind (H entries p) one.task one.action other.task)
  waits_is = ap₂ (waits_so o (H entries p)) (at_read Synchronised entries p w) (at_read Synchronised entries x i)

  -- either it waits by its action, or it was at an undeferred child
  pub link_parts : is_end_at entries x ≡ true → links_at o entries p x ≡ true → (both_at of_one entries p x ≡ true) ⊎ ((waits_at o entries p x ≡ true) ⊎ (holds (own one.task (H entries p)) other.task ≡ true))
  link_parts over h = by (or_cases (is_of one.task other) _ parts)
    where
      parts : (is_of one.task other || counts_some o (end_kind (H entries p) one.task one.action other.task)) ≡ true
      parts = sym (links_is o entries p x w i ∙ end_links o (H entries p) one other (sym (end_is o entries p x w i) ∙ over)) ∙ h

      either : (k : Option NeedKind) (b : Bool) → counts_some o (option_or k (some_if b Undeferred)) ≡ true → (counts_some o k ≡ true) ⊎ (b ≡ true)
      either (Some k) b h = inl h
      either None true h = inr refl
      either None false h = absurd (false≢true h)

      by : (is_of one.task other ≡ true) ⊎ (counts_some o (end_kind (H entries p) one.task one.action other.task) ≡ true) → (both_at of_one entries p x ≡ true) ⊎ ((waits_at o entries p x ≡ true) ⊎ (holds (own one.task (H entries p)) other.task ≡ true))
      by (inl a) = inl (both_is Synchronised entries p x w i of_one ∙ a)
      by (inr a) = inr (⊎_elim (λ b. inl (waits_is ∙ b)) (λ b. inr b) (either (wait_kind (H entries p) one.task one.action other.task) (holds (own one.task (H entries p)) other.task) a))

module _ (exclusion : Bool) (entries : List Entry) (tasks : Tasks) (are : AreTasks entries tasks) (legal : AreLegal entries) (p x : ℕ) (w : p < length entries) (end : IsEnd entries p x) where
  abbrev o : Order
  o = order_of exclusion

  abbrev i : x < length entries
  i = omega (arith, end.0, w)

  abbrev v : Event
  v = ev entries p w

  abbrev u : Event
  u = ev entries x i

  awaits : waits_at o entries p x ≡ counts_some o (wait_kind (H entries p) v.task v.action u.task)
  awaits = waits_is o entries p x w i

  pub is_starting : v.action ≡ Start → starts_at entries p ≡ true
  is_starting is = ap starts_so (at_read Synchronised entries p w) ∙ ap is_start is

  pub not_starting : (v.action ≡ Start → ⊥) → starts_at entries p ≡ false
  not_starting never = ap starts_so (at_read Synchronised entries p w) ∙ false_from_ne_true (is_start v.action) (λ h. never (only v.action h))
    where
      only : (a : Action) → is_start a ≡ true → a ≡ Start
      only Start h = refl
      only _ h = absurd (false≢true h)

  -- what it waits for it is linked to
  pub waits_links : waits_at o entries p x ≡ true → links_at o entries p x ≡ true
  waits_links h =
      links_is o entries p x w i ∙ end_links o (H entries p) v u (sym (end_is o entries p x w i) ∙ end.1)
      ∙ or_right (is_of v.task u) _ (either (wait_kind (H entries p) v.task v.action u.task) _ (sym awaits ∙ h))
    where
      either : (k r : Option NeedKind) → counts_some o k ≡ true → counts_some o (option_or k r) ≡ true
      either (Some k) r h = h
      either None r h = absurd (false≢true h)

  others : items_of u.task (H entries p) ≡ items_at entries x
  others = items_stay entries tasks are legal x p i end.0 w

  -- where items meet they may meet
  meet_may : (items olds : List Item) → some_meet is_before items olds ≡ true → some_may_meet exclusion items olds ≡ true
  meet_may items olds h = any_more (λ i. list_any (meets is_before i) olds) (λ i. list_any (may_meet exclusion i) olds) items (λ i a. any_more (meets is_before i) (may_meet exclusion i) olds (λ j b. one i j b) a) h
    where
      any_more : {A : Type 0} (f g : A → Bool) (xs : List A) → ((y : A) → f y ≡ true → g y ≡ true) → list_any f xs ≡ true → list_any g xs ≡ true
      any_more f g xs more h = let r = any_at f xs h in any_some g xs r.0 r.1 r.3 (more r.1 r.4)

      one : (i j : Item) → meets is_before i j ≡ true → may_meet exclusion i j ≡ true
      one i j h = let b = and_parts (same_place i.place j.place) (is_before (relation i.kind j.kind)) h in and_from (same_place i.place j.place) _ b.0 (or_left (is_before (relation i.kind j.kind)) _ b.1)

  apart_may : exclusion ≡ true → (items olds : List Item) → some_meet is_apart items olds ≡ true → some_may_meet exclusion items olds ≡ true
  apart_may counts items olds h =
      let r = any_at (λ i. list_any (meets is_apart i) olds) items h in
      let s = any_at (meets is_apart r.1) olds r.4 in
      let b = and_parts (same_place r.1.place s.1.place) (is_apart (relation r.1.kind s.1.kind)) s.4 in
      any_some (λ i. list_any (may_meet exclusion i) olds) items r.0 r.1 r.3
      (any_some (may_meet exclusion r.1) olds s.0 s.1 s.3
      (and_from (same_place r.1.place s.1.place) _ b.0 (or_right (is_before (relation r.1.kind s.1.kind)) _ (and_from exclusion _ counts b.1))))

  -- of two items that exclude each other either may come first
  apart_turned : (items olds : List Item) → some_meet is_apart items olds ≡ true → some_meet is_apart olds items ≡ true
  apart_turned items olds h =
      let r = any_at (λ i. list_any (meets is_apart i) olds) items h in
      let s = any_at (meets is_apart r.1) olds r.4 in
      any_some (λ i. list_any (meets is_apart i) items) olds s.0 s.1 s.3 (any_some (meets is_apart s.1) items r.0 r.1 r.3 (turned r.1 s.1 s.4))
    where
      place : (p q : Place) → same_place p q ≡ same_place q p
      place (Cell c) (Cell d) = turn c d
        where
          turn : (c d : ℕ) → (c == d) ≡ (d == c)
          turn c d = by (cases_eq c d)
            where
              by : (c ≡ d) ⊎ (c ≢ d) → (c == d) ≡ (d == c)
              by (inl e) = eq-eqb c d e ∙ sym (eq-eqb d c (sym e))
              by (inr n) = ne_eqb c d n ∙ sym (ne_eqb d c (λ e. n (sym e)))
      place (Cell c) All = refl
      place All (Cell d) = refl
      place All All = refl

      kinds : (a b : Kind) → is_apart (relation a b) ≡ true → is_apart (relation b a) ≡ true
      kinds Mutexinoutset Mutexinoutset h = refl
      kinds In In h = absurd (false≢true h)
      kinds In Out h = absurd (false≢true h)
      kinds In Inout h = absurd (false≢true h)
      kinds In Mutexinoutset h = absurd (false≢true h)
      kinds In Inoutset h = absurd (false≢true h)
      kinds Out b h = absurd (false≢true h)
      kinds Inout b h = absurd (false≢true h)
      kinds Mutexinoutset In h = absurd (false≢true h)
      kinds Mutexinoutset Out h = absurd (false≢true h)
      kinds Mutexinoutset Inout h = absurd (false≢true h)
      kinds Mutexinoutset Inoutset h = absurd (false≢true h)
      kinds Inoutset In h = absurd (false≢true h)
      kinds Inoutset Out h = absurd (false≢true h)
      kinds Inoutset Inout h = absurd (false≢true h)
      kinds Inoutset Mutexinoutset h = absurd (false≢true h)
      kinds Inoutset Inoutset h = absurd (false≢true h)

      turned : (i j : Item) → meets is_apart i j ≡ true → meets is_apart j i ≡ true
      turned i j h =
          let b = and_parts (same_place i.place j.place) (is_apart (relation i.kind j.kind)) h in
          and_from (same_place j.place i.place) (is_apart (relation j.kind i.kind)) (place j.place i.place ∙ b.0) (kinds i.kind j.kind b.1)

  -- a start waits for siblings with items that its own may meet
  pub start_asked : v.action ≡ Start → (items : List Item) → items ≡ items_of v.task (H entries p) → waits_at o entries p x ≡ true
      → IsAsked o entries tasks p (parent tasks p) x × (some_may_meet exclusion items (items_at entries x) ≡ true)
  start_asked is items named h = by (start (before (H entries p) u.task v.task) (apart (H entries p) u.task v.task) (sym (ap (λ a. counts_some o (wait_kind (H entries p) v.task a u.task)) is) ∙ (sym awaits ∙ h)))
    where
      counted : (e : Bool) → counts_some (order_of e) (Some Apart) ≡ true → e ≡ true
      counted true h = refl
      counted false h = absurd (false≢true h)

      start : (a b : Bool) → counts_some o (option_or (some_if a Before) (some_if b Apart)) ≡ true → (a ≡ true) ⊎ ((b ≡ true) × (exclusion ≡ true))
      start true b h = inl refl
      start false true h = inr (refl, counted exclusion h)
      start false false h = absurd (false≢true h)

      both : (is_elder u.task v.task ≡ true) ⊎ (is_elder v.task u.task ≡ true) → some_may_meet exclusion (items_of v.task (H entries p)) (items_of u.task (H entries p)) ≡ true → IsAsked o entries tasks p (parent tasks p) x × (some_may_meet exclusion items (items_at entries x) ≡ true)
      both elder meet = (
        record {
          end = end;
          child = siblings_parent entries tasks are legal p x w i elder;
          linked = waits_links h;
        },
        ap₂ (some_may_meet exclusion) named (sym others) ∙ meet,
      )

      by : (before (H entries p) u.task v.task ≡ true) ⊎ ((apart (H entries p) u.task v.task ≡ true) × (exclusion ≡ true)) → IsAsked o entries tasks p (parent tasks p) x × (some_may_meet exclusion items (items_at entries x) ≡ true)
      by (inl a) = let b = and_parts (is_elder u.task v.task) _ a in both (inl b.0) (meet_may (items_of v.task (H entries p)) (items_of u.task (H entries p)) b.1)
      by (inr a) =
          ⊎_elim
          (λ c. let b = and_parts (is_elder u.task v.task) _ c in both (inl b.0) (apart_may a.1 (items_of v.task (H entries p)) (items_of u.task (H entries p)) b.1))
          (λ c. let b = and_parts (is_elder v.task u.task) _ c in both (inr b.0) (apart_may a.1 (items_of v.task (H entries p)) (items_of u.task (H entries p)) (apart_turned (items_of u.task (H entries p)) (items_of v.task (H entries p)) b.1)))
          (or_cases (is_elder u.task v.task && some_meet is_apart (items_of v.task (H entries p)) (items_of u.task (H entries p))) _ a.0)

  -- a `taskwait` for children
  pub wait_asked : (items : List Item) → ((t m : Name) → wait_kind (H entries p) t v.action m ≡ some_if (covers (H entries p) t items m) Waits) → waits_at o entries p x ≡ true
      → IsAsked o entries tasks p (number tasks p) x × ((has_no_items items || some_may_meet exclusion items (items_at entries x)) ≡ true)
  wait_asked items is h = by (covered (covers (H entries p) v.task items u.task) (sym (ap (counts_some o) (is v.task u.task)) ∙ (sym awaits ∙ h)))
    where
      covered : (b : Bool) → counts_some o (some_if b Waits) ≡ true → b ≡ true
      covered true h = refl
      covered false h = absurd (false≢true h)

      by : covers (H entries p) v.task items u.task ≡ true → IsAsked o entries tasks p (number tasks p) x × ((has_no_items items || some_may_meet exclusion items (items_at entries x)) ≡ true)
      by c =
          let b = and_parts (is_child v.task u.task) _ c in (
            record {
              end = end;
              child = child_parent entries tasks are legal p x w i b.0;
              linked = waits_links h;
            },
            ⊎_elim (λ a. or_left (has_no_items items) _ a)
                (λ a. or_right (has_no_items items) _ (ap (some_may_meet exclusion items) (sym others) ∙ meet_may items (items_of u.task (H entries p)) a))
                (or_cases (has_no_items items) _ b.1),
          )

  -- a step after an undeferred child for that child
  pub held_asked : holds (own v.task (H entries p)) u.task ≡ true → links_at o entries p x ≡ true → IsAsked o entries tasks p (number tasks p) x
  held_asked h link = record {
    end = end;
    child = child_parent entries tasks are legal p x w i (held_within (take p entries) v.task u.task (front_legal entries p (at Synchronised entries p w) w (at_is Synchronised entries p w) legal) h);
    linked = link;
  }

  -- which is no start
  pub held_goes_on : holds (own v.task (H entries p)) u.task ≡ true → v.action ≡ Start → ⊥
  held_goes_on h is = none (own v.task (H entries p)) h (subst (Continues legal.cells v.task (own v.task (H entries p))) is (legal_here entries legal p w).1.own)
    where
      none : (acts : List Action) → holds acts u.task ≡ true → acts ≡ [] → ⊥
      none acts h e = false≢true (sym (ap (λ a. holds a u.task) e) ∙ h)
