-- For whom a step waits, by the ids of tasks.
use Rattle.std.proofs.Common.{◌≡◌, ◌≢◌, ◌==◌, ◌<◌, ◌≤◌, ◌-◌, ℕ, zero, suc, List, [], ◌∷◌, Bool, true, false, not, ◌||◌, ◌&&◌, length, take, drop, refl, sym, ap, ap₂, ◌∙◌, subst, arith, Option, Some, None, slice_get, ◌⊎◌, inl, inr, ⊎_elim, eq-eqb, ne_eqb}
use Rattle.std.specs.Option.{option_or}
use Rattle.std.proofs.lemmas.Bool.{and_parts, both_ways, cases_eq, cases_lt, false≢true, false_from_ne_true, or_cases}
use Rattle.tb_model.specs.declared.action.Action.{Action}
use Rattle.tb_model.specs.declared.action.Action.TheVariants.{Start, Wait, Close, Spawn}
use Rattle.tb_model.specs.declared.event.Event.{Event}
use Rattle.tb_model.specs.declared.item.Item.{Item}
use Rattle.tb_model.specs.Facts.{History, IsSpawned, apart, before, covers, holds, is_member, is_of, items_of, own}
use Rattle.tb_model.specs.Names.{Name, is_child, is_elder, same_name}
use Rattle.tb_model.proofs.TestLemmas.{same_refl, same_true}
use Rattle.tb_clocks.specs.Known.{HasId, holds_some, names_in, parent_of}
use Rattle.tb_clocks.specs.Tree.{older}
use Rattle.tb_clocks.proofs.TaskLemmas.{one_id}
use Rattle.tb_steps.specs.Entries.{Entry}
use Rattle.tb_steps.proofs.FirstLemmas.{front_legal}
use Rattle.tb_steps.proofs.NeedsLemmas.{held_within}
use Rattle.tb_races.specs.declared.need_kind.NeedKind.{NeedKind}
use Rattle.tb_races.specs.declared.need_kind.NeedKind.TheVariants.{Before, Apart, Wait as Waits, Group, Undeferred}
use Rattle.tb_races.specs.Kinds.{some_if, wait_kind}
use Rattle.tb_races.specs.Orders.{Synchronised, counts_some}
use Rattle.tb_lanes.specs.Clocks.{IsEnd, both_at, links_at, of_one}
use Rattle.tb_lanes.specs.Linking.{order_of}
use Rattle.tb_lanes.specs.Rows.{waits_at}
use Rattle.tb_lanes.proofs.AfterLemmas.{at, at_is, links_is, same_at}
use Rattle.tb_lanes.proofs.AskedLemmas.{held_goes_on, link_parts, waits_is}
use Rattle.tb_lanes.proofs.GroupLemmas.{close_from}
use Rattle.tb_lanes.proofs.LinkLemmas.{end_is, end_links}
use Rattle.tb_lanes.proofs.OwnLemmas.{ev}
use Rattle.tb_stream.specs.Seen.{IsEvent, IsOf, Run, front, order}
use Rattle.tb_stream.proofs.ListLemmas.{the_same}
use Rattle.tb_stream.proofs.SeenLemmas.{action_here, id_at, legal_in_front, next_is}

-- ---- names

pub elder_parent : (u t : Name) → is_elder u t ≡ true → parent_of u ≡ parent_of t
elder_parent [] t h = absurd (false≢true h)
elder_parent (m ∷ u) [] h = absurd (false≢true h)
elder_parent (m ∷ u) (n ∷ t) h = same_true u t (and_parts _ (same_name u t) h).1

pub child_parent : (t u : Name) → is_child t u ≡ true → parent_of u ≡ t
child_parent t [] h = absurd (false≢true h)
child_parent t (m ∷ u) h = same_true u t h

pub holds_so : (acts : List Action) (u : Name) → holds acts u ≡ true → holds_some acts ≡ true
holds_so (Spawn s ∷ acts) u h = (and_parts (not s.deferred) (same_name s.child u) h).0
holds_so [] u h = absurd (false≢true h)
holds_so (_ ∷ acts) u h = absurd (false≢true h)

-- ---- kinds

counted : (e : Bool) → counts_some (order_of e) (Some Apart) ≡ e
counted true = refl
counted false = refl

all_before : (e : Bool) → counts_some (order_of e) (Some Before) ≡ true
all_before true = refl
all_before false = refl

all_waits : (e : Bool) → counts_some (order_of e) (Some Waits) ≡ true
all_waits true = refl
all_waits false = refl

all_groups : (e : Bool) → counts_some (order_of e) (Some Group) ≡ true
all_groups true = refl
all_groups false = refl

all_held : (e : Bool) → counts_some (order_of e) (Some Undeferred) ≡ true
all_held true = refl
all_held false = refl

pub start_counts : (e a b : Bool) → counts_some (order_of e) (option_or (some_if a Before) (some_if b Apart)) ≡ (a || (e && b))
start_counts true true b = refl
start_counts false true b = refl
start_counts true false true = refl
start_counts false false true = refl
start_counts true false false = refl
start_counts false false false = refl

pub wait_counts : (e b : Bool) → counts_some (order_of e) (some_if b Waits) ≡ b
wait_counts true true = refl
wait_counts false true = refl
wait_counts true false = refl
wait_counts false false = refl

pub group_counts : (e b : Bool) → counts_some (order_of e) (some_if b Group) ≡ b
group_counts true true = refl
group_counts false true = refl
group_counts true false = refl
group_counts false false = refl

held_counts : (e b : Bool) → counts_some (order_of e) (some_if b Undeferred) ≡ b
held_counts true true = refl
held_counts false true = refl
held_counts true false = refl
held_counts false false = refl

pub none_counts : (e : Bool) → counts_some (order_of e) None ≡ false
none_counts true = refl
none_counts false = refl

-- what waits counts, but for a start
not_start : (e : Bool) (H : History) (t : Name) (a : Action) (u : Name) → (a ≡ Start → ⊥)
    → (wait_kind H t a u ≡ None) ⊎ (counts_some (order_of e) (wait_kind H t a u) ≡ true)
not_start e H t Start u n = absurd (n refl)
not_start e H t (Wait items) u n = by (covers H t items u)
  where
    by : (b : Bool) → (some_if b Waits ≡ None) ⊎ (counts_some (order_of e) (some_if b Waits) ≡ true)
    by true = inr (all_waits e)
    by false = inl refl
not_start e H t Close u n = by (is_member (own t H) u)
  where
    by : (b : Bool) → (some_if b Group ≡ None) ⊎ (counts_some (order_of e) (some_if b Group) ≡ true)
    by true = inr (all_groups e)
    by false = inl refl
not_start e H t _ u n = inl refl

or_kind : (e h : Bool) (k : Option NeedKind) → (h ≡ true → (k ≡ None) ⊎ (counts_some (order_of e) k ≡ true))
    → counts_some (order_of e) (option_or k (some_if h Undeferred)) ≡ (counts_some (order_of e) k || h)
or_kind e h None f = held_counts e h
or_kind e true (Some k) f = ⊎_elim (λ n. absurd (let no : ◌≡◌ {A = Option NeedKind} (Some k) None = n in cc)) (λ c. c ∙ sym (ap (λ b. b || true) c)) (f refl)
or_kind e false (Some k) f = sym (or_none (counts_some (order_of e) (Some k)))
  where
    or_none : (b : Bool) → (b || false) ≡ b
    or_none true = refl
    or_none false = refl

module _ (r : Run) (n : ℕ) (w : n < length r.entries) where
  abbrev v : Event
  v = ev r.entries n w

  module _ (x : ℕ) (end : IsEnd r.entries n x) (i : x < length r.entries) where
    abbrev u : Event
    u = ev r.entries x i

    -- why it is linked to an end
    pub link_is : links_at (order r) r.entries n x ≡ (is_of v.task u || (counts_some (order r) (wait_kind (front r n) v.task v.action u.task) || holds (own v.task (front r n)) u.task))
    link_is =
        links_is (order r) r.entries n x w i ∙ end_links (order r) (front r n) v u (sym (end_is (order r) r.entries n x w i) ∙ end.1)
        ∙ ap (λ b. is_of v.task u || b)
        (or_kind r.exclusion (holds (own v.task (front r n)) u.task) (wait_kind (front r n) v.task v.action u.task)
        (λ h. not_start r.exclusion (front r n) v.task v.action u.task (held_goes_on r.exclusion r.entries r.tasks r.by_task r.legal n x w end (subst (λ (e : Entry). holds (own v.task (front r n)) e.event.task ≡ true) (same_at r.entries x i _) h))))

    -- the tasks are one where their ids are
    pub same_ids : (a b : ℕ) → IsOf r n a → IsOf r x b → (a == b) ≡ is_of v.task u
    same_ids a b of to = ⊎_elim here there (cases_eq a b)
      where
        ida : HasId (front r n) a v.task
        ida = id_at r n n a (omega arith) (omega (arith, w)) of w

        idb : HasId (front r n) b u.task
        idb = id_at r n x b (omega (arith, end.0)) (omega (arith, w)) to i

        here : a ≡ b → (a == b) ≡ is_of v.task u
        here e =
            let same : v.task ≡ u.task = the_same v.task u.task (sym ida ∙ ap (slice_get (names_in (front r n))) e ∙ idb) in
            eq-eqb a b e ∙ sym (subst (λ t. same_name u.task t ≡ true) (sym same) (same_refl u.task))

        there : a ≢ b → (a == b) ≡ is_of v.task u
        there d =
            ne_eqb a b d ∙ sym (false_from_ne_true (is_of v.task u) (λ h.
            let same : u.task ≡ v.task = same_true u.task v.task h in
            d (one_id r.legal.cells (front r n) a b v.task (legal_in_front r n (omega (arith, w))) ida (subst (HasId (front r n) b) same idb))))

    -- as the code asks
    pub link_by : (a b : ℕ) → IsOf r n a → IsOf r x b → (exclusion : Bool) → exclusion ≡ r.exclusion → (act : Action) → IsEvent r n act → (waits held : Bool)
        → waits ≡ counts_some (order_of exclusion) (wait_kind (front r n) v.task act u.task) → held ≡ holds (own v.task (front r n)) u.task
        → ((a == b) || (waits || held)) ≡ links_at (order r) r.entries n x
    link_by a b of to exclusion same act event waits held waits_is held_is =
        ap₂ (λ p q. p || q) (same_ids a b of to) (ap₂ (λ p q. p || q) (waits_is ∙ ap₂ (λ e z. counts_some (order_of e) (wait_kind (front r n) v.task z u.task)) same (action_here r n w act event)) held_is)
        ∙ sym link_is

    -- it isn't linked to the ends of others, where nothing makes it wait
    pub waits_none : (act : Action) → IsEvent r n act → {items : List Item}
        → ((t m : Name) → items ≡ items_of t (front r n) → wait_kind (front r n) t act m ≡ None) → items ≡ items_of v.task (front r n)
        → holds_some (own v.task (front r n)) ≡ false → links_at (order r) r.entries n x ≡ true
        → both_at of_one r.entries n x ≡ true
    waits_none act event none named free link = ⊎_elim (λ a. a) (λ s. absurd (⊎_elim waits held s)) (link_parts (order r) r.entries n x w i end.1 link)
      where
        waits : waits_at (order r) r.entries n x ≡ true → ⊥
        waits h = both_ways (waits_at (order r) r.entries n x)
            (waits_is (order r) r.entries n x w i ∙ ap (counts_some (order r)) (ap (λ a. wait_kind (front r n) v.task a u.task) (sym (action_here r n w act event)) ∙ none v.task u.task named) ∙ none_counts r.exclusion) h

        held : holds (own v.task (front r n)) u.task ≡ true → ⊥
        held h = both_ways (holds_some (own v.task (front r n))) free (holds_so (own v.task (front r n)) u.task h)

    -- a start waits for siblings
    pub start_parent : v.action ≡ Start → waits_at (order r) r.entries n x ≡ true → parent_of u.task ≡ parent_of v.task
    start_parent is h = ⊎_elim (λ a. elder_parent u.task v.task (and_parts (is_elder u.task v.task) _ a).0) (λ a. excluded_by _ _ (or_cases _ _ (and_parts r.exclusion _ a).1)) (or_cases (before (front r n) u.task v.task) _ parts)
      where
        parts : (before (front r n) u.task v.task || (r.exclusion && apart (front r n) u.task v.task)) ≡ true
        parts = sym (start_counts r.exclusion (before (front r n) u.task v.task) (apart (front r n) u.task v.task)) ∙ sym (ap (λ a. counts_some (order r) (wait_kind (front r n) v.task a u.task)) is) ∙ sym (waits_is (order r) r.entries n x w i) ∙ h

        excluded_by : (a b : Bool) → ((is_elder u.task v.task && a) ≡ true) ⊎ ((is_elder v.task u.task && b) ≡ true) → parent_of u.task ≡ parent_of v.task
        excluded_by _ _ (inl a) = elder_parent u.task v.task (and_parts (is_elder u.task v.task) _ a).0
        excluded_by _ _ (inr a) = sym (elder_parent v.task u.task (and_parts (is_elder v.task u.task) _ a).0)

    -- a `taskwait` for children
    pub wait_parent : (items : List Item) → v.action ≡ Wait items → waits_at (order r) r.entries n x ≡ true → parent_of u.task ≡ v.task
    wait_parent items is h =
        child_parent v.task u.task
        (and_parts (is_child v.task u.task) _
        (sym (wait_counts r.exclusion (covers (front r n) v.task items u.task)) ∙ sym (ap (λ a. counts_some (order r) (wait_kind (front r n) v.task a u.task)) is) ∙ sym (waits_is (order r) r.entries n x w i) ∙ h)).0

    -- a step after an undeferred child for that child
    pub held_parent : holds (own v.task (front r n)) u.task ≡ true → parent_of u.task ≡ v.task
    held_parent h = child_parent v.task u.task (held_within (take n r.entries) v.task u.task (front_legal r.entries n (at Synchronised r.entries n w) w (at_is Synchronised r.entries n w) r.legal) h)

  -- ---- where a group was opened

  front_long : (m : ℕ) → m ≤ length r.entries → length (front r m) ≡ m
  front_long zero l = refl
  front_long (suc m) l = ap length (next_is r m (omega (arith, l))) ∙ ap suc (front_long m (omega (arith, l)))

  older_is : (k m : ℕ) → k ≤ m → m ≤ length r.entries → older k (front r m) ≡ front r k
  older_is k zero l i = let e : k ≡ zero = omega (arith, l) in subst (λ j. older j (front r zero) ≡ front r j) (sym e) refl
  older_is k (suc m) l i = ⊎_elim here (λ d. there d (older_is k m (omega (arith, l, d)) (omega (arith, i)))) (cases_eq k (suc m))
    where
      here : k ≡ suc m → older k (front r (suc m)) ≡ front r k
      here e =
          let none : length (front r (suc m)) - k ≡ 0 = omega (arith, e, front_long (suc m) i) in
          ap (λ j. drop j (front r (suc m))) none ∙ ap (front r) (sym e)

      there : k ≢ suc m → older k (front r m) ≡ front r k → older k (front r (suc m)) ≡ front r k
      there d rest =
          let low : k ≤ m = omega (arith, l, d) in
          let more : length (front r (suc m)) - k ≡ suc (length (front r m) - k) = omega (arith, front_long (suc m) i, front_long m (omega (arith, i)), low) in
          ap (λ j. drop j (front r (suc m))) more ∙ ap (drop (suc (length (front r m) - k))) (next_is r m (omega (arith, i))) ∙ rest

  pub close_asked : v.action ≡ Close → (from : ℕ) → ((m : Name) → IsSpawned (older from (front r n)) m → is_member (own v.task (front r n)) m ≡ false)
      → (x : ℕ) → IsEnd r.entries n x → links_at (order r) r.entries n x ≡ true → from ≤ x
  close_asked is from none x end link = ⊎_elim late early (cases_lt n from)
    where
      early : from ≤ n → from ≤ x
      early l = close_from r.entries r.tasks r.by_task r.legal n w is from l (λ m s. none m (subst (λ G. IsSpawned G m) (sym (older_is from n l (omega (arith, w)))) s)) r.exclusion x end link

      late : n < from → from ≤ x
      late l = absurd (omega (
        arith,
        end.0,
        close_from r.entries r.tasks r.by_task r.legal n w is n (omega arith)
            (λ m s. none m (subst (λ G. IsSpawned G m) (sym (let z : length (front r n) - from ≡ 0 = omega (arith, l, front_long n (omega (arith, w))) in ap (λ j. drop j (front r n)) z)) s)) r.exclusion x end link,
      ))
