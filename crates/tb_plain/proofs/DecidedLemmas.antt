-- The tests of Decided say what the rules say.
use Rattle.std.proofs.Common.{◌≡◌, ◌<◌, ◌≤◌, ◌≢◌, ⊎_elim, ◌↔◌, ℕ, suc, List, [], ◌∷◌, ◌++◌, Bool, true, false, ◌&&◌, ◌||◌, ◌==◌, not, nat_lt, nat_le, length, arith, refl, sym, ap, ap₂, ◌∙◌, subst, IsTrue, eqb-true, eq-eqb, Result, Ok, Err, IfOk}
use Rattle.std.specs.List.{list_any, list_all, AllByRecursion}
use Rattle.std.proofs.lemmas.Bool.{or_cases, or_left, or_right, and_parts, and_from, false≢true}
use Rattle.std.proofs.lemmas.Bool.Decides.{nat_tests, Decides-int_eq}
use Rattle.tb_model.specs.declared.place.Place.{Place}
use Rattle.tb_model.specs.declared.place.Place.TheVariants.{Cell, All}
use Rattle.tb_model.specs.declared.item.Item.{Item}
use Rattle.tb_model.specs.declared.action.Action.{Action}
use Rattle.tb_model.specs.declared.action.Action.TheVariants.{Start, Let, Load, Store, Print, Spawn, Wait, Open, Close, Test, End, Fault}
use Rattle.tb_model.specs.declared.event.Event.{Event}
use Rattle.tb_model.specs.Items.{some_meet, is_before, is_apart}
use Rattle.tb_model.specs.Names.{Name, same_name, child, is_child, is_elder}
use Rattle.tb_model.specs.NameLaws.{same_name_equivalence}
use Rattle.tb_model.specs.Facts.{History, own, last, before, apart, covers, groups, is_member, holds, is_spawned, is_spawn_of, starts, spawns, items_for, items_of}
use Rattle.tb_model.specs.State.{with_child, is_unended}
use Rattle.tb_model.specs.Legal.{Cells, first_number, spawn_count, IsRunning, IsPlace, Continues, MayStart, IsTimely, MayFollow, Legal}
use Rattle.tb_model.proofs.TestLemmas.{same_true, same_refl}
use Rattle.tb_model.proofs.SiblingsLemmas.{meets_none}
use Rattle.tb_plain.specs.Decided.{is_empty, is_running, is_place, are_places, is_behind, continues, everyone, has_ended, is_past, is_aside, may_start, is_timely, is_resumed, may_follow, is_legal}

-- ---- tests

true_unless : (b : Bool) → (b ≡ false → ⊥) → b ≡ true
true_unless true h = refl
true_unless false h = absurd (h refl)

implies : (p q : Bool) → (not p || q) ≡ true → p ≡ true → q ≡ true
implies true q h p = h
implies false q h p = absurd (false≢true p)

implies_from : (p q : Bool) → (p ≡ true → q ≡ true) → (not p || q) ≡ true
implies_from true q h = h refl
implies_from false q h = refl

done : (s e : Bool) → not (s && not e) ≡ true → s ≡ true → e ≡ true
done true true h s = refl
done true false h s = absurd (false≢true h)
done false e h s = absurd (false≢true s)

done_from : (s e : Bool) → (s ≡ true → e ≡ true) → not (s && not e) ≡ true
done_from true true h = refl
done_from true false h = absurd (false≢true (h refl))
done_from false e h = refl

same_sym : (t u : Name) → same_name t u ≡ same_name u t
same_sym t u = same_name_equivalence.symm t u

-- ---- everyone of whom a rule can speak is listed

abbrev is_listed : Name → List Name → Bool
is_listed u us = list_any (same_name u) us

all_to : (test : Name → Bool) (us : List Name) (u : Name) → list_all test us ≡ true → is_listed u us ≡ true → test u ≡ true
all_to test [] u h l = absurd (false≢true l)
all_to test (w ∷ us) u h l =
    let o = and_parts (test w) (list_all test us) h in
    ⊎_elim (λ e. subst (λ t. test t ≡ true) (sym (same_true u w e)) o.0) (λ m. all_to test us u o.1 m) (or_cases (same_name u w) (is_listed u us) l)

all_from : (test : Name → Bool) (us : List Name) → ((u : Name) → test u ≡ true) → list_all test us ≡ true
all_from test [] h = refl
all_from test (w ∷ us) h = and_from (test w) (list_all test us) (h w) (all_from test us h)

still_listed : (u : Name) (a : Action) (us : List Name) → is_listed u us ≡ true → is_listed u (with_child a us) ≡ true
still_listed u (Spawn s) us h = or_right (same_name u s.child) (is_listed u us) h
still_listed u Start us h = h
still_listed u (Let r x) us h = h
still_listed u (Load r c x) us h = h
still_listed u (Store c x) us h = h
still_listed u (Print x) us h = h
still_listed u (Wait items) us h = h
still_listed u Open us h = h
still_listed u Close us h = h
still_listed u (Test answer) us h = h
still_listed u End us h = h
still_listed u Fault us h = h

root_listed : (H : History) → is_listed [] (everyone H) ≡ true
root_listed [] = refl
root_listed (v ∷ H) = still_listed [] v.action (everyone H) (root_listed H)

child_listed : (u : Name) (a : Action) (us : List Name) (rest : Bool) → (is_spawn_of u a || rest) ≡ true → (rest ≡ true → is_listed u us ≡ true) → is_listed u (with_child a us) ≡ true
child_listed u (Spawn s) us rest h f =
    ⊎_elim (λ e. or_left (same_name u s.child) (is_listed u us) (same_sym u s.child ∙ e)) (λ r. or_right (same_name u s.child) (is_listed u us) (f r)) (or_cases (same_name s.child u) rest h)
child_listed u Start us rest h f = f h
child_listed u (Let r x) us rest h f = f h
child_listed u (Load r c x) us rest h f = f h
child_listed u (Store c x) us rest h f = f h
child_listed u (Print x) us rest h f = f h
child_listed u (Wait items) us rest h f = f h
child_listed u Open us rest h f = f h
child_listed u Close us rest h f = f h
child_listed u (Test answer) us rest h f = f h
child_listed u End us rest h f = f h
child_listed u Fault us rest h f = f h

generated_listed : (u : Name) (H : History) → list_any (spawns u) H ≡ true → is_listed u (everyone H) ≡ true
generated_listed u [] h = absurd (false≢true h)
generated_listed u (v ∷ H) h = child_listed u v.action (everyone H) (list_any (spawns u) H) h (generated_listed u H)

spawned_listed : (H : History) (u : Name) → is_spawned H u ≡ true → is_listed u (everyone H) ≡ true
spawned_listed H [] h = root_listed H
spawned_listed H (n ∷ t) h = generated_listed (n ∷ t) H h

neither : (a b : Bool) → (a || b) ≡ false → (a ≡ false) × (b ≡ false)
neither true b h = absurd (false≢true (sym h))
neither false b h = (refl, h)

no_items_by : (u : Name) (a : Action) (us : List Name) (items : List Item) → is_listed u (with_child a us) ≡ false → (is_listed u us ≡ false → items ≡ []) → items_for u a ++ items ≡ []
no_items_by u (Spawn s) us items h f =
    let o = neither (same_name u s.child) (is_listed u us) h in
    let e : same_name s.child u ≡ false = same_sym s.child u ∙ o.0 in
    rw e (f o.1)
no_items_by u Start us items h f = f h
no_items_by u (Let r x) us items h f = f h
no_items_by u (Load r c x) us items h f = f h
no_items_by u (Store c x) us items h f = f h
no_items_by u (Print x) us items h f = f h
no_items_by u (Wait own_items) us items h f = f h
no_items_by u Open us items h f = f h
no_items_by u Close us items h f = f h
no_items_by u (Test answer) us items h f = f h
no_items_by u End us items h f = f h
no_items_by u Fault us items h f = f h

no_items : (u : Name) (H : History) → is_listed u (everyone H) ≡ false → items_of u H ≡ []
no_items u [] h = refl
no_items u (v ∷ H) h = no_items_by u v.action (everyone H) (items_of u H) h (no_items u H)

and_no : (a b : Bool) → b ≡ false → (a && b) ≡ false
and_no true b h = h
and_no false b h = refl

before_listed : (H : History) (u t : Name) → before H u t ≡ true → is_listed u (everyone H) ≡ true
before_listed H u t h = true_unless _ (λ e. false≢true (sym (and_no (is_elder u t) _ (ap (some_meet is_before (items_of t H)) (no_items u H e) ∙ meets_none is_before (items_of t H))) ∙ h))

apart_listed : (H : History) (u t : Name) → apart H u t ≡ true → is_listed u (everyone H) ≡ true
apart_listed H u t h = true_unless _ (λ e. false≢true (sym (none e) ∙ h))
  where
    none_of : (a b : Bool) → a ≡ false → b ≡ false → (a || b) ≡ false
    none_of true b p q = absurd (false≢true (sym p))
    none_of false b p q = q

    none : is_listed u (everyone H) ≡ false → apart H u t ≡ false
    none e =
        let gone = no_items u H e in
        none_of _ _
        (and_no (is_elder u t) _ (ap (some_meet is_apart (items_of t H)) gone ∙ meets_none is_apart (items_of t H)))
        (and_no (is_elder t u) _ (ap (λ items. some_meet is_apart items (items_of t H)) gone))

-- ---- what the task's own actions allow

empty_to : {A : Type 0} (xs : List A) → is_empty xs ≡ true → xs ≡ []
empty_to [] h = refl
empty_to (x ∷ xs) h = absurd (false≢true h)

empty_from : {A : Type 0} (xs : List A) → xs ≡ [] → is_empty xs ≡ true
empty_from [] h = refl
empty_from (x ∷ xs) h = absurd cc

some_to : {A : Type 0} (xs : List A) → not (is_empty xs) ≡ true → xs ≢ []
some_to [] h = absurd (false≢true h)
some_to (x ∷ xs) h = λ e. cc

some_from : {A : Type 0} (xs : List A) → xs ≢ [] → not (is_empty xs) ≡ true
some_from [] h = absurd (h refl)
some_from (x ∷ xs) h = refl

running_to : (acts : List Action) → is_running acts ≡ true → IsRunning acts
running_to [] h = absurd (false≢true h)
running_to (a ∷ acts) h = h

running_from : (acts : List Action) → IsRunning acts → is_running acts ≡ true
running_from [] h = absurd h
running_from (a ∷ acts) h = h

lt_to : (m n : ℕ) → nat_lt m n ≡ true → m < n
lt_to m n h = grind (arith, nat_tests)

lt_from : (m n : ℕ) → m < n → nat_lt m n ≡ true
lt_from m n h = grind (arith, nat_tests)

le_to : (m n : ℕ) → nat_le m n ≡ true → m ≤ n
le_to m n h = grind (arith, nat_tests)

le_from : (m n : ℕ) → m ≤ n → nat_le m n ≡ true
le_from m n h = grind (arith, nat_tests)

place_to : (cells : Cells) (p : Place) → is_place cells p ≡ true → IsPlace cells p
place_to cells (Cell c) h = lt_to c (length cells) h
place_to cells All h = tt

place_from : (cells : Cells) (p : Place) → IsPlace cells p → is_place cells p ≡ true
place_from cells (Cell c) h = lt_from c (length cells) h
place_from cells All h = refl

places_to : (cells : Cells) (items : List Item) → are_places cells items ≡ true → AllByRecursion (λ (i : Item). IsPlace cells i.place) items
places_to cells [] h = tt
places_to cells (i ∷ items) h =
    let o = and_parts (is_place cells i.place) (are_places cells items) h in
    (place_to cells i.place o.0, places_to cells items o.1)

places_from : (cells : Cells) (items : List Item) → AllByRecursion (λ (i : Item). IsPlace cells i.place) items → are_places cells items ≡ true
places_from cells [] h = refl
places_from cells (i ∷ items) h = and_from (is_place cells i.place) (are_places cells items) (place_from cells i.place h.0) (places_from cells items h.1)

child_to : (t u : Name) (k : ℕ) → (is_child t u && is_behind u k) ≡ true → u ≡ child t (suc k)
child_to t [] k h = absurd (false≢true h)
child_to t (n ∷ u) k h =
    let o = and_parts (same_name u t) (n == suc k) h in
    ap₂ (λ (m : ℕ) (v : Name). m ∷ v) (eqb-true n (suc k) o.1) (same_true u t o.0)

child_from : (t u : Name) (k : ℕ) → u ≡ child t (suc k) → (is_child t u && is_behind u k) ≡ true
child_from t u k e = subst (λ v. (is_child t v && is_behind v k) ≡ true) (sym e) (and_from (same_name t t) (suc k == suc k) (same_refl t) (eq-eqb (suc k) (suc k) refl))

continues_to : (cells : Cells) (t : Name) (acts : List Action) (a : Action) → continues cells t acts a ≡ true → Continues cells t acts a
continues_to cells t acts Start h = empty_to acts h
continues_to cells t acts (Let r x) h =
    let o = and_parts (is_running acts) (nat_lt r 16) h in
    (running_to acts o.0, lt_to r 16 o.1)
continues_to cells t acts (Load r c x) h =
    let o = and_parts (is_running acts) (nat_lt r 16 && nat_lt c (length cells)) h in
    let p = and_parts (nat_lt r 16) (nat_lt c (length cells)) o.1 in
    (running_to acts o.0, lt_to r 16 p.0, lt_to c (length cells) p.1)
continues_to cells t acts (Store c x) h =
    let o = and_parts (is_running acts) (nat_lt c (length cells)) h in
    (running_to acts o.0, lt_to c (length cells) o.1)
continues_to cells t acts (Print x) h = running_to acts h
continues_to cells t acts (Spawn s) h =
    let o = and_parts (is_running acts) ((is_child t s.child && is_behind s.child (spawn_count acts)) && (nat_le (length s.args) 16 && are_places cells s.items)) h in
    let p = and_parts (is_child t s.child && is_behind s.child (spawn_count acts)) (nat_le (length s.args) 16 && are_places cells s.items) o.1 in
    let q = and_parts (nat_le (length s.args) 16) (are_places cells s.items) p.1 in
    (running_to acts o.0, child_to t s.child (spawn_count acts) p.0, le_to (length s.args) 16 q.0, places_to cells s.items q.1)
continues_to cells t acts (Wait items) h =
    let o = and_parts (is_running acts) (are_places cells items) h in
    (running_to acts o.0, places_to cells items o.1)
continues_to cells t acts Open h = running_to acts h
continues_to cells t acts Close h =
    let o = and_parts (is_running acts) (not (is_empty (groups acts))) h in
    (running_to acts o.0, some_to (groups acts) o.1)
continues_to cells t acts (Test answer) h = running_to acts h
continues_to cells t acts End h = running_to acts h
continues_to cells t acts Fault h = running_to acts h

continues_from : (cells : Cells) (t : Name) (acts : List Action) (a : Action) → Continues cells t acts a → continues cells t acts a ≡ true
continues_from cells t acts Start h = empty_from acts h
continues_from cells t acts (Let r x) h = and_from _ _ (running_from acts h.0) (lt_from r 16 h.1)
continues_from cells t acts (Load r c x) h = and_from _ _ (running_from acts h.0) (and_from _ _ (lt_from r 16 h.1) (lt_from c (length cells) h.2))
continues_from cells t acts (Store c x) h = and_from _ _ (running_from acts h.0) (lt_from c (length cells) h.1)
continues_from cells t acts (Print x) h = running_from acts h
continues_from cells t acts (Spawn s) h =
    and_from _ _ (running_from acts h.0) (and_from _ _ (child_from t s.child (spawn_count acts) h.1) (and_from _ _ (le_from (length s.args) 16 h.2) (places_from cells s.items h.3)))
continues_from cells t acts (Wait items) h = and_from _ _ (running_from acts h.0) (places_from cells items h.1)
continues_from cells t acts Open h = running_from acts h
continues_from cells t acts Close h = and_from _ _ (running_from acts h.0) (some_from (groups acts) h.1)
continues_from cells t acts (Test answer) h = running_from acts h
continues_from cells t acts End h = running_from acts h
continues_from cells t acts Fault h = running_from acts h

-- ---- what the other tasks allow

start_to : (H : History) (t : Name) → may_start H t ≡ true → MayStart H t
start_to H t h =
    let o = and_parts (is_spawned H t) (list_all (is_past H t) (everyone H) && list_all (is_aside H t) (everyone H)) h in
    let p = and_parts (list_all (is_past H t) (everyone H)) (list_all (is_aside H t) (everyone H)) o.1 in
    record {
      spawned = o.0;
      behind = λ u b. implies (before H u t) (has_ended H u) (all_to (is_past H t) (everyone H) u p.0 (before_listed H u t b)) b;
      alone = λ u a s. implies (list_any (starts u) H) (has_ended H u) (implies (apart H u t) (not (list_any (starts u) H) || has_ended H u) (all_to (is_aside H t) (everyone H) u p.1 (apart_listed H u t a)) a) s;
    }

start_from : (H : History) (t : Name) → MayStart H t → may_start H t ≡ true
start_from H t m =
    and_from _ _ m.spawned
    (and_from _ _
    (all_from (is_past H t) (everyone H) (λ u. implies_from (before H u t) (has_ended H u) (m.behind u)))
    (all_from (is_aside H t) (everyone H) (λ u. implies_from (apart H u t) (not (list_any (starts u) H) || has_ended H u) (λ a. implies_from (list_any (starts u) H) (has_ended H u) (m.alone u a)))))

ended_to : (H : History) (test : Name → Bool) → list_all (λ u. not (test u) || not (is_unended H u)) (everyone H) ≡ true → (u : Name) → test u ≡ true → is_spawned H u ≡ true → has_ended H u ≡ true
ended_to H test h u p s = done (is_spawned H u) (has_ended H u) (implies (test u) (not (is_unended H u)) (all_to (λ u. not (test u) || not (is_unended H u)) (everyone H) u h (spawned_listed H u s)) p) s

ended_from : (H : History) (test : Name → Bool) → ((u : Name) → test u ≡ true → is_spawned H u ≡ true → has_ended H u ≡ true) → list_all (λ u. not (test u) || not (is_unended H u)) (everyone H) ≡ true
ended_from H test f = all_from _ (everyone H) (λ u. implies_from (test u) (not (is_unended H u)) (λ p. done_from (is_spawned H u) (has_ended H u) (f u p)))

timely_to : (cells : Cells) (H : History) (t : Name) (a : Action) → is_timely cells H t a ≡ true → IsTimely cells H t a
timely_to cells H t Start h = start_to H t h
timely_to cells H t (Load r c x) h = (Decides-int_eq x (last (first_number cells c) c H)).0 h
timely_to cells H t (Wait items) h = ended_to H (covers H t items) h
timely_to cells H t Close h = ended_to H (is_member (own t H)) h
timely_to cells H t (Let r x) h = tt
timely_to cells H t (Store c x) h = tt
timely_to cells H t (Print x) h = tt
timely_to cells H t (Spawn s) h = tt
timely_to cells H t Open h = tt
timely_to cells H t (Test answer) h = tt
timely_to cells H t End h = tt
timely_to cells H t Fault h = tt

timely_from : (cells : Cells) (H : History) (t : Name) (a : Action) → IsTimely cells H t a → is_timely cells H t a ≡ true
timely_from cells H t Start h = start_from H t h
timely_from cells H t (Load r c x) h = (Decides-int_eq x (last (first_number cells c) c H)).1 h
timely_from cells H t (Wait items) h = ended_from H (covers H t items) h
timely_from cells H t Close h = ended_from H (is_member (own t H)) h
timely_from cells H t (Let r x) h = refl
timely_from cells H t (Store c x) h = refl
timely_from cells H t (Print x) h = refl
timely_from cells H t (Spawn s) h = refl
timely_from cells H t Open h = refl
timely_from cells H t (Test answer) h = refl
timely_from cells H t End h = refl
timely_from cells H t Fault h = refl

resumed_to : (H : History) (acts : List Action) → is_resumed H acts ≡ true → (u : Name) → holds acts u ≡ true → has_ended H u ≡ true
resumed_to H [] h u p = absurd (false≢true p)
resumed_to H (Spawn s ∷ acts) h u p = by s.deferred h p
  where
    by : (d : Bool) → (d || has_ended H s.child) ≡ true → (not d && same_name s.child u) ≡ true → has_ended H u ≡ true
    by true k q = absurd (false≢true q)
    by false k q = subst (λ t. has_ended H t ≡ true) (same_true s.child u q) k
resumed_to H (Start ∷ acts) h u p = absurd (false≢true p)
resumed_to H ((Let r x) ∷ acts) h u p = absurd (false≢true p)
resumed_to H ((Load r c x) ∷ acts) h u p = absurd (false≢true p)
resumed_to H ((Store c x) ∷ acts) h u p = absurd (false≢true p)
resumed_to H ((Print x) ∷ acts) h u p = absurd (false≢true p)
resumed_to H ((Wait items) ∷ acts) h u p = absurd (false≢true p)
resumed_to H (Open ∷ acts) h u p = absurd (false≢true p)
resumed_to H (Close ∷ acts) h u p = absurd (false≢true p)
resumed_to H ((Test answer) ∷ acts) h u p = absurd (false≢true p)
resumed_to H (End ∷ acts) h u p = absurd (false≢true p)
resumed_to H (Fault ∷ acts) h u p = absurd (false≢true p)

resumed_from : (H : History) (acts : List Action) → ((u : Name) → holds acts u ≡ true → has_ended H u ≡ true) → is_resumed H acts ≡ true
resumed_from H [] h = refl
resumed_from H (Spawn s ∷ acts) h = by s.deferred h
  where
    by : (d : Bool) → ((u : Name) → (not d && same_name s.child u) ≡ true → has_ended H u ≡ true) → (d || has_ended H s.child) ≡ true
    by true k = refl
    by false k = k s.child (same_refl s.child)
resumed_from H (Start ∷ acts) h = refl
resumed_from H ((Let r x) ∷ acts) h = refl
resumed_from H ((Load r c x) ∷ acts) h = refl
resumed_from H ((Store c x) ∷ acts) h = refl
resumed_from H ((Print x) ∷ acts) h = refl
resumed_from H ((Wait items) ∷ acts) h = refl
resumed_from H (Open ∷ acts) h = refl
resumed_from H (Close ∷ acts) h = refl
resumed_from H ((Test answer) ∷ acts) h = refl
resumed_from H (End ∷ acts) h = refl
resumed_from H (Fault ∷ acts) h = refl

-- ---- the whole

pub follow_to : (cells : Cells) (H : History) (v : Event) → may_follow cells H v ≡ true → MayFollow cells H v
follow_to cells H v h =
    let o = and_parts (continues cells v.task (own v.task H) v.action) (is_resumed H (own v.task H) && is_timely cells H v.task v.action) h in
    let p = and_parts (is_resumed H (own v.task H)) (is_timely cells H v.task v.action) o.1 in
    record {
      own = continues_to cells v.task (own v.task H) v.action o.0;
      resumed = resumed_to H (own v.task H) p.0;
      timely = timely_to cells H v.task v.action p.1;
    }

pub follow_from : (cells : Cells) (H : History) (v : Event) → MayFollow cells H v → may_follow cells H v ≡ true
follow_from cells H v m =
    and_from _ _ (continues_from cells v.task (own v.task H) v.action m.own)
    (and_from _ _ (resumed_from H (own v.task H) m.resumed) (timely_from cells H v.task v.action m.timely))

pub legal_to : (cells : Cells) (H : History) → is_legal cells H ≡ true → Legal cells H
legal_to cells [] h = tt
legal_to cells (v ∷ H) h =
    let o = and_parts (is_legal cells H) (may_follow cells H v) h in
    (legal_to cells H o.0, follow_to cells H v o.1)

pub legal_from : (cells : Cells) (H : History) → Legal cells H → is_legal cells H ≡ true
legal_from cells [] h = refl
legal_from cells (v ∷ H) h = and_from _ _ (legal_from cells H h.0) (follow_from cells H v h.1)

pub legal_answer : {E : Type 0} (cells : Cells) (H : History) (r : Result Bool E) → IfOk r (λ answer. answer ≡ is_legal cells H) → IfOk r (λ answer. IsTrue answer ↔ Legal cells H)
legal_answer cells H (Ok answer) e = (λ h. legal_to cells H (sym e ∙ h), λ l. e ∙ legal_from cells H l)
legal_answer cells H (Err error) e = tt

pub follow_answer : {E : Type 0} (cells : Cells) (H : History) (v : Event) (r : Result Bool E) → IfOk r (λ answer. answer ≡ may_follow cells H v) → IfOk r (λ answer. IsTrue answer ↔ MayFollow cells H v)
follow_answer cells H v (Ok answer) e = (λ h. follow_to cells H v (sym e ∙ h), λ m. e ∙ follow_from cells H v m)
follow_answer cells H v (Err error) e = tt
