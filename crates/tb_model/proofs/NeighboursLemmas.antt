-- Two neighbours of which the later doesn't directly need the earlier change places.
use Rattle.std.proofs.Common.{◌≡◌, ◌≢◌, ℕ, List, [], ◌∷◌, ◌++◌, Bool, true, false, ◌&&◌, ◌||◌, ⊎_elim, refl, sym, ap, ap₂, ◌∙◌, subst, ◌==◌, ℤ, cond, ne_eqb, eq-eqb}
use Rattle.std.specs.List.{list_any}
use Rattle.std.proofs.lemmas.Bool.{or_cases, or_left, or_right, or_parts, and_parts, and_from, both_ways, false≢true, false_from_ne_true, eqb-true}
use Rattle.std.proofs.lemmas.List.Folds.{list_any-append}
use Rattle.tb_model.specs.declared.item.Item.{Item}
use Rattle.tb_model.specs.declared.action.Action.{Action}
use Rattle.tb_model.specs.declared.action.Action.TheVariants.{Start, Let, Load, Store, Print, Spawn, Wait, Open, Close, Test, End, Fault}
use Rattle.tb_model.specs.declared.event.Event.{Event}
use Rattle.tb_model.specs.Names.{Name, same_name, is_child, is_elder}
use Rattle.tb_model.specs.Items.{some_meet, is_before, is_apart, has_no_items}
use Rattle.tb_model.specs.Facts.{History, is_of, own, prepend_if, is_end, is_start, is_spawn_of, is_print, is_store_to, last, stored_or, items_of, items_for, before, apart, spawns, ends, starts, is_member, covers, holds, HasEnded, HasStarted, IsSpawned}
use Rattle.tb_model.specs.Legal.{Cells, first_number, Continues, MayStart, IsTimely, MayFollow, Legal}
use Rattle.tb_model.specs.Needs.{conflicts, needs_end_of, needs}
use Rattle.tb_model.specs.State.{printed, with_print, spawn_of}
use Rattle.std.proofs.Common.{Option, Some}
use Rattle.tb_model.proofs.TestLemmas.{same_true, same_refl}
use Rattle.tb_model.proofs.PartsLemmas as parts
use Rattle.tb_model.proofs.PartsLemmas.{Parts, not_stored}
use Rattle.tb_model.proofs.RemovalLemmas.{follows_stays}
use Rattle.tb_model.specs.Alike.{Alike}
use Rattle.tb_model.proofs.FactsLemmas.{grown, running_acts, cons_tail, own_other, spawn_names, acted_spawned, begun, not_started, not_running, member_up, ends_own}
use Rattle.tb_model.proofs.FactsLemmas.{elder_not, items_stay, not_again}
use Rattle.tb_model.proofs.PartsLemmas.{all_stay}

-- ---- the same of both orders

-- names differ both ways
pub same_sym : (t u : Name) → same_name t u ≡ false → same_name u t ≡ false
same_sym t u h = false_from_ne_true (same_name u t) (λ e. both_ways (same_name t u) h (subst (λ x. same_name x u ≡ true) (same_true u t e) (same_refl u)))

-- one task can't be that of two events of different tasks
own_swap : (t : Name) (e f : Event) (H : History) → is_of e.task f ≡ false → own t (f ∷ e ∷ H) ≡ own t (e ∷ f ∷ H)
own_swap t e f H h = at (is_of t e) (is_of t f) refl refl
  where
    at : (b c : Bool) → is_of t e ≡ b → is_of t f ≡ c → prepend_if c f.action (prepend_if b e.action (own t H)) ≡ prepend_if b e.action (prepend_if c f.action (own t H))
    at true true p q = absurd (both_ways (is_of e.task f) h (subst (λ u. is_of u f ≡ true) (sym (same_true e.task t p)) q))
    at true false p q = refl
    at false true p q = refl
    at false false p q = refl

stored_swap : (c : ℕ) (a b : Action) (y : ℤ) → conflicts b a ≡ false → stored_or c b (stored_or c a y) ≡ stored_or c a (stored_or c b y)
stored_swap c (Store d x) (Store k z) y h = at (c == d) (c == k) refl refl
  where
    at : (p q : Bool) → (c == d) ≡ p → (c == k) ≡ q → cond q z (cond p x y) ≡ cond p x (cond q z y)
    at true true p q = absurd (both_ways (k == d) h (eq-eqb k d (sym (eqb-true c k q) ∙ eqb-true c d p)))
    at true false p q = refl
    at false true p q = refl
    at false false p q = refl
stored_swap c a b y h = refl

-- the order of two tests doesn't matter
pub or_swap : (a b c : Bool) → (a || (b || c)) ≡ (b || (a || c))
or_swap true true c = refl
or_swap true false c = refl
or_swap false true c = refl
or_swap false false c = refl

-- two events that both spawn one task are of one task
items_swap : (p : Item → Bool) (t : Name) (e f : Event) (H : History) → list_any p (items_of t (f ∷ e ∷ H)) ≡ list_any p (items_of t (e ∷ f ∷ H))
items_swap p t e f H =
    let i = items_for t e.action in
    let j = items_for t f.action in
    let k = items_of t H in
    list_any-append p j (i ++ k) ∙ ap (λ b. list_any p j || b) (list_any-append p i k)
    ∙ or_swap (list_any p j) (list_any p i) (list_any p k)
    ∙ sym (list_any-append p i (j ++ k) ∙ ap (λ b. list_any p i || b) (list_any-append p j k))

print_swap : (a b : Action) (xs : List ℤ) → (is_print b && is_print a) ≡ false → with_print b (with_print a xs) ≡ with_print a (with_print b xs)
print_swap (Print x) (Print y) xs h = absurd (false≢true (sym h))
print_swap a b xs h = refl

spawn_swap : (p q : Bool) (a b : Action) (o : Option Action) → (p ≡ true → q ≡ true → ⊥) → cond q (Some b) (cond p (Some a) o) ≡ cond p (Some a) (cond q (Some b) o)
spawn_swap true true a b o h = absurd (h refl refl)
spawn_swap true false a b o h = refl
spawn_swap false true a b o h = refl
spawn_swap false false a b o h = refl

-- the two orders of independent neighbours are alike
pub swap_alike : (e f : Event) (H : History) → is_of e.task f ≡ false → conflicts f.action e.action ≡ false → (is_print f.action && is_print e.action) ≡ false → ((t : Name) → spawns t e ≡ true → spawns t f ≡ true → ⊥) → Alike (f ∷ e ∷ H) (e ∷ f ∷ H)
swap_alike e f H o c p s = record {
  acts = λ t. own_swap t e f H o;
  number = λ x k. stored_swap k e.action f.action (last x k H) c;
  any = λ p. or_swap (p f) (p e) (list_any p H);
  items = λ t p. items_swap p t e f H;
  prints = print_swap e.action f.action (printed H) p;
  spawn = λ t. spawn_swap (is_spawn_of t e.action) (is_spawn_of t f.action) e.action f.action (spawn_of t H) (s t);
}

-- ---- the earlier one after the later

-- there is one start
pub start_only : (a : Action) → is_start a ≡ true → a ≡ Start
start_only Start h = refl
start_only (Let r x) h = absurd (false≢true h)
start_only (Load r c x) h = absurd (false≢true h)
start_only (Store c x) h = absurd (false≢true h)
start_only (Print x) h = absurd (false≢true h)
start_only (Spawn s) h = absurd (false≢true h)
start_only (Wait items) h = absurd (false≢true h)
start_only Open h = absurd (false≢true h)
start_only Close h = absurd (false≢true h)
start_only (Test b) h = absurd (false≢true h)
start_only End h = absurd (false≢true h)
start_only Fault h = absurd (false≢true h)

conflict_load : (b : Action) (r c : ℕ) (x : ℤ) → conflicts b (Load r c x) ≡ false → is_store_to c b ≡ false
conflict_load (Store d y) r c x h = ne_eqb c d (λ e. both_ways (d == c) h (eq-eqb d c (sym e)))
conflict_load _ r c x h = refl

-- exclusion holds both ways
pub apart_same : (H : History) (u t : Name) → apart H u t ≡ apart H t u
apart_same H u t = or_comm (is_elder u t && some_meet is_apart (items_of t H) (items_of u H)) (is_elder t u && some_meet is_apart (items_of u H) (items_of t H))
  where
    or_comm : (a b : Bool) → (a || b) ≡ (b || a)
    or_comm true true = refl
    or_comm true false = refl
    or_comm false true = refl
    or_comm false false = refl

-- exclusion holds both ways, as a fact
pub apart_sym : (H : History) (u t : Name) → apart H u t ≡ true → apart H t u ≡ true
apart_sym H u t h = sym (apart_same H u t) ∙ h

module _ (cells : Cells) (H : History) (l : Legal cells H) (t : Name) (f : Event) (other : is_of t f ≡ false) (mf : MayFollow cells H f) where
  apart_kept : (u : Name) → spawns u f ≡ false → spawns t f ≡ false → apart (f ∷ H) u t ≡ apart H u t
  apart_kept u h k =
      ap₂ (λ i j. (is_elder u t && some_meet is_apart i j) || (is_elder t u && some_meet is_apart j i)) (items_stay cells H l f mf t k) (items_stay cells H l f mf u h)

  -- who excludes t doesn't start while t is under way
  not_beside : (own t H ≡ []) → MayFollow cells (record { task = t; action = Start } ∷ H) f → is_start f.action ≡ true → apart (f ∷ H) f.task t ≡ true → ⊥
  not_beside fresh me s b =
      let st = start_only f.action s in
      let no : (u : Name) → spawns u f ≡ false = λ u. ap (is_spawn_of u) st in
      let a : apart H t f.task ≡ true = apart_sym H f.task t (sym (apart_kept f.task (no f.task) (no t)) ∙ b) in
      let m : MayStart (record { task = t; action = Start } ∷ H) f.task = subst (IsTimely cells (record { task = t; action = Start } ∷ H) f.task) st me.timely in
      let begun' : HasStarted (record { task = t; action = Start } ∷ H) t = or_left (same_name t t && true) _ (and_from (same_name t t) true (same_refl t) refl) in
      ⊎_elim (λ x. false≢true (and_parts (same_name t t) false x).1) (λ y. not_started t H (ends t) (ends_own t) fresh y)
      (or_cases (same_name t t && false) (list_any (ends t) H) (m.alone t a begun'))

  timely_on : (a : Action) → Continues cells t (own t H) a → conflicts f.action a ≡ false → MayFollow cells (record { task = t; action = a } ∷ H) f → IsTimely cells H t a → IsTimely cells (f ∷ H) t a
  timely_on Start fresh c me m = record {
    spawned = grown t f H m.spawned;
    behind =
        λ u b.
        let o = and_parts (is_elder u t) (some_meet is_before (items_of t (f ∷ H)) (items_of u (f ∷ H))) b in
        let b' : before H u t ≡ true =
        and_from (is_elder u t) (some_meet is_before (items_of t H) (items_of u H)) o.0
        (sym (ap₂ (some_meet is_before) (items_stay cells H l f mf t (not_again cells H l f mf t m.spawned)) (items_stay cells H l f mf u (elder_not cells H l f mf u t o.0 m.spawned))) ∙ o.1)
        in or_right (ends u f) _ (m.behind u b');
    alone =
        λ u b s.
        ⊎_elim
        (λ h.
        let o = and_parts (is_of u f) (is_start f.action) h in
        absurd (not_beside fresh me o.1 (subst (λ w. apart (f ∷ H) w t ≡ true) (sym (same_true f.task u o.0)) b)))
        (λ h.
        let was : own u H ≢ [] = λ z. not_started u H (starts u) (λ v q. (and_parts (is_of u v) (is_start v.action) q).0) z h in
        let sp = acted_spawned cells H u l was in
        or_right (ends u f) _ (m.alone u (sym (apart_kept u (not_again cells H l f mf u sp) (not_again cells H l f mf t m.spawned)) ∙ b) h))
        (or_cases (starts u f) (list_any (starts u) H) s);
  }
  timely_on (Load r k x) go c me m =
      m ∙ sym (not_stored k f.action (last (first_number cells k) k H) (conflict_load f.action r k x c))
  timely_on (Wait items) go c me m =
      λ u b s.
      let o = and_parts (is_child t u) (has_no_items items || some_meet is_before items (items_of u (f ∷ H))) b in
      let sp = at u o.0 s in
      let b' : covers H t items u ≡ true = sym (ap (λ i. is_child t u && (has_no_items items || some_meet is_before items i)) (items_stay cells H l f mf u (not_again cells H l f mf u sp))) ∙ b in
      or_right (ends u f) _ (m u b' sp)
    where
      at : (u : Name) → is_child t u ≡ true → IsSpawned (f ∷ H) u → IsSpawned H u
      at [] b s = refl
      at (k ∷ p) b s =
          ⊎_elim
          (λ h.
          let e = cons_tail (spawn_names cells f.task (k ∷ p) (own f.task H) f.action mf.own h) in
          absurd (both_ways (is_of t f) other (subst (λ w. same_name w t ≡ true) e b)))
          (λ h. h)
          (or_cases (spawns (k ∷ p) f) (list_any (spawns (k ∷ p)) H) s)
  timely_on Close go c me m = λ u b s. or_right (ends u f) _ (at u (subst (λ acts. is_member acts u ≡ true) (own_other t f H other) b) s)
    where
      parent_ended : (k : ℕ) (p : Name) → spawns (k ∷ p) f ≡ true → p ≡ f.task → is_member (own t H) p ≡ true → ⊥
      parent_ended k p h e b =
          ⊎_elim
          (λ st. false≢true (sym (ap (is_spawn_of (k ∷ p)) st) ∙ h))
          (λ r.
          let sp = acted_spawned cells H f.task l (running_acts (own f.task H) r) in
          not_running cells H f.task l (m f.task (subst (λ w. is_member (own t H) w ≡ true) e b) sp) r)
          (begun cells f.task (own f.task H) f.action mf.own)

      at : (u : Name) → is_member (own t H) u ≡ true → IsSpawned (f ∷ H) u → HasEnded H u
      at [] b s = m [] b refl
      at (k ∷ p) b s =
          ⊎_elim
          (λ h.
          let e = cons_tail (spawn_names cells f.task (k ∷ p) (own f.task H) f.action mf.own h) in
          absurd (⊎_elim (λ d. both_ways (is_of t f) other (subst (λ w. same_name w t ≡ true) e d)) (parent_ended k p h e) (member_up cells H t k p l b)))
          (λ h. m (k ∷ p) b h)
          (or_cases (spawns (k ∷ p) f) (list_any (spawns (k ∷ p)) H) s)
  timely_on _ go c me m = tt

-- ---- the two

-- the two change places
pub swapped : (cells : Cells) (H : History) (e f : Event) → Legal cells (f ∷ e ∷ H) → needs (e ∷ H) f e ≡ false → Legal cells (e ∷ f ∷ H) × Alike (f ∷ e ∷ H) (e ∷ f ∷ H)
swapped cells H e f l n =
    let o = or_parts (is_of f.task e) _ n in
    let q = or_parts (spawns f.task e) _ o.1 in
    let c = (or_parts (conflicts f.action e.action) _ q.1).0 in
    let r = or_parts (conflicts f.action e.action) _ q.1 in
    let pr = (or_parts (is_end e.action && needs_end_of (e ∷ H) f.task f.action e.task) _ r.1).1 in
    let other : is_of e.task f ≡ false = same_sym e.task f.task o.0 in
    let none : list_any (needs (e ∷ H) f) (e ∷ []) ≡ false = ap (λ b. b || false) n in
    let mf = follows_stays cells (e ∷ H) H (e ∷ []) (parts.goes (all_stay H)) f none l.1 in
    let me = l.0.1 in (
      (
        (l.0.0, mf),
        record {
          own = subst (λ acts. Continues cells e.task acts e.action) (sym (own_other e.task f H other)) me.own;
          resumed = λ u h. or_right (ends u f) _ (me.resumed u (subst (λ acts. holds acts u ≡ true) (own_other e.task f H other) h));
          timely = timely_on cells H l.0.0 e.task f other mf e.action me.own c l.1 me.timely;
        },
      ),
      swap_alike e f H other c pr
          (λ t x y.
          let i = spawn_names cells e.task t (own e.task H) e.action me.own x in
          let j = spawn_names cells f.task t (own f.task H) f.action mf.own y in
          both_ways (is_of e.task f) other (subst (λ u. same_name u e.task ≡ true) (cons_tail (sym i ∙ j)) (same_refl e.task))),
    )

-- the front of a legal history is legal
pub legal_below : (cells : Cells) (R H : History) → Legal cells (R ++ H) → Legal cells H
legal_below cells [] H l = l
legal_below cells (v ∷ R) H l = legal_below cells R H l.0
