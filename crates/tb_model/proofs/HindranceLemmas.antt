-- What blocks a task's action: the function finds the first, and nothing is found exactly where the
-- event may follow.
use Rattle.std.proofs.Common.{◌≡◌, List, [], ◌∷◌, Bool, true, false, ◌&&◌, not, ◌⊎◌, inl, inr, ⊎_elim, ◌↔◌, refl, sym, ap, ap₂, ◌∙◌, subst, IsTrue, Option, Some, None, option_map}
use Rattle.std.specs.List.{list_any}
use Rattle.std.specs.Option.{option_or}
use Rattle.std.proofs.lemmas.Bool.{or_cases, or_left, or_right, and_parts, false≢true}
use Rattle.tb_model.specs.declared.item.Item.{Item}
use Rattle.tb_model.specs.declared.action.Action.{Action}
use Rattle.tb_model.specs.declared.action.Action.TheVariants.{Start, Load, Spawn, Wait, Close}
use Rattle.tb_model.specs.Names.{Name, is_elder}
use Rattle.tb_model.specs.Items.{Relation, meets, some_meet, is_before, is_apart}
use Rattle.tb_model.specs.Facts.{History, is_of, own, prepend_if, is_spawn_of, items_of, before, apart, covers, is_member, is_spawned, spawns, starts, ends, holds, IsSpawned}
use Rattle.tb_model.specs.State.{is_unended_covered, is_unended_member, is_unended_undeferred}
use Rattle.tb_model.specs.Legal.{Cells, Continues, IsTimely, IsResumed, MayFollow}
use Rattle.tb_model.specs.Program.{loaded}
use Rattle.tb_model.specs.Hindrances.{spawned_names, least_where, is_waited_for, is_excluding, least_as, untimely, in_the_way, IsLeast, IsFree, Hindrance, Undeferred, Waiting, Excluded, Children, Group, Hinders, number_read}
use Rattle.tb_model.proofs.DeadEndLemmas.{items_spawned}
use Rattle.tb_model.proofs.FactsLemmas.{spawned_by}
use Rattle.tb_model.proofs.LeastNameLemmas.{least_found, one_least}

-- ---- only tasks are named

-- who has items that meet others was generated
meets_spawned : (test : Relation → Bool) (u : Name) (H : History) (items : List Item) → some_meet test items (items_of u H) ≡ true → list_any (spawns u) H ≡ true
meets_spawned test u H [] h = absurd (false≢true h)
meets_spawned test u H (i ∷ items) h =
    ⊎_elim (λ a. items_spawned (meets test i) u H a) (λ a. meets_spawned test u H items a)
    (or_cases (list_any (meets test i) (items_of u H)) (some_meet test items (items_of u H)) h)

before_spawned : (H : History) (u t : Name) → before H u t ≡ true → IsSpawned H u
before_spawned H u t h =
    spawned_by u H (meets_spawned is_before u H (items_of t H) (and_parts (is_elder u t) _ h).1)

apart_spawned : (H : History) (u t : Name) → apart H u t ≡ true → IsSpawned H u
apart_spawned H u t h =
    spawned_by u H
    (⊎_elim (λ a. meets_spawned is_apart u H (items_of t H) (and_parts (is_elder u t) _ a).1)
    (λ a. items_spawned (λ i. list_any (meets is_apart i) (items_of t H)) u H (and_parts (is_elder t u) _ a).1)
    (or_cases (is_elder u t && some_meet is_apart (items_of t H) (items_of u H)) (is_elder t u && some_meet is_apart (items_of u H) (items_of t H)) h))

-- whether an action generates an undeferred child
is_undeferred : Action → Bool
is_undeferred (Spawn s) = not s.deferred
is_undeferred _ = false

held_by : (a : Action) (acts : List Action) (u : Name) → holds (a ∷ acts) u ≡ (is_undeferred a && is_spawn_of u a)
unfolding is_undeferred
held_by (Spawn s) acts u = refl
held_by _ acts u = refl

held_spawned : (H : History) (t u : Name) → holds (own t H) u ≡ true → list_any (spawns u) H ≡ true
held_spawned [] t u h = absurd (false≢true h)
held_spawned (v ∷ H) t u h = at (is_of t v) (held_spawned H t u) h
  where
    at : (b : Bool) → (holds (own t H) u ≡ true → list_any (spawns u) H ≡ true) → holds (prepend_if b v.action (own t H)) u ≡ true → list_any (spawns u) (v ∷ H) ≡ true
    at true rest h = or_left (spawns u v) _ (and_parts (is_undeferred v.action) (is_spawn_of u v.action) (sym (held_by v.action (own t H) u) ∙ h)).1
    at false rest h = or_right (spawns u v) _ (rest h)

-- ---- the least of each kind

module _ (H : History) (t : Name) where
  undeferred_least : IsLeast (is_unended_undeferred H t) (least_where (is_unended_undeferred H t) (spawned_names H))
  undeferred_least = least_found H (is_unended_undeferred H t) (λ u h. spawned_by u H (held_spawned H t u (and_parts (holds (own t H) u) _ h).0))

  waited_least : IsLeast (is_waited_for H t) (least_where (is_waited_for H t) (spawned_names H))
  waited_least = least_found H (is_waited_for H t) (λ u h. before_spawned H u t (and_parts (before H u t) _ h).0)

  excluding_least : IsLeast (is_excluding H t) (least_where (is_excluding H t) (spawned_names H))
  excluding_least = least_found H (is_excluding H t) (λ u h. apart_spawned H u t (and_parts (apart H u t) _ h).0)

  covered_least : (items : List Item) → IsLeast (is_unended_covered H t items) (least_where (is_unended_covered H t items) (spawned_names H))
  covered_least items = least_found H (is_unended_covered H t items) (λ u h. (and_parts (is_spawned H u) _ (and_parts (covers H t items u) _ h).1).0)

  member_least : IsLeast (is_unended_member H t) (least_where (is_unended_member H t) (spawned_names H))
  member_least = least_found H (is_unended_member H t) (λ u h. (and_parts (is_spawned H u) _ (and_parts (is_member (own t H) u) _ h).1).0)

-- none is found exactly where no task passes
none_passes : (p : Name → Bool) (o : Option Name) → IsLeast p o → o ≡ None → (u : Name) → p u ≡ true → ⊥
none_passes p o r e u h = let l = r.least u h in cc

none_found : (p : Name → Bool) (o : Option Name) → IsLeast p o → ((u : Name) → p u ≡ true → ⊥) → o ≡ None
none_found p None r f = refl
none_found p (Some u) r f = absurd (f u (r.found u refl))

-- ---- the first that holds

or_none : {A : Type 0} (o q : Option A) → option_or o q ≡ None → (o ≡ None) × (q ≡ None)
or_none None q e = (refl, e)
or_none (Some x) q e = cc

or_some : {A : Type 0} (o q : Option A) (x : A) → option_or o q ≡ Some x → (o ≡ Some x) ⊎ ((o ≡ None) × (q ≡ Some x))
or_some None q x e = inr (refl, e)
or_some (Some y) q x e = inl e

map_none : {A B : Type 0} (f : A → B) (o : Option A) → option_map f o ≡ None → o ≡ None
map_none f None e = refl
map_none f (Some x) e = cc

map_some : {A B : Type 0} (f : A → B) (o : Option A) (y : B) → option_map f o ≡ Some y → (x : A) × (o ≡ Some x) × (f x ≡ y)
map_some f None y e = cc
map_some f (Some x) y e = (x, refl, cc)

-- ---- what is found is the first hindrance, and the other way

module _ (H : History) (t : Name) where
  named : (kind : Name → Hindrance) (p : Name → Bool) (a : Action) (h : Hindrance) → ((u : Name) → IsLeast p (Some u) → Hinders H t a (kind u)) → IsLeast p (least_where p (spawned_names H)) → least_as kind p H ≡ Some h → Hinders H t a h
  named kind p a h f r e =
      let m = map_some kind (least_where p (spawned_names H)) h e in
      subst (Hinders H t a) m.2 (f m.0 (subst (IsLeast p) m.1 r))

  none : (kind : Name → Hindrance) (p : Name → Bool) → IsLeast p (least_where p (spawned_names H)) → least_as kind p H ≡ None → IsLeast p None
  none kind p r e = subst (IsLeast p) (map_none kind (least_where p (spawned_names H)) e) r

  untimely_found : (a : Action) (h : Hindrance) → IsFree H t → untimely H t a ≡ Some h → Hinders H t a h
  untimely_found Start h free e =
      ⊎_elim (λ a. named Waiting (is_waited_for H t) Start h (λ u r. (free, refl, r)) (waited_least H t) a)
      (λ b. named Excluded (is_excluding H t) Start h (λ u r. (free, refl, none Waiting (is_waited_for H t) (waited_least H t) b.0, r)) (excluding_least H t) b.1)
      (or_some (least_as Waiting (is_waited_for H t) H) (least_as Excluded (is_excluding H t) H) h e)
  untimely_found (Wait items) h free e =
      named Children (is_unended_covered H t items) (Wait items) h (λ u r. (free, items, refl, r)) (covered_least H t items) e
  untimely_found Close h free e =
      named Group (is_unended_member H t) Close h (λ u r. (free, refl, r)) (member_least H t) e
  untimely_found _ h free e = cc

  found : (a : Action) (h : Hindrance) → in_the_way H t a ≡ Some h → Hinders H t a h
  found a h e =
      let r = undeferred_least H t in
      ⊎_elim (λ b. named Undeferred (is_unended_undeferred H t) a h (λ u l. l) r b)
      (λ b. untimely_found a h (none Undeferred (is_unended_undeferred H t) r b.0) b.1)
      (or_some (least_as Undeferred (is_unended_undeferred H t) H) (untimely H t a) h e)

  -- the least is what is found
  is_found : (kind : Name → Hindrance) (p : Name → Bool) (o : Option Name) → IsLeast p (least_where p (spawned_names H)) → IsLeast p o → least_as kind p H ≡ option_map kind o
  is_found kind p o r l = ap (option_map kind) (one_least (λ u. IsTrue (p u)) _ o r l)

  behind : (a : Action) (o : Option Hindrance) → IsFree H t → untimely H t a ≡ o → in_the_way H t a ≡ o
  behind a o free e = ap₂ option_or (is_found Undeferred (is_unended_undeferred H t) None (undeferred_least H t) free) e

  from_hindrance : (a : Action) (h : Hindrance) → Hinders H t a h → in_the_way H t a ≡ Some h
  from_hindrance a (Undeferred u) k =
      ap (λ o. option_or o (untimely H t a)) (is_found Undeferred (is_unended_undeferred H t) (Some u) (undeferred_least H t) k)
  from_hindrance a (Waiting u) k =
      behind a (Some (Waiting u)) k.0
      (ap (untimely H t) k.1 ∙ ap (λ o. option_or o (least_as Excluded (is_excluding H t) H)) (is_found Waiting (is_waited_for H t) (Some u) (waited_least H t) k.2))
  from_hindrance a (Excluded u) k =
      behind a (Some (Excluded u)) k.0
      (ap (untimely H t) k.1
      ∙ ap₂ option_or (is_found Waiting (is_waited_for H t) None (waited_least H t) k.2) (is_found Excluded (is_excluding H t) (Some u) (excluding_least H t) k.3))
  from_hindrance a (Children u) k =
      behind a (Some (Children u)) k.0
      (ap (untimely H t) k.2 ∙ is_found Children (is_unended_covered H t k.1) (Some u) (covered_least H t k.1) k.3)
  from_hindrance a (Group u) k =
      behind a (Some (Group u)) k.0 (ap (untimely H t) k.1 ∙ is_found Group (is_unended_member H t) (Some u) (member_least H t) k.2)

-- the first hindrance is found, and what is found is the first
pub in_the_way_hinders : (H : History) (t : Name) (a : Action) (h : Hindrance) → (in_the_way H t a ≡ Some h) ↔ Hinders H t a h
in_the_way_hinders H t a h = (found H t a h, from_hindrance H t a h)

-- ---- nothing is found exactly where the event may follow

-- where a test that asks for an unended task fails, the task has ended; and the other way
ended_if : (b c : Bool) → ((b && not c) ≡ true → ⊥) → b ≡ true → c ≡ true
ended_if true true f h = refl
ended_if true false f h = absurd (f refl)
ended_if false c f h = absurd (false≢true h)

ended_if_both : (b s c : Bool) → ((b && (s && not c)) ≡ true → ⊥) → b ≡ true → s ≡ true → c ≡ true
ended_if_both b true c f h k = ended_if b c f h
ended_if_both b false c f h k = absurd (false≢true k)

none_unended : (b c : Bool) → (b ≡ true → c ≡ true) → (b && not c) ≡ true → ⊥
none_unended true true f h = false≢true h
none_unended true false f h = false≢true (f refl)
none_unended false c f h = false≢true h

none_unended_both : (b s c : Bool) → (b ≡ true → s ≡ true → c ≡ true) → (b && (s && not c)) ≡ true → ⊥
none_unended_both b true c f h = none_unended b c (λ k. f k refl) h
none_unended_both true false c f h = false≢true h
none_unended_both false false c f h = false≢true h

module _ (cells : Cells) (H : History) (t : Name) where
  -- no task passes the test, since none is found
  passed : (kind : Name → Hindrance) (p : Name → Bool) → IsLeast p (least_where p (spawned_names H)) → least_as kind p H ≡ None → (u : Name) → p u ≡ true → ⊥
  passed kind p r e = none_passes p (least_where p (spawned_names H)) r (map_none kind (least_where p (spawned_names H)) e)

  resumed : least_as Undeferred (is_unended_undeferred H t) H ≡ None → IsResumed H t
  resumed e u h =
      ended_if (holds (own t H) u) (list_any (ends u) H) (passed Undeferred (is_unended_undeferred H t) (undeferred_least H t) e u) h

  timely : (a : Action) → IsSpawned H t → loaded a ≡ number_read cells H a → untimely H t a ≡ None → IsTimely cells H t a
  timely Start s q e =
      let o = or_none (least_as Waiting (is_waited_for H t) H) (least_as Excluded (is_excluding H t) H) e in
      record {
        spawned = s;
        behind = λ u b. ended_if (before H u t) (list_any (ends u) H) (passed Waiting (is_waited_for H t) (waited_least H t) o.0 u) b;
        alone = λ u b st. ended_if_both (apart H u t) (list_any (starts u) H) (list_any (ends u) H) (passed Excluded (is_excluding H t) (excluding_least H t) o.1 u) b st;
      }
  timely (Load r c x) s q e = q
  timely (Wait items) s q e =
      λ u c sp. ended_if_both (covers H t items u) (is_spawned H u) (list_any (ends u) H) (passed Children (is_unended_covered H t items) (covered_least H t items) e u) c sp
  timely Close s q e =
      λ u m sp. ended_if_both (is_member (own t H) u) (is_spawned H u) (list_any (ends u) H) (passed Group (is_unended_member H t) (member_least H t) e u) m sp
  timely _ s q e = tt

  may_follow : (a : Action) → IsSpawned H t → Continues cells t (own t H) a → loaded a ≡ number_read cells H a → in_the_way H t a ≡ None → MayFollow cells H (record { task = t; action = a })
  may_follow a s k q e =
      let o = or_none (least_as Undeferred (is_unended_undeferred H t) H) (untimely H t a) e in
      record { own = k; resumed = resumed o.0; timely = timely a s q o.1 }

  -- none is found, since no task passes the test
  nothing : (kind : Name → Hindrance) (p : Name → Bool) → IsLeast p (least_where p (spawned_names H)) → ((u : Name) → p u ≡ true → ⊥) → least_as kind p H ≡ None
  nothing kind p r f = ap (option_map kind) (none_found p (least_where p (spawned_names H)) r f)

  not_untimely : (a : Action) → IsTimely cells H t a → untimely H t a ≡ None
  not_untimely Start m =
      ap₂ option_or
      (nothing Waiting (is_waited_for H t) (waited_least H t) (λ u. none_unended (before H u t) (list_any (ends u) H) (m.behind u)))
      (nothing Excluded (is_excluding H t) (excluding_least H t) (λ u. none_unended_both (apart H u t) (list_any (starts u) H) (list_any (ends u) H) (m.alone u)))
  not_untimely (Wait items) m =
      nothing Children (is_unended_covered H t items) (covered_least H t items) (λ u. none_unended_both (covers H t items u) (is_spawned H u) (list_any (ends u) H) (m u))
  not_untimely Close m =
      nothing Group (is_unended_member H t) (member_least H t) (λ u. none_unended_both (is_member (own t H) u) (is_spawned H u) (list_any (ends u) H) (m u))
  not_untimely _ m = refl

  nothing_way : (a : Action) → MayFollow cells H (record { task = t; action = a }) → in_the_way H t a ≡ None
  nothing_way a m =
      ap₂ option_or
      (nothing Undeferred (is_unended_undeferred H t) (undeferred_least H t) (λ u. none_unended (holds (own t H) u) (list_any (ends u) H) (m.resumed u)))
      (not_untimely a m.timely)

-- of an action that fits the task's own, and reads its cell
pub nothing_in_the_way : (cells : Cells) (H : History) (t : Name) (a : Action) → IsSpawned H t → Continues cells t (own t H) a → loaded a ≡ number_read cells H a → (in_the_way H t a ≡ None) ↔ MayFollow cells H (record { task = t; action = a })
nothing_in_the_way cells H t a s k q = (may_follow cells H t a s k q, nothing_way cells H t a)

-- an action that may follow is blocked by nothing
pub nothing_keeps : (cells : Cells) (H : History) (t : Name) (a : Action) → MayFollow cells H (record { task = t; action = a }) → in_the_way H t a ≡ None
nothing_keeps cells H t a m = nothing_way cells H t a m
