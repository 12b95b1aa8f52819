-- There is no dead end: where no task may go on, all have ended.
use Rattle.std.proofs.Common.{◌≡◌, ◌≢◌, ◌≤◌, ◌<◌, ℕ, zero, suc, ◌+◌, List, [], ◌∷◌, ◌++◌, length, Bool, true, ◌&&◌, ⊎_elim, refl, sym, ap, ◌∙◌, subst, IsTrue, ℤ, arith, nat_lt, ltb-true}
use Rattle.std.specs.List.{list_any, AllByRecursion}
use Rattle.std.proofs.lemmas.Bool.{or_cases, or_left, or_right, and_parts, cases_Bool, false≢true}
use Rattle.tb_model.specs.declared.item.Item.{Item}
use Rattle.tb_model.specs.declared.action.Action.{Action}
use Rattle.tb_model.specs.declared.action.Action.TheVariants.{Start, Let, Load, Store, Print, Spawn, Wait, Open, Close, Test, End, Fault}
use Rattle.tb_model.specs.Names.{Name, same_name, is_child, is_elder, is_within}
use Rattle.tb_model.specs.Items.{meets, some_meet, is_before, is_apart}
use Rattle.tb_model.specs.Facts.{History, is_of, own, is_start, is_spawn_of, items_of, apart, spawns, ends, starts, groups, last, holds, HasEnded, HasStarted, IsSpawned}
use Rattle.tb_model.specs.Legal.{Cells, first_number, IsRunning, Continues, MayStart, IsTimely, Legal}
use Rattle.tb_model.specs.Stuck.{IsStuck}
use Rattle.tb_model.proofs.TestLemmas.{same_true}
use Rattle.tb_model.proofs.FactsLemmas.{begun, not_started, acted_spawned, held_child, group_children, first_children}
use Rattle.tb_model.proofs.SettledLemmas.{within_length}
use Rattle.tb_model.proofs.FactsLemmas.{items_none}
use Rattle.tb_model.proofs.FactsLemmas.{spawned_by}

-- ---- lengths of names

child_longer : (t u : Name) → is_child t u ≡ true → length u ≡ suc (length t)
child_longer t [] h = absurd (false≢true h)
child_longer t (n ∷ u) h = ap (λ v. suc (length v)) (same_true u t h)

elder_length : (u t : Name) → is_elder u t ≡ true → length u ≡ length t
elder_length [] t h = absurd (false≢true h)
elder_length (m ∷ u) [] h = absurd (false≢true h)
elder_length (m ∷ u) (n ∷ t) h = ap (λ v. suc (length v)) (same_true u t (and_parts (nat_lt m n) (same_name u t) h).1)

apart_length : (H : History) (u t : Name) → apart H u t ≡ true → length u ≡ length t
apart_length H u t h =
    ⊎_elim (λ a. elder_length u t (and_parts (is_elder u t) _ a).0) (λ a. sym (elder_length t u (and_parts (is_elder t u) _ a).0))
    (or_cases (is_elder u t && some_meet is_apart (items_of t H) (items_of u H)) (is_elder t u && some_meet is_apart (items_of u H) (items_of t H)) h)

members_longer : (t m : Name) (us : List Name) → AllByRecursion (λ u. IsTrue (is_child t u)) us → list_any (λ c. is_within c m) us ≡ true → suc (length t) ≤ length m
members_longer t m [] g h = absurd (false≢true h)
members_longer t m (c ∷ us) g h =
    ⊎_elim (λ w. omega (arith, within_length c m w, child_longer t c g.0)) (λ r. members_longer t m us g.1 r) (or_cases (is_within c m) (list_any (λ d. is_within d m) us) h)

number : Name → ℕ
number [] = 0
number (n ∷ t) = n

elder_number : (u t : Name) → is_elder u t ≡ true → number u < number t
unfolding number
elder_number [] t h = absurd (false≢true h)
elder_number (m ∷ u) [] h = absurd (false≢true h)
elder_number (m ∷ u) (n ∷ t) h = ltb-true m n (and_parts (nat_lt m n) (same_name u t) h).0

-- no spawned name is longer than this
name_length : Action → ℕ
name_length (Spawn s) = length s.child
name_length _ = 0

deepest : History → ℕ
deepest [] = 0
deepest (v ∷ H) = name_length v.action + deepest H

name_bound : (t : Name) (a : Action) → is_spawn_of t a ≡ true → length t ≤ name_length a
unfolding name_length
name_bound t (Spawn s) h = omega (arith, ap length (same_true s.child t h))
name_bound t Start h = absurd (false≢true h)
name_bound t (Let r x) h = absurd (false≢true h)
name_bound t (Load r c x) h = absurd (false≢true h)
name_bound t (Store c x) h = absurd (false≢true h)
name_bound t (Print x) h = absurd (false≢true h)
name_bound t (Wait items) h = absurd (false≢true h)
name_bound t Open h = absurd (false≢true h)
name_bound t Close h = absurd (false≢true h)
name_bound t (Test b) h = absurd (false≢true h)
name_bound t End h = absurd (false≢true h)
name_bound t Fault h = absurd (false≢true h)

any_bound : (t : Name) (H : History) → list_any (spawns t) H ≡ true → length t ≤ deepest H
unfolding deepest
any_bound t [] h = absurd (false≢true h)
any_bound t (v ∷ H) h =
    ⊎_elim (λ a. omega (arith, name_bound t v.action a)) (λ a. omega (arith, any_bound t H a)) (or_cases (spawns t v) (list_any (spawns t) H) h)

depth_bound : (t : Name) (H : History) → IsSpawned H t → length t ≤ deepest H
depth_bound [] H s = omega arith
depth_bound (n ∷ t) H s = any_bound (n ∷ t) H s

-- who has items was spawned
pub items_spawned : (p : Item → Bool) (t : Name) (H : History) → list_any p (items_of t H) ≡ true → list_any (spawns t) H ≡ true
items_spawned p t [] h = absurd (false≢true h)
items_spawned p t (v ∷ H) h =
    ⊎_elim (λ a. or_left (spawns t v) _ a)
    (λ a. or_right (spawns t v) _ (items_spawned p t H (sym (ap (λ i. list_any p (i ++ items_of t H)) (items_none t v.action a)) ∙ h)))
    (cases_Bool (spawns t v))

-- ---- no dead end

module _ (cells : Cells) (H : History) (l : Legal cells H) (wants : Name → Action) (s : IsStuck cells H wants) where
  -- what a task that is under way wants is timely once all deeper tasks have ended
  timely_now : (t : Name) (a : Action) → Continues cells t (own t H) a → own t H ≢ [] → ((r c : ℕ) (x : ℤ) → a ≡ Load r c x → x ≡ last (first_number cells c) c H) → ((u : Name) → IsSpawned H u → length t < length u → HasEnded H u) → IsTimely cells H t a
  timely_now t Start h n q deep = absurd (n h)
  timely_now t (Load r c x) h n q deep = q r c x refl
  timely_now t (Wait items) h n q deep = λ u c sp. deep u sp (omega (arith, child_longer t u (and_parts (is_child t u) _ c).0))
  timely_now t Close h n q deep =
      λ m i sp. deep m sp (members_longer t m _ (first_children t (groups (own t H)) (group_children cells H t l)) i)
  timely_now t _ h n q deep = tt

  under_way : (t : Name) → IsSpawned H t → own t H ≢ [] → ((u : Name) → IsSpawned H u → length t < length u → HasEnded H u) → HasEnded H t
  under_way t sp n deep =
      ⊎_elim (λ a. a)
      (λ b.
      absurd (s.waits t sp b (record {
        own = s.fits t sp b;
        resumed = λ u h. let c = held_child cells H t u l h in deep u (spawned_by u H c.1) (omega (arith, child_longer t u c.0));
        timely = timely_now t (wants t) (s.fits t sp b) n (s.reads t) deep;
      })))
      (cases_Bool (list_any (ends t) H))

  started_acts : (u : Name) → HasStarted H u → own u H ≢ []
  started_acts u h z = not_started u H (starts u) (λ v q. (and_parts (is_of u v) (is_start v.action) q).0) z h

  may_start : (t : Name) → IsSpawned H t → ((u : Name) → IsSpawned H u → length t < length u → HasEnded H u) → ((u : Name) → IsSpawned H u → length u ≡ length t → number u < number t → HasEnded H u) → MayStart H t
  may_start t sp deep elder = record {
    spawned = sp;
    behind =
        λ u b.
        let o = and_parts (is_elder u t) (some_meet is_before (items_of t H) (items_of u H)) b in
        elder u (with_items u o.1) (elder_length u t o.0) (elder_number u t o.0);
    alone =
        λ u b st.
        let acts = started_acts u st in
        let e = apart_length H u t b in
        under_way u (acted_spawned cells H u l acts) acts (λ w q lt. deep w q (omega arith));
  }
    where
      with_items : (u : Name) → some_meet is_before (items_of t H) (items_of u H) ≡ true → IsSpawned H u
      with_items [] h = refl
      with_items (n ∷ u) h = any_left (items_of t H) h
        where
          any_left : (is : List Item) → some_meet is_before is (items_of (n ∷ u) H) ≡ true → list_any (spawns (n ∷ u)) H ≡ true
          any_left [] h = absurd (false≢true h)
          any_left (i ∷ is) h =
              ⊎_elim (λ a. items_spawned (meets is_before i) (n ∷ u) H a) (λ a. any_left is a) (or_cases (list_any (meets is_before i) (items_of (n ∷ u) H)) (some_meet is_before is (items_of (n ∷ u) H)) h)

  one_ended : (t : Name) → IsSpawned H t → ((u : Name) → IsSpawned H u → length t < length u → HasEnded H u) → ((u : Name) → IsSpawned H u → length u ≡ length t → number u < number t → HasEnded H u) → HasEnded H t
  one_ended t sp deep elder = at (own t H) refl
    where
      at : (acts : List Action) → own t H ≡ acts → HasEnded H t
      at (a ∷ acts) e = under_way t sp (λ z. cc) deep
      at [] e =
          ⊎_elim (λ y. y)
          (λ b.
          absurd (⊎_elim
          (λ st. s.waits t sp b (record {
            own = s.fits t sp b;
            resumed = λ u h. absurd (false≢true (sym (ap (λ acts. holds acts u) e) ∙ h));
            timely = subst (IsTimely cells H t) (sym st) (may_start t sp deep elder);
          }))
          (λ r. subst IsRunning e r)
          (begun cells t (own t H) (wants t) (s.fits t sp b))))
          (cases_Bool (list_any (ends t) H))

  all_of : (k m : ℕ) (t : Name) → deepest H < length t + k → number t < m → ((u : Name) → IsSpawned H u → length t < length u → HasEnded H u) → IsSpawned H t → HasEnded H t
  all_of k zero t d n deep sp = absurd (omega arith)
  all_of k (suc m) t d n deep sp =
      one_ended t sp deep (λ u q e lt. all_of k m u (omega arith) (omega arith) (λ w r x. deep w r (omega arith)) q)

  down : (k : ℕ) (t : Name) → deepest H < length t + k → IsSpawned H t → HasEnded H t
  down zero t d sp = absurd (omega (arith, depth_bound t H sp))
  down (suc k) t d sp =
      all_of (suc k) (suc (number t)) t d (omega arith) (λ u q lt. down k u (omega arith) q) sp

  -- by depth, the deepest tasks first; among equally deep ones by their ordinal
  pub no_dead_end : (t : Name) → IsSpawned H t → HasEnded H t
  no_dead_end t sp = down (suc (deepest H)) t (omega arith) sp
