-- The lines of all tasks, where only those that haven't ended have some.
use Rattle.std.proofs.Common.{◌≡◌, ◌⊎◌, ℕ, List, [], ◌∷◌, ◌++◌, Bool, true, false, not, cond, refl, sym, ap, ◌∙◌, subst, ⊎_elim, inl, inr, IsTrue, Option, Some}
use Rattle.std.specs.Prelude.{◌||◌, ◌&&◌, is_none, option_map}
use Rattle.std.specs.List.{list_any, AllByRecursion}
use Rattle.std.specs.BTreeMap.{insert_entry}
use Rattle.std.specs.Ordering.{ordering_reverse, is_eq, match_ordering}
use Rattle.std.specs.declared.cmp.Ordering.{Ordering}
use Rattle.std.specs.declared.cmp.Ordering.TheVariants.{Less, Equal, Greater}
use Rattle.std.proofs.lemmas.Bool.{false≢true, both_ways, and_parts, or_cases, or_left, or_right}
use Rattle.tb_model.specs.declared.action.Action.{Action}
use Rattle.tb_model.specs.declared.action.Action.TheVariants.{Start, Let, Load, Store, Print, Spawn, Wait, Open, Close, Test, End, Fault}
use Rattle.tb_model.specs.declared.spawn.Spawn.{Spawn as TheSpawn}
use Rattle.tb_model.specs.Names.{Name, same_name, name_cmp}
use Rattle.tb_model.specs.NameLaws.{name_cmp_total, name_cmp_ties}
use Rattle.tb_model.specs.Facts.{History, is_spawned, is_spawn_of, spawns, ends}
use Rattle.tb_model.specs.Hindrances.{Hindrance, By, NoSuchTask, Ended, can_step, in_the_way, refusal_of}
use Rattle.tb_model.specs.Program.{Program, planned, zero_ℤ}
use Rattle.tb_model.specs.State.{is_unended}
use Rattle.tb_model.proofs.TestLemmas.{same_true, same_refl}
use Rattle.tb_core.specs.Listed.{Rises, AreAll}
use Rattle.tb_view.specs.Listing.{lines_of}
use Rattle.tb_view.specs.Tasks.{Named, named_tasks, names_of, with_spawned}
use Rattle.tb_view.specs.Waits.{ready_by, ready_line, wait_by, wait_line}

-- ---- names in their order

-- u comes after t
abbrev pub Follows : Name → Name → Type 0
Follows t u = name_cmp t u ≡ Less

abbrev is_in : Name → List Name → Bool
is_in u ts = list_any (same_name u) ts

not_both : (t u : Name) → name_cmp t u ≡ Less → name_cmp u t ≡ Less → ⊥
not_both t u a b = cc (name_cmp_total.antisymm t u, a, b)

not_itself : (t : Name) → name_cmp t t ≡ Less → ⊥
not_itself t h = not_both t t h h

behind_each : (t : Name) (us : List Name) → AllByRecursion (Follows t) us → (u : Name) → is_in u us ≡ true → name_cmp t u ≡ Less
behind_each t [] all u i = absurd (false≢true i)
behind_each t (w ∷ us) all u i =
    ⊎_elim (λ s. subst (λ v. name_cmp t v ≡ Less) (sym (same_true u w s)) all.0) (λ r. behind_each t us all.1 u r) (or_cases (same_name u w) (is_in u us) i)

-- ---- one task more among the named

all_later : (t u : Name) (us : List Name) → name_cmp t u ≡ Less → AllByRecursion (Follows u) us → AllByRecursion (Follows t) us
all_later t u [] h all = tt
all_later t u (w ∷ us) h all = (name_cmp_total.trans t u w h all.0, all_later t u us h all.1)

module _ (k : Name) (v : ℕ) where
  all_insert : (t : Name) (es : List Named) → name_cmp t k ≡ Less → AllByRecursion (Follows t) (names_of es) → AllByRecursion (Follows t) (names_of (insert_entry name_cmp es k v))
  all_insert t [] h all = (h, tt)
  all_insert t (e ∷ es) h all = at (name_cmp k e.0) (all_insert t es h all.1)
    where
      at : (o : Ordering) → AllByRecursion (Follows t) (names_of (insert_entry name_cmp es k v)) → AllByRecursion (Follows t) (names_of (match_ordering o ((k, v) ∷ e ∷ es) ((e.0, v) ∷ es) (e ∷ insert_entry name_cmp es k v)))
      at Less r = (h, all)
      at Equal r = all
      at Greater r = (all.0, r)

  pub rises_insert : (es : List Named) → Rises (names_of es) → Rises (names_of (insert_entry name_cmp es k v))
  rises_insert [] r = (tt, tt)
  rises_insert (e ∷ es) r = at (name_cmp k e.0) refl (rises_insert es r.1)
    where
      at : (o : Ordering) → name_cmp k e.0 ≡ o → Rises (names_of (insert_entry name_cmp es k v)) → Rises (names_of (match_ordering o ((k, v) ∷ e ∷ es) ((e.0, v) ∷ es) (e ∷ insert_entry name_cmp es k v)))
      at Less c more = ((c, all_later k e.0 (names_of es) c r.0), r)
      at Equal c more = r
      at Greater c more = (all_insert e.0 es (cc (name_cmp_total.antisymm e.0 k, ap ordering_reverse c)) r.0, more)

  stays_in : (es : List Named) (u : Name) → is_in u (names_of es) ≡ true → is_in u (names_of (insert_entry name_cmp es k v)) ≡ true
  stays_in [] u i = absurd (false≢true i)
  stays_in (e ∷ es) u i = at (name_cmp k e.0) (stays_in es u)
    where
      at : (o : Ordering) → (is_in u (names_of es) ≡ true → is_in u (names_of (insert_entry name_cmp es k v)) ≡ true)
          → is_in u (names_of (match_ordering o ((k, v) ∷ e ∷ es) ((e.0, v) ∷ es) (e ∷ insert_entry name_cmp es k v))) ≡ true
      at Less more = or_right (same_name u k) _ i
      at Equal more = i
      at Greater more = ⊎_elim (λ s. or_left (same_name u e.0) _ s) (λ r. or_right (same_name u e.0) _ (more r)) (or_cases (same_name u e.0) (is_in u (names_of es)) i)

  comes_in : (es : List Named) → is_in k (names_of (insert_entry name_cmp es k v)) ≡ true
  comes_in [] = or_left (same_name k k) _ (same_refl k)
  comes_in (e ∷ es) = at (name_cmp k e.0) refl (comes_in es)
    where
      at : (o : Ordering) → name_cmp k e.0 ≡ o → is_in k (names_of (insert_entry name_cmp es k v)) ≡ true
          → is_in k (names_of (match_ordering o ((k, v) ∷ e ∷ es) ((e.0, v) ∷ es) (e ∷ insert_entry name_cmp es k v))) ≡ true
      at Less c more = or_left (same_name k k) _ (same_refl k)
      at Equal c more = or_left (same_name k e.0) _ (name_cmp_ties k e.0 ∙ ap is_eq c)
      at Greater c more = or_right (same_name k e.0) _ more

-- an action generates a task, or leaves the named as they are
generates : (a : Action) → ((s : TheSpawn) × (a ≡ Spawn s)) ⊎ (((es : List Named) → with_spawned a es ≡ es) × ((u : Name) → is_spawn_of u a ≡ false))
generates (Spawn s) = inl (s, refl)
generates Start = inr ((λ es. refl), λ u. refl)
generates (Let x y) = inr ((λ es. refl), λ u. refl)
generates (Load x y z) = inr ((λ es. refl), λ u. refl)
generates (Store x y) = inr ((λ es. refl), λ u. refl)
generates (Print x) = inr ((λ es. refl), λ u. refl)
generates (Wait x) = inr ((λ es. refl), λ u. refl)
generates Open = inr ((λ es. refl), λ u. refl)
generates Close = inr ((λ es. refl), λ u. refl)
generates (Test x) = inr ((λ es. refl), λ u. refl)
generates End = inr ((λ es. refl), λ u. refl)
generates Fault = inr ((λ es. refl), λ u. refl)

module _ (a : Action) (es : List Named) where
  rises_with : Rises (names_of es) → Rises (names_of (with_spawned a es))
  rises_with r =
      ⊎_elim
      (λ g. subst (λ b. Rises (names_of (with_spawned b es))) (sym g.1) (rises_insert g.0.child g.0.body es r))
      (λ k. subst (λ l. Rises (names_of l)) (sym (k.0 es)) r)
      (generates a)

  stays_with : (u : Name) → is_in u (names_of es) ≡ true → is_in u (names_of (with_spawned a es)) ≡ true
  stays_with u i =
      ⊎_elim
      (λ g. subst (λ b. is_in u (names_of (with_spawned b es)) ≡ true) (sym g.1) (stays_in g.0.child g.0.body es u i))
      (λ k. subst (λ l. is_in u (names_of l) ≡ true) (sym (k.0 es)) i)
      (generates a)

  comes_with : (u : Name) → is_spawn_of u a ≡ true → is_in u (names_of (with_spawned a es)) ≡ true
  comes_with u h =
      ⊎_elim
      (λ g.
      subst (λ b. is_in u (names_of (with_spawned b es)) ≡ true) (sym g.1)
      (subst (λ w. is_in w (names_of (insert_entry name_cmp es g.0.child g.0.body)) ≡ true)
      (same_true g.0.child u (subst (λ b. is_spawn_of u b ≡ true) g.1 h)) (comes_in g.0.child g.0.body es)))
      (λ k. absurd (both_ways (is_spawn_of u a) (k.1 u) h))
      (generates a)

module _ (root_line : ℕ) where
  named_rise : (H : History) → Rises (names_of (named_tasks root_line H))
  named_rise [] = (tt, tt)
  named_rise (v ∷ H) = rises_with v.action (named_tasks root_line H) (named_rise H)

  root_named : (H : History) → is_in [] (names_of (named_tasks root_line H)) ≡ true
  root_named [] = refl
  root_named (v ∷ H) = stays_with v.action (named_tasks root_line H) [] (root_named H)

  spawned_named : (u : Name) (H : History) → list_any (spawns u) H ≡ true → is_in u (names_of (named_tasks root_line H)) ≡ true
  spawned_named u [] h = absurd (false≢true h)
  spawned_named u (v ∷ H) h =
      ⊎_elim (λ s. comes_with v.action (named_tasks root_line H) u s) (λ r. stays_with v.action (named_tasks root_line H) u (spawned_named u H r)) (or_cases (spawns u v) (list_any (spawns u) H) h)

  named : (H : History) (u : Name) → is_spawned H u ≡ true → is_in u (names_of (named_tasks root_line H)) ≡ true
  named H [] s = root_named H
  named H (n ∷ t) s = spawned_named (n ∷ t) H s

-- ---- the lines of some of the named are those of all

module _ (g : Name → List (List ℕ)) where
  abbrev Same : List Named → List Name → Type 0
  Same xs ts =
      Rises ts → ((u : Name) → is_in u ts ≡ true → is_in u (names_of xs) ≡ true) → ((u : Name) → is_in u (names_of xs) ≡ true → is_in u ts ≡ false → g u ≡ [])
      → lines_of (λ (t : Named). g t.0) xs ≡ lines_of g ts

  -- the first of the named isn't among the others, or is their first
  module _ (x : Named) (xs : List Named) (r : Rises (x.0 ∷ names_of xs)) where
    left_out : (ts : List Name) → is_in x.0 ts ≡ false → Same xs ts → Same (x ∷ xs) ts
    left_out ts e rest q sub none =
        ap (λ l. l ++ lines_of (λ (t : Named). g t.0) xs) (none x.0 (or_left (same_name x.0 x.0) _ (same_refl x.0)) e)
        ∙ rest q
        (λ u i. ⊎_elim (λ s. absurd (both_ways (is_in x.0 ts) e (subst (λ w. is_in w ts ≡ true) (same_true u x.0 s) i))) (λ h. h) (or_cases (same_name u x.0) (is_in u (names_of xs)) (sub u i)))
        (λ u i n. none u (or_right (same_name u x.0) _ i) n)

    is_first : (t : Name) (ts : List Name) → Rises (t ∷ ts) → is_in x.0 (t ∷ ts) ≡ true → is_in t (x.0 ∷ names_of xs) ≡ true → t ≡ x.0
    is_first t ts q e i =
        ⊎_elim (λ s. same_true t x.0 s)
        (λ l. ⊎_elim (λ s. sym (same_true x.0 t s)) (λ m. absurd (not_both x.0 t (behind_each x.0 (names_of xs) r.0 t l) (behind_each t ts q.0 x.0 m))) (or_cases (same_name x.0 t) (is_in x.0 ts) e))
        (or_cases (same_name t x.0) (is_in t (names_of xs)) i)

    kept_in : (ts : List Name) → is_in x.0 ts ≡ true → ((us : List Name) → Same xs us) → Same (x ∷ xs) ts
    kept_in [] e rest q sub none = absurd (false≢true e)
    kept_in (t ∷ ts) e rest q sub none =
        ap (λ w. g w ++ lines_of (λ (y : Named). g y.0) xs) (sym first)
        ∙ ap (λ l. g t ++ l) (rest ts q.1
        (λ u i. ⊎_elim (λ s. absurd (not_itself t (subst (λ w. name_cmp t w ≡ Less) (same_true u x.0 s ∙ sym first) (behind_each t ts q.0 u i)))) (λ h. h)
        (or_cases (same_name u x.0) (is_in u (names_of xs)) (sub u (or_right (same_name u t) _ i))))
        (λ u i n. none u (or_right (same_name u x.0) _ i) (apart u i n)))
      where
        first : t ≡ x.0
        first = is_first t ts q e (sub t (or_left (same_name t t) _ (same_refl t)))

        apart : (u : Name) → is_in u (names_of xs) ≡ true → is_in u ts ≡ false → is_in u (t ∷ ts) ≡ false
        apart u i n = at (same_name u t) refl
          where
            at : (b : Bool) → same_name u t ≡ b → (b || is_in u ts) ≡ false
            at true s = absurd (not_itself x.0 (subst (λ w. name_cmp x.0 w ≡ Less) (same_true u t s ∙ first) (behind_each x.0 (names_of xs) r.0 u i)))
            at false s = n

    first_by : (ts : List Name) (b : Bool) → is_in x.0 ts ≡ b → ((us : List Name) → Same xs us) → Same (x ∷ xs) ts
    first_by ts true e rest = kept_in ts e rest
    first_by ts false e rest = left_out ts e (rest ts)

  same_lines : (xs : List Named) → Rises (names_of xs) → (ts : List Name) → Same xs ts
  same_lines [] r [] q sub none = refl
  same_lines [] r (t ∷ ts) q sub none = absurd (false≢true (sub t (or_left (same_name t t) _ (same_refl t))))
  same_lines (x ∷ xs) r ts q sub none = first_by x xs r ts (is_in x.0 ts) refl (same_lines xs r.1) q sub none

-- ---- a task that has ended has no line

module _ (P : Program) (H : History) (ts : List Name) (all : AreAll (λ u. IsTrue (is_unended H u)) ts) where
  ended : (u : Name) → is_in u ts ≡ false → is_unended H u ≡ false
  ended u n = at (is_unended H u) refl
    where
      at : (b : Bool) → is_unended H u ≡ b → is_unended H u ≡ false
      at true e = absurd (both_ways (is_in u ts) n (all.whole u e))
      at false e = e

  each_named : (us : List Name) → AllByRecursion (λ u. IsTrue (is_unended H u)) us → (u : Name) → is_in u us ≡ true → is_in u (names_of (named_tasks P.root_line H)) ≡ true
  each_named [] p u i = absurd (false≢true i)
  each_named (w ∷ us) p u i =
      ⊎_elim (λ s. named P.root_line H u (and_parts (is_spawned H u) (not (list_any (ends u) H)) (subst (λ v. is_unended H v ≡ true) (sym (same_true u w s)) p.0)).0)
      (λ h. each_named us p.1 u h) (or_cases (same_name u w) (is_in u us) i)

  lines_by : (g : Name → List (List ℕ)) → ((u : Name) → is_unended H u ≡ false → g u ≡ []) → lines_of (λ (t : Named). g t.0) (named_tasks P.root_line H) ≡ lines_of g ts
  lines_by g none = same_lines g (named_tasks P.root_line H) (named_rise P.root_line H) ts all.rise (each_named ts all.each) (λ u i n. none u (ended u n))

  pub ready_lines : lines_of (ready_line P H) (named_tasks P.root_line H) ≡ lines_of (λ u. ready_by u (can_step P H u)) ts
  ready_lines = lines_by (λ u. ready_by u (can_step P H u)) (λ u e. ap (ready_by u) (by (is_spawned H u) (list_any (ends u) H) (in_the_way H u (planned P H u zero_ℤ)) e))
    where
      by : (b c : Bool) (o : Option Hindrance) → (b && not c) ≡ false → is_none (cond (not b) (Some NoSuchTask) (cond c (Some Ended) (option_map By o))) ≡ false
      by false c o e = refl
      by true true o e = refl
      by true false o e = absurd (false≢true (sym e))

  pub wait_lines : lines_of (wait_line P H) (named_tasks P.root_line H) ≡ lines_of (λ u. wait_by u (refusal_of P H u)) ts
  wait_lines = lines_by (λ u. wait_by u (refusal_of P H u)) (λ u e. by (is_spawned H u) (list_any (ends u) H) u (in_the_way H u (planned P H u zero_ℤ)) e)
    where
      by : (b c : Bool) (u : Name) (o : Option Hindrance) → (b && not c) ≡ false → wait_by u (cond (not b) (Some NoSuchTask) (cond c (Some Ended) (option_map By o))) ≡ []
      by false c u o e = refl
      by true true u o e = refl
      by true false u o e = absurd (false≢true (sym e))
