-- The walk over the unended tasks, in the order of their names.
use Rattle.std.proofs.Common.{◌≡◌, ◌<◌, ◌≤◌, ◌⊎◌, ℕ, suc, List, [], ◌∷◌, ◌++◌, Bool, true, false, not, cond, refl, sym, ap, ◌∙◌, subst, arith, ⊎_elim, inl, inr, IsTrue, Option, Some, None}
use Rattle.std.specs.List.{list_any, AllByRecursion}
use Rattle.std.specs.Ordering.{ordering_reverse, is_eq}
use Rattle.std.specs.declared.cmp.Ordering.{Ordering}
use Rattle.std.specs.declared.cmp.Ordering.TheVariants.{Less, Equal, Greater}
use Rattle.std.proofs.lemmas.Bool.{false≢true, both_ways, and_parts, or_parts, or_cases, or_left, or_right}
use Rattle.tb_model.specs.Names.{Name, same_name, name_cmp}
use Rattle.tb_model.specs.NameLaws.{name_cmp_total, name_cmp_ties}
use Rattle.tb_model.specs.Facts.{History, is_spawned, ends, IsSpawned}
use Rattle.tb_model.specs.State.{is_unended}
use Rattle.tb_model.specs.LeastNames.{IsAtMost, IsLeastName}
use Rattle.tb_model.specs.Hindrances.{IsLeast, spawned_names, least_where, lesser_name}
use Rattle.tb_model.proofs.TestLemmas.{same_true, same_refl}
use Rattle.tb_model.proofs.LeastNameLemmas.{least_found}
use Rattle.tb_ready.specs.Tasks.{IsBehind}
use Rattle.tb_undo.specs.Readings.{IsUnendedBehind}
use Rattle.tb_core.specs.Listed.{Rises, AreAll}

-- ---- how many tasks are left

abbrev is_less : Ordering → Bool
is_less Less = true
is_less _ = false

abbrev is_behind : Option Name → Name → Bool
is_behind None u = true
is_behind (Some t) u = is_less (name_cmp t u)

abbrev count_behind : Option Name → List Name → ℕ
count_behind after [] = 0
count_behind after (u ∷ us) = cond (is_behind after u) (suc (count_behind after us)) (count_behind after us)

-- the tasks after a name
abbrev pub tasks_behind : Option Name → History → ℕ
tasks_behind after H = count_behind after (spawned_names H)

never_behind_itself : (t : Name) → is_less (name_cmp t t) ≡ false
never_behind_itself t = at (name_cmp t t) refl
  where
    at : (o : Ordering) → name_cmp t t ≡ o → is_less (name_cmp t t) ≡ false
    at Less e = cc (name_cmp_total.antisymm t t, e, ap ordering_reverse e)
    at Equal e = ap is_less e
    at Greater e = ap is_less e

less_only : (o : Ordering) → is_less o ≡ true → o ≡ Less
less_only Less h = refl
less_only Equal h = absurd (false≢true h)
less_only Greater h = absurd (false≢true h)

-- what is after a later name is after the earlier
still_behind : (after : Option Name) (t u : Name) → IsBehind after t → is_less (name_cmp t u) ≡ true → is_behind after u ≡ true
still_behind None t u b h = refl
still_behind (Some a) t u b h = ap is_less (name_cmp_total.trans a t u b (less_only (name_cmp t u) h))

behind_test : (after : Option Name) (t : Name) → IsBehind after t → is_behind after t ≡ true
behind_test None t b = refl
behind_test (Some a) t b = ap is_less b

grows : (b c : Bool) (m n : ℕ) → (b ≡ true → c ≡ true) → m ≤ n → cond b (suc m) m ≤ cond c (suc n) n
grows true true m n f l = omega (arith, l)
grows true false m n f l = absurd (false≢true (f refl))
grows false true m n f l = omega (arith, l)
grows false false m n f l = l

no_more : (after : Option Name) (t : Name) (us : List Name) → IsBehind after t → count_behind (Some t) us ≤ count_behind after us
no_more after t [] b = omega arith
no_more after t (u ∷ us) b = grows (is_less (name_cmp t u)) (is_behind after u) (count_behind (Some t) us) (count_behind after us) (still_behind after t u b) (no_more after t us b)

one_fewer : (b c : Bool) (m n : ℕ) → b ≡ false → c ≡ true → m ≤ n → cond b (suc m) m < cond c (suc n) n
one_fewer true c m n e f l = absurd (false≢true (sym e))
one_fewer false true m n e f l = omega (arith, l)
one_fewer false false m n e f l = absurd (false≢true f)

grows_less : (b c : Bool) (m n : ℕ) → (b ≡ true → c ≡ true) → m < n → cond b (suc m) m < cond c (suc n) n
grows_less true true m n f l = omega (arith, l)
grows_less true false m n f l = absurd (false≢true (f refl))
grows_less false true m n f l = omega (arith, l)
grows_less false false m n f l = l

fewer_among : (after : Option Name) (t : Name) (us : List Name) → IsBehind after t → list_any (same_name t) us ≡ true
    → count_behind (Some t) us < count_behind after us
fewer_among after t [] b i = absurd (false≢true i)
fewer_among after t (u ∷ us) b i = at (same_name t u) refl (fewer_among after t us b)
  where
    at : (s : Bool) → same_name t u ≡ s → (list_any (same_name t) us ≡ true → count_behind (Some t) us < count_behind after us)
        → count_behind (Some t) (u ∷ us) < count_behind after (u ∷ us)
    at true e rest =
        let same : t ≡ u = same_true t u e in
        one_fewer (is_less (name_cmp t u)) (is_behind after u) (count_behind (Some t) us) (count_behind after us)
        (ap (λ w. is_less (name_cmp t w)) (sym same) ∙ never_behind_itself t)
        (subst (λ w. is_behind after w ≡ true) same (behind_test after t b))
        (no_more after t us b)
    at false e rest =
        grows_less (is_less (name_cmp t u)) (is_behind after u) (count_behind (Some t) us) (count_behind after us) (still_behind after t u b)
        (rest (⊎_elim (λ s. absurd (both_ways (same_name t u) e s)) (λ z. z) (or_cases (same_name t u) (list_any (same_name t) us) i)))

-- ---- a task is among the names

none_where : (p : Name → Bool) (us : List Name) → list_any p us ≡ false → least_where p us ≡ None
none_where p [] h = refl
none_where p (u ∷ us) h =
    let parts = or_parts (p u) (list_any p us) h in
    at (p u) parts.0 (none_where p us parts.1)
  where
    at : (x : Bool) → x ≡ false → least_where p us ≡ None → cond x (Some (lesser_name u (least_where p us))) (least_where p us) ≡ None
    at true f g = absurd (false≢true (sym f))
    at false f g = g

among : (H : History) (t : Name) → IsSpawned H t → list_any (same_name t) (spawned_names H) ≡ true
among H t s = at (list_any (same_name t) (spawned_names H)) refl
  where
    found : IsLeast (same_name t) (least_where (same_name t) (spawned_names H))
    found = least_found H (same_name t) (λ u h. subst (IsSpawned H) (same_true t u h) s)

    at : (b : Bool) → list_any (same_name t) (spawned_names H) ≡ b → list_any (same_name t) (spawned_names H) ≡ true
    at true e = e
    at false e =
        let l = found.least t (same_refl t) in
        cc (none_where (same_name t) (spawned_names H) e, l.1)

-- each task that is asked leaves fewer
pub fewer : (H : History) (after : Option Name) (t : Name) → IsUnendedBehind H after t → tasks_behind (Some t) H < tasks_behind after H
fewer H after t u = fewer_among after t (spawned_names H) u.behind (among H t (and_parts (is_spawned H t) (not (list_any (ends t) H)) u.unended).0)

-- ---- the tasks that the walk has found

-- the tasks found are all in front of what comes after, and no other task with the property is
pub record Gathered (P : Name → Type 0) (after : Option Name) (ts : List Name) : Type 0 where
  pub rise : Rises ts
  pub each : AllByRecursion P ts
  pub front : (u : Name) → IsBehind after u → AllByRecursion (λ t. IsBehind (Some t) u) ts
  pub whole : (u : Name) → P u → IsTrue (list_any (same_name u) ts) ⊎ IsBehind after u

pub none_gathered : (P : Name → Type 0) → Gathered P None []
none_gathered P = record { rise = tt; each = tt; front = λ u b. tt; whole = λ u h. inr tt }

all_push : (P : Name → Type 0) (t : Name) (ts : List Name) → AllByRecursion P ts → P t → AllByRecursion P (ts ++ t ∷ [])
all_push P t [] h p = (p, tt)
all_push P t (u ∷ ts) h p = (h.0, all_push P t ts h.1 p)

rises_push : (t : Name) (ts : List Name) → Rises ts → AllByRecursion (λ u. IsBehind (Some u) t) ts → Rises (ts ++ t ∷ [])
rises_push t [] h f = (tt, tt)
rises_push t (u ∷ ts) h f = (all_push (IsBehind (Some u)) t ts h.0 f.0, rises_push t ts h.1 f.1)

any_push : (u t : Name) (ts : List Name) → list_any (same_name u) ts ≡ true → list_any (same_name u) (ts ++ t ∷ []) ≡ true
any_push u t [] h = absurd (false≢true h)
any_push u t (w ∷ ts) h = ⊎_elim (λ s. or_left (same_name u w) _ s) (λ r. or_right (same_name u w) _ (any_push u t ts r)) (or_cases (same_name u w) _ h)

any_last : (u : Name) (ts : List Name) → list_any (same_name u) (ts ++ u ∷ []) ≡ true
any_last u [] = or_left (same_name u u) _ (same_refl u)
any_last u (w ∷ ts) = or_right (same_name u w) _ (any_last u ts)

later_still : (after : Option Name) (t u : Name) → IsBehind after t → name_cmp t u ≡ Less → IsBehind after u
later_still None t u b h = tt
later_still (Some a) t u b h = name_cmp_total.trans a t u b h

module _ (H : History) (P : Name → Type 0) (unended : (u : Name) → P u → is_unended H u ≡ true) (after : Option Name) (ts : List Name)
    (g : Gathered P after ts) where
  -- where a task with the property is there that isn't found yet
  from_next : (t u : Name) → IsLeastName (IsUnendedBehind H after) (Some t) → P u → IsBehind after u → (u ≡ t) ⊎ (name_cmp t u ≡ Less)
  from_next t u l p b =
      let m = l.least u (record { unended = unended u p; behind = b }) in
      let s : t ≡ m.0 = cc in
      by_cmp (subst (λ w. IsAtMost w u) (sym s) m.2) (name_cmp t u) refl
    where
      by_cmp : IsAtMost t u → (o : Ordering) → name_cmp t u ≡ o → (u ≡ t) ⊎ (name_cmp t u ≡ Less)
      by_cmp most Less e = inr e
      by_cmp most Equal e = inl (sym (same_true t u (name_cmp_ties t u ∙ ap is_eq e)))
      by_cmp most Greater e = absurd (most e)

  pub gathered_one : (t : Name) (pushed : List Name) → IsLeastName (IsUnendedBehind H after) (Some t) → P t → pushed ≡ ts ++ t ∷ [] → Gathered P (Some t) pushed
  gathered_one t pushed l p e =
      subst (Gathered P (Some t)) (sym e) (record {
        rise = rises_push t ts g.rise (g.front t (l.found t refl).behind);
        each = all_push P t ts g.each p;
        front = λ u b. all_push (λ w. IsBehind (Some w) u) t ts (further u b ts (g.front t (l.found t refl).behind)) b;
        whole = λ u q. ⊎_elim (λ i. inl (any_push u t ts i)) (λ b. ⊎_elim (λ s. inl (subst (λ w. list_any (same_name u) (ts ++ w ∷ []) ≡ true) s (any_last u ts))) (λ h. inr h) (from_next t u l q b)) (g.whole u q);
      })
    where
      further : (u : Name) → IsBehind (Some t) u → (ws : List Name) → AllByRecursion (λ w. IsBehind (Some w) t) ws
          → AllByRecursion (λ w. IsBehind (Some w) u) ws
      further u b [] h = tt
      further u b (w ∷ ws) h = (name_cmp_total.trans w t u h.0 b, further u b ws h.1)

  pub gathered_none : (t : Name) → IsLeastName (IsUnendedBehind H after) (Some t) → (P t → ⊥) → Gathered P (Some t) ts
  gathered_none t l never = record {
    rise = g.rise;
    each = g.each;
    front = λ u b. g.front u (later_still after t u (l.found t refl).behind b);
    whole = λ u q. ⊎_elim (λ i. inl i) (λ b. ⊎_elim (λ s. absurd (never (subst P s q))) (λ h. inr h) (from_next t u l q b)) (g.whole u q);
  }

  pub gathered_all : IsLeastName (IsUnendedBehind H after) None → AreAll P ts
  gathered_all l = record {
    rise = g.rise;
    each = g.each;
    whole = λ u q. ⊎_elim (λ i. i) (λ b. let m = l.least u (record { unended = unended u q; behind = b }) in cc) (g.whole u q);
  }
