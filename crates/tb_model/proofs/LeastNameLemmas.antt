-- The least name that passes a test is found by one pass over the names of the tasks, and there is one at most.
use Rattle.std.proofs.Common.{◌≡◌, ◌⊎◌, inl, inr, ℕ, List, [], ◌∷◌, Bool, true, false, cond, ◌||◌, ⊎_elim, refl, sym, ap, ◌∙◌, subst, IsTrue, Option, Some, None}
use Rattle.std.specs.List.{list_any}
use Rattle.std.specs.Ordering.{ordering_reverse, is_eq}
use Rattle.std.specs.declared.cmp.Ordering.{Ordering}
use Rattle.std.specs.declared.cmp.Ordering.TheVariants.{Less, Equal, Greater}
use Rattle.std.proofs.lemmas.Bool.{or_cases, or_left, or_right, both_ways, false≢true}
use Rattle.tb_model.specs.declared.action.Action.{Action}
use Rattle.tb_model.specs.declared.action.Action.TheVariants.{Spawn}
use Rattle.tb_model.specs.Names.{Name, same_name, name_cmp}
use Rattle.tb_model.specs.NameLaws.{name_cmp_total, name_cmp_ties}
use Rattle.tb_model.specs.Facts.{History, is_spawn_of, spawns, IsSpawned}
use Rattle.tb_model.specs.State.{with_child}
use Rattle.tb_model.specs.LeastNames.{IsAtMost, IsLeastName}
use Rattle.tb_model.specs.Hindrances.{spawned_names, lesser_by, lesser_name, least_where, IsLeast}
use Rattle.tb_model.proofs.TestLemmas.{same_true, same_refl}

-- ---- the order of names

backward : (t u : Name) → name_cmp t u ≡ ordering_reverse (name_cmp u t)
backward t u = name_cmp_total.antisymm t u

pub at_most_itself : (t : Name) → IsAtMost t t
at_most_itself t e = cc (backward t t, e, ap ordering_reverse e)

-- a name after another has it in front
at_most_other : (t u : Name) → name_cmp t u ≡ Greater → IsAtMost u t
at_most_other t u e f = cc (backward t u, e, ap ordering_reverse f)

tied : (t u : Name) → name_cmp t u ≡ Equal → t ≡ u
tied t u e = same_true t u (name_cmp_ties t u ∙ ap is_eq e)

pub at_most_both : (t u : Name) → IsAtMost t u → IsAtMost u t → t ≡ u
at_most_both t u f g = by_cmp (name_cmp t u) refl
  where
    by_cmp : (o : Ordering) → name_cmp t u ≡ o → t ≡ u
    by_cmp Less e = absurd (g (backward u t ∙ ap ordering_reverse e))
    by_cmp Equal e = tied t u e
    by_cmp Greater e = absurd (f e)

pub at_most_trans : (t u w : Name) → IsAtMost t u → IsAtMost u w → IsAtMost t w
at_most_trans t u w f g h = by_cmp (name_cmp t u) (name_cmp u w) refl refl
  where
    by_cmp : (o q : Ordering) → name_cmp t u ≡ o → name_cmp u w ≡ q → ⊥
    by_cmp Greater q e k = f e
    by_cmp Less Greater e k = g k
    by_cmp Equal q e k = g (sym (name_cmp_total.congr t u w e) ∙ h)
    by_cmp Less Equal e k = cc (name_cmp_total.congr w u t (backward w u ∙ ap ordering_reverse k), backward t w, backward u t, ap ordering_reverse e, h)
    by_cmp Less Less e k = cc (name_cmp_total.trans t u w e k, h)

-- ---- there is one least name at most

pub one_least : (P : Name → Type 0) (o q : Option Name) → IsLeastName P o → IsLeastName P q → o ≡ q
one_least P None None x y = refl
one_least P (Some t) None x y = let l = y.least t (x.found t refl) in cc
one_least P None (Some u) x y = let l = x.least u (y.found u refl) in cc
one_least P (Some t) (Some u) x y =
    let l = x.least u (y.found u refl) in
    let m = y.least t (x.found t refl) in
    let s : t ≡ l.0 = cc in
    let r : u ≡ m.0 = cc in
    ap Some (at_most_both t u (subst (λ w. IsAtMost w u) (sym s) l.2) (subst (λ w. IsAtMost w t) (sym r) m.2))

-- ---- the least name of a list

-- l is the lesser of t and what is named
record IsLesser (t : Name) (o : Option Name) (l : Name) : Type 0 where
  which : (l ≡ t) ⊎ (o ≡ Some l)
  first : IsAtMost l t
  other : (w : Name) → o ≡ Some w → IsAtMost l w

lesser : (t : Name) (o : Option Name) → IsLesser t o (lesser_name t o)
lesser t None = record { which = inl refl; first = at_most_itself t; other = λ w e. cc }
lesser t (Some u) = by_cmp (name_cmp t u) refl
  where
    here : (l w : Name) → IsAtMost l u → ◌≡◌ {A = Option Name} (Some u) (Some w) → IsAtMost l w
    here l w f e = let s : u ≡ w = cc in subst (IsAtMost l) s f

    by_cmp : (q : Ordering) → name_cmp t u ≡ q → IsLesser t (Some u) (lesser_by q t u)
    by_cmp Greater e = record { which = inr refl; first = at_most_other t u e; other = λ w k. here u w (at_most_itself u) k }
    by_cmp Less e = record { which = inl refl; first = at_most_itself t; other = λ w k. here t w (λ g. cc (e, g)) k }
    by_cmp Equal e = record { which = inl refl; first = at_most_itself t; other = λ w k. here t w (λ g. cc (e, g)) k }

abbrev IsIn : Name → List Name → Type 0
IsIn t ts = IsTrue (list_any (same_name t) ts)

-- one of the names passes
abbrev PassesIn : (Name → Bool) → List Name → Name → Type 0
PassesIn p ts t = IsTrue (p t) × IsIn t ts

least_in : (p : Name → Bool) (ts : List Name) → IsLeastName (PassesIn p ts) (least_where p ts)
least_in p [] = record { found = λ t e. cc; least = λ t h. absurd (false≢true h.1) }
least_in p (u ∷ ts) = at (p u) refl (least_where p ts) (least_in p ts)
  where
    later : (t : Name) → PassesIn p ts t → PassesIn p (u ∷ ts) t
    later t h = (h.0, or_right (same_name t u) _ h.1)

    at : (b : Bool) → p u ≡ b → (o : Option Name) → IsLeastName (PassesIn p ts) o → IsLeastName (PassesIn p (u ∷ ts)) (cond b (Some (lesser_name u o)) o)
    at false e o r = record {
      found = λ t k. later t (r.found t k);
      least = λ t h. ⊎_elim (λ s. absurd (both_ways (p u) e (subst (λ w. IsTrue (p w)) (same_true t u s) h.0))) (λ i. r.least t (h.0, i)) (or_cases (same_name t u) (list_any (same_name t) ts) h.1);
    }
    at true e o r = record { found = λ t k. found t k (lesser u o); least = λ t h. least t h (lesser u o) }
      where
        found : (t : Name) → ◌≡◌ {A = Option Name} (Some (lesser_name u o)) (Some t) → IsLesser u o (lesser_name u o) → PassesIn p (u ∷ ts) t
        found t k l =
            let s : lesser_name u o ≡ t = cc in
            subst (PassesIn p (u ∷ ts)) s
            (⊎_elim (λ i. subst (PassesIn p (u ∷ ts)) (sym i) (e, or_left (same_name u u) _ (same_refl u))) (λ i. later (lesser_name u o) (r.found (lesser_name u o) i)) l.which)

        least : (t : Name) → PassesIn p (u ∷ ts) t → IsLesser u o (lesser_name u o) → (w : Name) × (◌≡◌ {A = Option Name} (Some (lesser_name u o)) (Some w)) × IsAtMost w t
        least t h l = (
          lesser_name u o,
          refl,
          ⊎_elim (λ s. subst (IsAtMost (lesser_name u o)) (sym (same_true t u s)) l.first)
              (λ i. let m = r.least t (h.0, i) in at_most_trans (lesser_name u o) m.0 t (l.other m.0 m.1) m.2)
              (or_cases (same_name t u) (list_any (same_name t) ts) h.1),
        )

-- ---- the names of the tasks

same_back : (t u : Name) → same_name t u ≡ true → same_name u t ≡ true
same_back t u h = subst (λ w. same_name w t ≡ true) (same_true t u h) (same_refl t)

in_child : (t : Name) (a : Action) (ts : List Name) → list_any (same_name t) (with_child a ts) ≡ (is_spawn_of t a || list_any (same_name t) ts)
in_child t (Spawn s) ts = ap (λ b. b || list_any (same_name t) ts) (both (same_name t s.child) (same_name s.child t) (same_back t s.child) (same_back s.child t))
  where
    both : (b c : Bool) → (b ≡ true → c ≡ true) → (c ≡ true → b ≡ true) → b ≡ c
    both true c f g = sym (f refl)
    both false true f g = g refl
    both false false f g = refl
in_child t _ ts = refl

among : (H : History) (n : ℕ) (t : Name) → list_any (same_name (n ∷ t)) (spawned_names H) ≡ list_any (spawns (n ∷ t)) H
among [] n t = refl
among (v ∷ H) n t = in_child (n ∷ t) v.action (spawned_names H) ∙ ap (λ b. spawns (n ∷ t) v || b) (among H n t)

root_among : (H : History) → IsIn [] (spawned_names H)
root_among [] = refl
root_among (v ∷ H) = in_child [] v.action (spawned_names H) ∙ or_right (is_spawn_of [] v.action) _ (root_among H)

spawned_in : (H : History) (t : Name) → IsSpawned H t → IsIn t (spawned_names H)
spawned_in H [] s = root_among H
spawned_in H (n ∷ t) s = among H n t ∙ s

pub in_spawned : (H : History) (t : Name) → IsIn t (spawned_names H) → IsSpawned H t
in_spawned H [] s = refl
in_spawned H (n ∷ t) s = sym (among H n t) ∙ s

-- the least task that passes is found, where only tasks pass
pub least_found : (H : History) (p : Name → Bool) → ((u : Name) → IsTrue (p u) → IsSpawned H u) → IsLeast p (least_where p (spawned_names H))
least_found H p f =
    let r = least_in p (spawned_names H) in
    record { found = λ t e. (r.found t e).0; least = λ t h. r.least t (h, spawned_in H t (f t h)) }
