-- The walk over the unended tasks, in the order of their names.
use Rattle.std.proofs.Common.{◌≡◌, ◌⊎◌, ℕ, ◌+◌, List, [], ◌∷◌, ◌++◌, true, length, codes, refl, sym, ap, ◌∙◌, subst, arith, append_assoc, append-nil, ⊎_elim, inl, inr, IsTrue, Option, Some, None}
use Rattle.std.specs.List.{list_any, AllByRecursion}
use Rattle.std.specs.Ordering.{is_eq}
use Rattle.std.specs.declared.cmp.Ordering.{Ordering}
use Rattle.std.specs.declared.cmp.Ordering.TheVariants.{Less, Equal, Greater}
use Rattle.std.proofs.lemmas.Bool.{false≢true, or_cases, or_left, or_right}
use Rattle.std.proofs.lemmas.List.{length-append}
use Rattle.tb_model.specs.Names.{Name, same_name, name_cmp}
use Rattle.tb_model.specs.NameLaws.{name_cmp_total, name_cmp_ties}
use Rattle.tb_model.specs.Facts.{History}
use Rattle.tb_model.specs.LeastNames.{IsAtMost, IsLeastName}
use Rattle.tb_model.specs.Spelling.{name_text}
use Rattle.tb_model.specs.State.{is_unended}
use Rattle.tb_model.proofs.TestLemmas.{same_true, same_refl}
use Rattle.tb_ready.specs.Tasks.{IsBehind}
use Rattle.tb_undo.specs.Readings.{IsUnendedBehind}
use Rattle.tb_taskcheck.specs.Report.{names_text}
use Rattle.tb_taskcheck.specs.Unended.{Rises, AreUnended}
use Rattle.tb_taskcheck.specs.Listing.{ListsUnended}
use Rattle.tb_verdict.specs.Texts.{Sofar, history_in}

-- ---- the tasks that the walk has found

-- the tasks found are all in front of what comes after, and no other unended task is
pub record Found (H : History) (after : Option Name) (ts : List Name) : Type 0 where
  pub rise : Rises ts
  pub each : AllByRecursion (λ t. IsTrue (is_unended H t)) ts
  pub front : (u : Name) → IsBehind after u → AllByRecursion (λ t. IsBehind (Some t) u) ts
  pub whole : (u : Name) → IsTrue (is_unended H u) → IsTrue (list_any (same_name u) ts) ⊎ IsBehind after u

all_push : (P : Name → Type 0) (t : Name) (ts : List Name) → AllByRecursion P ts → P t → AllByRecursion P (ts ++ t ∷ [])
all_push P t [] h p = (p, tt)
all_push P t (u ∷ ts) h p = (h.0, all_push P t ts h.1 p)

rises_push : (t : Name) (ts : List Name) → Rises ts → AllByRecursion (λ u. IsBehind (Some u) t) ts → Rises (ts ++ t ∷ [])
rises_push t [] h f = (tt, tt)
rises_push t (u ∷ ts) h f = (all_push (IsBehind (Some u)) t ts h.0 f.0, rises_push t ts h.1 f.1)

any_push : (u t : Name) (ts : List Name) → list_any (same_name u) ts ≡ true → list_any (same_name u) (ts ++ t ∷ []) ≡ true
any_push u t [] h = absurd (false≢true h)
any_push u t (w ∷ ts) h = ⊎_elim (λ s. or_left (same_name u w) _ s) (λ r. or_right (same_name u w) _ (any_push u t ts r)) (or_cases (same_name u w) _ h)

any_last : (u : Name) (ts : List Name) → list_any (same_name u) (ts ++ u ∷ []) ≡ true
any_last u [] = or_left (same_name u u) _ (same_refl u)
any_last u (w ∷ ts) = or_right (same_name u w) _ (any_last u ts)

module _ (H : History) (after : Option Name) (ts : List Name) (g : Found H after ts) where
  -- where an unended task is that isn't found yet
  from_next : (t u : Name) → IsLeastName (IsUnendedBehind H after) (Some t) → IsTrue (is_unended H u) → IsBehind after u → (u ≡ t) ⊎ (name_cmp t u ≡ Less)
  from_next t u l p b =
      let m = l.least u (record { unended = p; behind = b }) in
      let s : t ≡ m.0 = cc in
      by_cmp (subst (λ w. IsAtMost w u) (sym s) m.2) (name_cmp t u) refl
    where
      by_cmp : IsAtMost t u → (o : Ordering) → name_cmp t u ≡ o → (u ≡ t) ⊎ (name_cmp t u ≡ Less)
      by_cmp most Less e = inr e
      by_cmp most Equal e = inl (sym (same_true t u (name_cmp_ties t u ∙ ap is_eq e)))
      by_cmp most Greater e = absurd (most e)

  one_found : (t : Name) → IsLeastName (IsUnendedBehind H after) (Some t) → Found H (Some t) (ts ++ t ∷ [])
  one_found t l = record {
    rise = rises_push t ts g.rise (g.front t (l.found t refl).behind);
    each = all_push (λ u. IsTrue (is_unended H u)) t ts g.each (l.found t refl).unended;
    front = λ u b. all_push (λ w. IsBehind (Some w) u) t ts (further u b ts (g.front t (l.found t refl).behind)) b;
    whole = λ u q. ⊎_elim (λ i. inl (any_push u t ts i)) (λ b. ⊎_elim (λ s. inl (subst (λ w. list_any (same_name u) (ts ++ w ∷ []) ≡ true) s (any_last u ts))) (λ h. inr h) (from_next t u l q b)) (g.whole u q);
  }
    where
      further : (u : Name) → IsBehind (Some t) u → (ws : List Name) → AllByRecursion (λ w. IsBehind (Some w) t) ws → AllByRecursion (λ w. IsBehind (Some w) u) ws
      further u b [] h = tt
      further u b (w ∷ ws) h = (name_cmp_total.trans w t u h.0 b, further u b ws h.1)

  all_found : IsLeastName (IsUnendedBehind H after) None → AreUnended H ts
  all_found l = record {
    rise = g.rise;
    each = g.each;
    whole = λ u q. ⊎_elim (λ i. i) (λ b. let m = l.least u (record { unended = q; behind = b }) in cc) (g.whole u q);
  }

-- ---- with their text

names_push : (ts : List Name) (t : Name) → names_text (ts ++ t ∷ []) ≡ names_text ts ++ name_text t ++ codes "\n"
names_push [] t = append-nil (name_text t ++ codes "\n")
names_push (u ∷ ts) t =
    ap (λ l. (name_text u ++ codes "\n") ++ l) (names_push ts t)
    ∙ (sym (append_assoc (name_text u ++ codes "\n") (names_text ts ++ name_text t) (codes "\n"))
    ∙ ap (λ l. l ++ codes "\n") (sym (append_assoc (name_text u ++ codes "\n") (names_text ts) (name_text t))))

-- so far these were found and written
pub record Walked (H : History) (after : Option Name) (out : List ℕ) (n : ℕ) : Type 0 where
  pub names : List Name
  pub found : Found H after names
  pub text : out ≡ names_text names
  pub count : n ≡ length names

pub walk_starts : (H : History) → Walked H None [] 0
walk_starts H = record {
  names = [];
  found = record { rise = tt; each = tt; front = λ u b. tt; whole = λ u h. inr tt };
  text = refl;
  count = refl;
}

pub walk_on : (H : History) (after : Option Name) (out more : List ℕ) (n : ℕ) (t : Name) → Walked H after out n → IsLeastName (IsUnendedBehind H after) (Some t) → more ≡ out ++ name_text t ++ codes "\n" → Walked H (Some t) more (n + 1)
walk_on H after out more n t w l e = record {
  names = w.names ++ t ∷ [];
  found = one_found H after w.names w.found t l;
  text = e ∙ (ap (λ o. o ++ name_text t ++ codes "\n") w.text ∙ sym (names_push w.names t));
  count = omega (arith, w.count, length-append w.names (t ∷ []));
}

pub walk_ends : (s : Sofar) (after : Option Name) (out : List ℕ) (n : ℕ) → Walked (history_in s) after out n → IsLeastName (IsUnendedBehind (history_in s) after) None → ListsUnended s out n
walk_ends s after out n w l = record { names = w.names; all = all_found (history_in s) after w.names w.found l; text = w.text; count = w.count }
