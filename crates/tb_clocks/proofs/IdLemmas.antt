-- The ids of tasks after one event more.
use Rattle.std.proofs.Common.{◌≡◌, ◌<◌, ℕ, zero, suc, List, [], ◌∷◌, ◌++◌, true, false, cond, length, get_or, refl, sym, ap, ◌∙◌, subst, arith, Option, Some, None, slice_get, ⊎_elim}
use Rattle.std.specs.List.{list_any}
use Rattle.std.specs.Prelude.{position}
use Rattle.std.proofs.lemmas.Bool.{false≢true, false_from_ne_true, or_cases, or_left, or_right}
use Rattle.std.proofs.lemmas.List.Quantifiers.{position-Some}
use Rattle.indexmap.specs.IndexSet.{insert_key}
use Rattle.tb_model.specs.declared.action.Action.TheVariants.{Spawn}
use Rattle.tb_model.specs.declared.event.Event.{Event}
use Rattle.tb_model.specs.declared.spawn.Spawn.{Spawn as TheSpawn}
use Rattle.tb_model.specs.Facts.{History, IsSpawned}
use Rattle.tb_model.specs.Legal.{Cells, Legal}
use Rattle.tb_model.specs.Names.{Name, same_name}
use Rattle.tb_model.proofs.TestLemmas.{same_refl, same_true}
use Rattle.tb_clocks.specs.Known.{HasId, generated, names_in}
use Rattle.tb_clocks.proofs.TaskLemmas.{not_child}
use Rattle.tb_clocks.proofs.TreeLemmas.{named}

any_at : (t : Name) (xs : List Name) → list_any (same_name t) xs ≡ true → (i : ℕ) × (slice_get xs i ≡ Some t)
any_at t [] h = absurd (false≢true h)
any_at t (x ∷ xs) h =
    ⊎_elim (λ s. (0, ap (λ (u : Name). Some u) (sym (same_true t x s)))) (λ r. let p = any_at t xs r in (suc p.0, p.1)) (or_cases (same_name t x) (list_any (same_name t) xs) h)

-- the child of the next event is a new one
pub adds_child : (cells : Cells) (H : History) (v : Event) (s : TheSpawn) (keys new : List Name) → Legal cells (v ∷ H) → v.action ≡ Spawn s → keys ≡ names_in H → new ≡ insert_key same_name keys s.child → new ≡ names_in (v ∷ H)
adds_child cells H v s keys new l is same e =
    let absent : list_any (same_name s.child) (names_in H) ≡ false = false_from_ne_true (list_any (same_name s.child) (names_in H)) (λ h.
    let p = any_at s.child (names_in H) h in
    not_child cells H v p.0 0 s.child l p.1 (ap (λ a. slice_get (generated a) 0) is)) in
    e ∙ ap (λ ks. insert_key same_name ks s.child) same ∙ ap (λ b. cond b (names_in H) (names_in H ++ s.child ∷ [])) absent ∙ ap (λ a. names_in H ++ generated a) (sym is)

at_index : (xs : List Name) (i : ℕ) (d : Name) → i < length xs → slice_get xs i ≡ Some (get_or xs i d)
at_index [] i d h = absurd (omega (arith, h))
at_index (x ∷ xs) zero d h = refl
at_index (x ∷ xs) (suc i) d h = at_index xs i d (omega (arith, h))

pub found_at : (H : History) (t : Name) (i : ℕ) → position (same_name t) (names_in H) ≡ Some i → HasId H i t
found_at H t i e =
    let p = position-Some (same_name t) (names_in H) i t e in
    at_index (names_in H) i t p.0 ∙ ap (λ (u : Name). Some u) (sym (same_true t (get_or (names_in H) i t) p.1))

any_here : (t : Name) (xs : List Name) (i : ℕ) → slice_get xs i ≡ Some t → list_any (same_name t) xs ≡ true
any_here t [] i h = absurd (let e : ◌≡◌ {A = Option Name} None (Some t) = h in cc)
any_here t (x ∷ xs) zero h = or_left (same_name t x) (list_any (same_name t) xs) (let e : x ≡ t = (let q : ◌≡◌ {A = Option Name} (Some x) (Some t) = h in cc) in subst (λ (u : Name). same_name t u ≡ true) (sym e) (same_refl t))
any_here t (x ∷ xs) (suc i) h = or_right (same_name t x) (list_any (same_name t) xs) (any_here t xs i h)

pub there : (H : History) (t : Name) → IsSpawned H t → list_any (same_name t) (names_in H) ≡ true
there H t s =
    let p = named H t s in
    any_here t (names_in H) p.0 p.1
