-- Names and marks by index, and by name.
use Rattle.std.proofs.Common.{◌≡◌, ◌≢◌, ◌<◌, ◌≤◌, ◌+◌, ℕ, zero, suc, Bool, true, false, not, cond, List, [], ◌∷◌, ◌++◌, length, Option, Some, None, arith, refl, ap, sym, ◌∙◌, subst, slice_get}
use Rattle.std.specs.Prelude.{remove, unwrap_or, is_some, IfSome}
use Rattle.std.specs.Map.{keys_of}
use Rattle.std.proofs.Math.Bool.{beq}
use Rattle.std.proofs.lemmas.Bool.{false_from_ne_true, false≢true}
use Rattle.tb_model.specs.Names.{Name, same_name}
use Rattle.tb_model.proofs.TestLemmas.{same_true, same_refl}
use Rattle.tb_ready.specs.Tasks.{mark_of, with_mark, without_name}
use Rattle.tb_ready.specs.Layout.{name_at, mark_at, set_at, AreUnique, StandsAt}
use Rattle.tb_ready.specs.Order.{count_marked}

abbrev Table : Type 0
Table = List (Name × Bool)

-- ---- by name

unique_tail : (t : Name × Bool) (ts : Table) → AreUnique (t ∷ ts) → AreUnique ts
unique_tail t ts u i j hi hj e = let same = u (suc i) (suc j) (omega arith) (omega arith) e in omega (arith, same)

unique_head : (t : Name × Bool) (ts : Table) (i : ℕ) → AreUnique (t ∷ ts) → i < length ts → same_name (name_at ts i) t.0 ≡ false
unique_head t ts i u h =
    false_from_ne_true (same_name (name_at ts i) t.0)
    (λ e. let same = u (suc i) zero (omega arith) (omega arith) (same_true (name_at ts i) t.0 e) in absurd (omega (arith, same)))

-- the mark of the name at an index
pub mark_of_at : (ts : Table) (i : ℕ) → AreUnique ts → i < length ts → mark_of ts (name_at ts i) ≡ Some (mark_at ts i)
mark_of_at [] i u h = absurd (omega arith)
mark_of_at (t ∷ ts) zero u h = ap (λ b. cond b (Some t.1) (mark_of ts t.0)) (same_refl t.0)
mark_of_at (t ∷ ts) (suc i) u h =
    ap (λ b. cond b (Some t.1) (mark_of ts (name_at ts i))) (unique_head t ts i u (omega arith))
    ∙ mark_of_at ts i (unique_tail t ts u) (omega arith)

-- the mark of a name that was found at an index is the one there
pub mark_of_named : (ts : Table) (name : Name) (i : ℕ) → AreUnique ts → StandsAt ts name i → mark_of ts name ≡ Some (mark_at ts i)
mark_of_named ts name i u s = subst (λ n. mark_of ts n ≡ Some (mark_at ts i)) s.is (mark_of_at ts i u s.within)

pub with_mark_at : (ts : Table) (i : ℕ) (mark : Bool) → AreUnique ts → i < length ts → with_mark ts (name_at ts i) mark ≡ set_at ts i mark
with_mark_at [] i mark u h = absurd (omega arith)
with_mark_at (t ∷ ts) zero mark u h = ap (λ b. cond b ((t.0, mark) ∷ ts) (t ∷ with_mark ts t.0 mark)) (same_refl t.0)
with_mark_at (t ∷ ts) (suc i) mark u h =
    ap (λ b. cond b ((t.0, mark) ∷ ts) (t ∷ with_mark ts (name_at ts i) mark)) (unique_head t ts i u (omega arith))
    ∙ ap (λ r. t ∷ r) (with_mark_at ts i mark (unique_tail t ts u) (omega arith))

-- a name at no index isn't there
absent_where : (ts : Table) (name : Name) → ((i : ℕ) → i < length ts → name_at ts i ≡ name → ⊥) → mark_of ts name ≡ None
absent_where [] name h = refl
absent_where (t ∷ ts) name h =
    ap (λ b. cond b (Some t.1) (mark_of ts name)) (false_from_ne_true (same_name name t.0) (λ e. h zero (omega arith) (sym (same_true name t.0 e))))
    ∙ absent_where ts name (λ i w e. h (suc i) (omega arith) e)

-- without a name that isn't there the table is the same
pub without_absent : (ts : Table) (name : Name) → mark_of ts name ≡ None → without_name ts name ≡ ts
without_absent [] name h = refl
without_absent (t ∷ ts) name h = at (same_name name t.0) h (without_absent ts name)
  where
    at : (b : Bool) → cond b (Some t.1) (mark_of ts name) ≡ None → (mark_of ts name ≡ None → without_name ts name ≡ ts)
        → cond (not b) (t ∷ without_name ts name) (without_name ts name) ≡ t ∷ ts
    at true g rest = absurd (cc)
    at false g rest = ap (λ r. t ∷ r) (rest g)

pub without_name_at : (ts : Table) (i : ℕ) → AreUnique ts → i < length ts → without_name ts (name_at ts i) ≡ remove ts i
without_name_at [] i u h = absurd (omega arith)
without_name_at (t ∷ ts) zero u h =
    ap (λ b. cond (not b) (t ∷ without_name ts t.0) (without_name ts t.0)) (same_refl t.0)
    ∙ without_absent ts t.0 (absent_where ts t.0 (λ i w e. let same = u (suc i) zero (omega arith) (omega arith) e in absurd (omega (arith, same))))
without_name_at (t ∷ ts) (suc i) u h =
    ap (λ b. cond (not b) (t ∷ without_name ts (name_at ts i)) (without_name ts (name_at ts i))) (unique_head t ts i u (omega arith))
    ∙ ap (λ r. t ∷ r) (without_name_at ts i (unique_tail t ts u) (omega arith))

-- a name that isn't there
pub with_mark_absent : (ts : Table) (name : Name) (mark : Bool) → mark_of ts name ≡ None → with_mark ts name mark ≡ ts
with_mark_absent [] name mark h = refl
with_mark_absent (t ∷ ts) name mark h = grind (arith, with_mark_absent ts name mark)

-- where a name that is there is there
pub stands : (ts : Table) (name : Name) (mark : Bool) → mark_of ts name ≡ Some mark → (i : ℕ) × (i < length ts) × (name_at ts i ≡ name) × (mark_at ts i ≡ mark)
stands [] name mark h = absurd (cc)
stands (t ∷ ts) name mark h = at (same_name name t.0) refl h (λ r. stands ts name mark r)
  where
    at : (b : Bool) → same_name name t.0 ≡ b → cond b (Some t.1) (mark_of ts name) ≡ Some mark
        → (mark_of ts name ≡ Some mark → (i : ℕ) × (i < length ts) × (name_at ts i ≡ name) × (mark_at ts i ≡ mark))
        → (i : ℕ) × (i < length (t ∷ ts)) × (name_at (t ∷ ts) i ≡ name) × (mark_at (t ∷ ts) i ≡ mark)
    at true e g rest = (zero, omega arith, sym (same_true name t.0 e), ap (λ o. unwrap_or o mark) g)
    at false e g rest = let r = rest g in (suc r.0, omega (arith, r.1), r.2, r.3)

pub nth_name : (ts : Table) (i : ℕ) → i < length ts → slice_get (keys_of ts) i ≡ Some (name_at ts i)
nth_name [] i h = absurd (omega arith)
nth_name (t ∷ ts) zero h = refl
nth_name (t ∷ ts) (suc i) h = nth_name ts i (omega arith)

pub nth_none : (ts : Table) (i : ℕ) → length ts ≤ i → slice_get (keys_of ts) i ≡ None
nth_none [] i h = refl
nth_none (t ∷ ts) zero h = absurd (omega arith)
nth_none (t ∷ ts) (suc i) h = nth_none ts i (omega arith)

-- ---- by index, in a table that was changed

pub mark_within : (ts : Table) (i : ℕ) → mark_at ts i ≡ true → i < length ts
mark_within [] i h = absurd (false≢true h)
mark_within (t ∷ ts) zero h = omega arith
mark_within (t ∷ ts) (suc i) h = let r = mark_within ts i h in omega (arith, r)

pub name_push : (ts : Table) (t : Name × Bool) (i : ℕ) → i < length ts → name_at (ts ++ t ∷ []) i ≡ name_at ts i
name_push [] t i h = absurd (omega arith)
name_push (x ∷ ts) t zero h = refl
name_push (x ∷ ts) t (suc i) h = name_push ts t i (omega arith)

pub mark_push : (ts : Table) (name : Name) (i : ℕ) → mark_at (ts ++ (name, false) ∷ []) i ≡ mark_at ts i
mark_push [] name zero = refl
mark_push [] name (suc i) = refl
mark_push (x ∷ ts) name zero = refl
mark_push (x ∷ ts) name (suc i) = mark_push ts name i

pub length_set : (ts : Table) (i : ℕ) (mark : Bool) → length (set_at ts i mark) ≡ length ts
length_set [] i mark = refl
length_set (t ∷ ts) zero mark = refl
length_set (t ∷ ts) (suc i) mark = ap suc (length_set ts i mark)

pub name_set : (ts : Table) (i j : ℕ) (mark : Bool) → name_at (set_at ts i mark) j ≡ name_at ts j
name_set [] i j mark = refl
name_set (t ∷ ts) zero zero mark = refl
name_set (t ∷ ts) zero (suc j) mark = refl
name_set (t ∷ ts) (suc i) zero mark = refl
name_set (t ∷ ts) (suc i) (suc j) mark = name_set ts i j mark

pub mark_set_here : (ts : Table) (i : ℕ) (mark : Bool) → i < length ts → mark_at (set_at ts i mark) i ≡ mark
mark_set_here [] i mark h = absurd (omega arith)
mark_set_here (t ∷ ts) zero mark h = refl
mark_set_here (t ∷ ts) (suc i) mark h = mark_set_here ts i mark (omega arith)

pub mark_set_other : (ts : Table) (i j : ℕ) (mark : Bool) → j ≢ i → mark_at (set_at ts i mark) j ≡ mark_at ts j
mark_set_other [] i j mark d = refl
mark_set_other (t ∷ ts) zero zero mark d = absurd (d refl)
mark_set_other (t ∷ ts) zero (suc j) mark d = refl
mark_set_other (t ∷ ts) (suc i) zero mark d = refl
mark_set_other (t ∷ ts) (suc i) (suc j) mark d = mark_set_other ts i j mark (λ e. d (ap suc e))

-- the mark that is there
pub same_mark : (a b : Bool) → beq a b ≡ true → a ≡ b
same_mark true true h = refl
same_mark true false h = absurd (false≢true h)
same_mark false true h = absurd (false≢true h)
same_mark false false h = refl

pub set_same : (ts : Table) (i : ℕ) (mark : Bool) → mark_at ts i ≡ mark → i < length ts → set_at ts i mark ≡ ts
set_same [] i mark e h = refl
set_same (t ∷ ts) zero mark e h = ap (λ b. (t.0, b) ∷ ts) (sym e)
set_same (t ∷ ts) (suc i) mark e h = ap (λ r. t ∷ r) (set_same ts i mark e (omega arith))

-- removed, it doesn't matter how it was marked
pub remove_set : (ts : Table) (i : ℕ) (mark : Bool) → remove (set_at ts i mark) i ≡ remove ts i
remove_set [] i mark = refl
remove_set (t ∷ ts) zero mark = refl
remove_set (t ∷ ts) (suc i) mark = ap (λ r. t ∷ r) (remove_set ts i mark)

pub length_remove : (ts : Table) (gone : ℕ) → gone < length ts → length (remove ts gone) + 1 ≡ length ts
length_remove [] gone h = absurd (omega arith)
length_remove (t ∷ ts) zero h = omega arith
length_remove (t ∷ ts) (suc gone) h = let r = length_remove ts gone (omega arith) in omega (arith, r)

pub name_remove_below : (ts : Table) (gone i : ℕ) → i < gone → name_at (remove ts gone) i ≡ name_at ts i
name_remove_below ts zero i h = absurd (omega arith)
name_remove_below [] (suc gone) i h = refl
name_remove_below (t ∷ ts) (suc gone) zero h = refl
name_remove_below (t ∷ ts) (suc gone) (suc i) h = name_remove_below ts gone i (omega arith)

pub name_remove_above : (ts : Table) (gone i : ℕ) → gone ≤ i → name_at (remove ts gone) i ≡ name_at ts (suc i)
name_remove_above [] zero i h = refl
name_remove_above (t ∷ ts) zero i h = refl
name_remove_above [] (suc gone) i h = refl
name_remove_above (t ∷ ts) (suc gone) zero h = absurd (omega arith)
name_remove_above (t ∷ ts) (suc gone) (suc i) h = name_remove_above ts gone i (omega arith)

pub mark_remove_below : (ts : Table) (gone i : ℕ) → i < gone → mark_at (remove ts gone) i ≡ mark_at ts i
mark_remove_below ts zero i h = absurd (omega arith)
mark_remove_below [] (suc gone) i h = refl
mark_remove_below (t ∷ ts) (suc gone) zero h = refl
mark_remove_below (t ∷ ts) (suc gone) (suc i) h = mark_remove_below ts gone i (omega arith)

pub mark_remove_above : (ts : Table) (gone i : ℕ) → gone ≤ i → mark_at (remove ts gone) i ≡ mark_at ts (suc i)
mark_remove_above [] zero i h = refl
mark_remove_above (t ∷ ts) zero i h = refl
mark_remove_above [] (suc gone) i h = refl
mark_remove_above (t ∷ ts) (suc gone) zero h = absurd (omega arith)
mark_remove_above (t ∷ ts) (suc gone) (suc i) h = mark_remove_above ts gone i (omega arith)

-- ---- how many are marked

count_cons : (b : Bool) (n m : ℕ) → n ≡ m → cond b (suc n) n ≡ cond b (suc m) m
count_cons b n m e = ap (λ k. cond b (suc k) k) e

pub count_push : (ts : Table) (name : Name) → count_marked (ts ++ (name, false) ∷ []) ≡ count_marked ts
count_push [] name = refl
count_push (t ∷ ts) name = count_cons t.1 _ _ (count_push ts name)

pub count_mark : (ts : Table) (i : ℕ) → i < length ts → mark_at ts i ≡ false → count_marked (set_at ts i true) ≡ suc (count_marked ts)
count_mark [] i h e = absurd (omega arith)
count_mark (t ∷ ts) zero h e = ap (λ b. suc (cond b (suc (count_marked ts)) (count_marked ts))) (sym e)
count_mark (t ∷ ts) (suc i) h e = at t.1 (count_mark ts i (omega arith) e)
  where
    at : (b : Bool) → count_marked (set_at ts i true) ≡ suc (count_marked ts)
        → cond b (suc (count_marked (set_at ts i true))) (count_marked (set_at ts i true)) ≡ suc (cond b (suc (count_marked ts)) (count_marked ts))
    at true r = ap suc r
    at false r = r

pub count_unmark : (ts : Table) (i : ℕ) → i < length ts → mark_at ts i ≡ true → suc (count_marked (set_at ts i false)) ≡ count_marked ts
count_unmark [] i h e = absurd (omega arith)
count_unmark (t ∷ ts) zero h e = ap (λ b. cond b (suc (count_marked ts)) (count_marked ts)) (sym e)
count_unmark (t ∷ ts) (suc i) h e = at t.1 (count_unmark ts i (omega arith) e)
  where
    at : (b : Bool) → suc (count_marked (set_at ts i false)) ≡ count_marked ts
        → suc (cond b (suc (count_marked (set_at ts i false))) (count_marked (set_at ts i false))) ≡ cond b (suc (count_marked ts)) (count_marked ts)
    at true r = ap suc r
    at false r = r

pub count_remove : (ts : Table) (i : ℕ) → i < length ts → mark_at ts i ≡ false → count_marked (remove ts i) ≡ count_marked ts
count_remove [] i h e = absurd (omega arith)
count_remove (t ∷ ts) zero h e = ap (λ b. cond b (suc (count_marked ts)) (count_marked ts)) (sym e)
count_remove (t ∷ ts) (suc i) h e = count_cons t.1 _ _ (count_remove ts i (omega arith) e)

pub count_at_most : (ts : Table) → count_marked ts ≤ length ts
count_at_most [] = omega arith
count_at_most (t ∷ ts) = at t.1 (count_at_most ts)
  where
    at : (b : Bool) → count_marked ts ≤ length ts → cond b (suc (count_marked ts)) (count_marked ts) ≤ suc (length ts)
    at true r = omega arith
    at false r = omega arith

-- one that is unmarked isn't among them
pub count_below : (ts : Table) (i : ℕ) → i < length ts → mark_at ts i ≡ false → count_marked ts < length ts
count_below [] i h e = absurd (omega arith)
count_below (t ∷ ts) zero h e =
    let most = count_at_most ts in
    subst (λ b. cond b (suc (count_marked ts)) (count_marked ts) < suc (length ts)) (sym e) (omega (arith, most))
count_below (t ∷ ts) (suc i) h e = at t.1 (count_below ts i (omega arith) e)
  where
    at : (b : Bool) → count_marked ts < length ts → cond b (suc (count_marked ts)) (count_marked ts) < suc (length ts)
    at true r = omega arith
    at false r = omega arith

-- ---- a name that was found

pub with_mark_named : (ts : Table) (name : Name) (i : ℕ) (mark : Bool) → AreUnique ts → StandsAt ts name i → with_mark ts name mark ≡ set_at ts i mark
with_mark_named ts name i mark u s = subst (λ n. with_mark ts n mark ≡ set_at ts i mark) s.is (with_mark_at ts i mark u s.within)

pub without_name_named : (ts : Table) (name : Name) (i : ℕ) → AreUnique ts → StandsAt ts name i → without_name ts name ≡ remove ts i
without_name_named ts name i u s = subst (λ n. without_name ts n ≡ remove ts i) s.is (without_name_at ts i u s.within)

-- whether a name was found says whether it is there
pub there_test : (ts : Table) (name : Name) (o : Option ℕ) → AreUnique ts → IfSome o (StandsAt ts name) → (o ≡ None → mark_of ts name ≡ None) → is_some o ≡ is_some (mark_of ts name)
there_test ts name None u found absent = sym (ap is_some (absent refl))
there_test ts name (Some i) u found absent = sym (ap is_some (mark_of_named ts name i u found))
