-- What a change of the table leaves of each name's mark.
use Rattle.std.proofs.Common.{◌≡◌, ℕ, Bool, true, false, not, cond, List, [], ◌∷◌, ◌++◌, Option, Some, None, refl, ap, sym, ◌∙◌}
use Rattle.std.specs.Prelude.{option_map, is_some, unwrap_or}
use Rattle.std.specs.Map.{keys_of}
use Rattle.tb_model.specs.Names.{Name, same_name}
use Rattle.tb_model.proofs.TestLemmas.{same_true, same_refl}
use Rattle.tb_ready.specs.Tasks.{mark_of, with_name, with_mark, without_name}
use Rattle.tb_ready.specs.Layout.{tasks_of}

abbrev Table : Type 0
Table = List (Name × Bool)

pub keys_tasks : (es : List (Name × ℕ)) (slots : List (Option Bool)) → keys_of (tasks_of es slots) ≡ keys_of es
keys_tasks [] slots = refl
keys_tasks (e ∷ es) slots = ap (λ ks. e.0 ∷ ks) (keys_tasks es slots)

-- ---- one name more

push_here : (ts : Table) (name : Name) → mark_of ts name ≡ None → mark_of (ts ++ (name, false) ∷ []) name ≡ Some false
push_here [] name h = ap (λ b. cond b (Some false) None) (same_refl name)
push_here (t ∷ ts) name h = at (same_name name t.0) h (λ r. push_here ts name r)
  where
    at : (b : Bool) → cond b (Some t.1) (mark_of ts name) ≡ None → (mark_of ts name ≡ None → mark_of (ts ++ (name, false) ∷ []) name ≡ Some false)
        → cond b (Some t.1) (mark_of (ts ++ (name, false) ∷ []) name) ≡ Some false
    at true g rest = absurd (cc)
    at false g rest = rest g

push_other : (ts : Table) (name other : Name) → same_name other name ≡ false → mark_of (ts ++ (name, false) ∷ []) other ≡ mark_of ts other
push_other [] name other d = ap (λ b. cond b (Some false) None) d
push_other (t ∷ ts) name other d = ap (λ m. cond (same_name other t.0) (Some t.1) m) (push_other ts name other d)

pub added : (ts : Table) (name : Name) → mark_of ts name ≡ None → mark_of (with_name ts name) name ≡ Some false
added ts name h = ap (λ m. mark_of (cond (is_some m) ts (ts ++ (name, false) ∷ [])) name) h ∙ push_here ts name h

pub added_others : (ts : Table) (name other : Name) → same_name other name ≡ false → mark_of (with_name ts name) other ≡ mark_of ts other
added_others ts name other d = at (is_some (mark_of ts name))
  where
    at : (b : Bool) → mark_of (cond b ts (ts ++ (name, false) ∷ [])) other ≡ mark_of ts other
    at true = refl
    at false = push_other ts name other d

-- ---- a mark

-- a name's own entry is no other's
entry_other : (k name other : Name) → same_name name k ≡ true → same_name other name ≡ false → same_name other k ≡ false
entry_other k name other e d = ap (same_name other) (sym (same_true name k e)) ∙ d

pub marked : (ts : Table) (name : Name) (mark : Bool) → mark_of (with_mark ts name mark) name ≡ option_map (λ _. mark) (mark_of ts name)
marked [] name mark = refl
marked (t ∷ ts) name mark = at (same_name name t.0) refl (marked ts name mark)
  where
    at : (b : Bool) → same_name name t.0 ≡ b → mark_of (with_mark ts name mark) name ≡ option_map (λ _. mark) (mark_of ts name)
        → mark_of (cond b ((t.0, mark) ∷ ts) (t ∷ with_mark ts name mark)) name ≡ option_map (λ _. mark) (cond b (Some t.1) (mark_of ts name))
    at true e rest = ap (λ b. cond b (Some mark) (mark_of ts name)) e
    at false e rest = ap (λ b. cond b (Some t.1) (mark_of (with_mark ts name mark) name)) e ∙ rest

pub marked_others : (ts : Table) (name other : Name) (mark : Bool) → same_name other name ≡ false → mark_of (with_mark ts name mark) other ≡ mark_of ts other
marked_others [] name other mark d = refl
marked_others (t ∷ ts) name other mark d = at (same_name name t.0) refl (marked_others ts name other mark d)
  where
    at : (b : Bool) → same_name name t.0 ≡ b → mark_of (with_mark ts name mark) other ≡ mark_of ts other
        → mark_of (cond b ((t.0, mark) ∷ ts) (t ∷ with_mark ts name mark)) other ≡ mark_of (t ∷ ts) other
    at true e rest =
        let no = entry_other t.0 name other e d in
        ap (λ b. cond b (Some mark) (mark_of ts other)) no ∙ sym (ap (λ b. cond b (Some t.1) (mark_of ts other)) no)
    at false e rest = ap (λ m. cond (same_name other t.0) (Some t.1) m) rest

pub marked_back : (ts : Table) (name : Name) (was mark : Bool) → mark_of ts name ≡ Some was → with_mark (with_mark ts name mark) name was ≡ ts
marked_back [] name was mark h = refl
marked_back (t ∷ ts) name was mark h = at (same_name name t.0) refl h (λ r. marked_back ts name was mark r)
  where
    at : (b : Bool) → same_name name t.0 ≡ b → cond b (Some t.1) (mark_of ts name) ≡ Some was → (mark_of ts name ≡ Some was → with_mark (with_mark ts name mark) name was ≡ ts)
        → with_mark (cond b ((t.0, mark) ∷ ts) (t ∷ with_mark ts name mark)) name was ≡ t ∷ ts
    at true e g rest =
        ap (λ b. cond b ((t.0, was) ∷ ts) ((t.0, mark) ∷ with_mark ts name was)) e
        ∙ ap (λ m. (t.0, m) ∷ ts) (sym (ap (λ o. unwrap_or o was) g))
    at false e g rest =
        ap (λ b. cond b ((t.0, was) ∷ with_mark ts name mark) (t ∷ with_mark (with_mark ts name mark) name was)) e
        ∙ ap (λ r. t ∷ r) (rest g)

-- ---- one name less

pub removed : (ts : Table) (name : Name) → mark_of (without_name ts name) name ≡ None
removed [] name = refl
removed (t ∷ ts) name = at (same_name name t.0) refl (removed ts name)
  where
    at : (b : Bool) → same_name name t.0 ≡ b → mark_of (without_name ts name) name ≡ None
        → mark_of (cond (not b) (t ∷ without_name ts name) (without_name ts name)) name ≡ None
    at true e rest = rest
    at false e rest = ap (λ b. cond b (Some t.1) (mark_of (without_name ts name) name)) e ∙ rest

pub removed_others : (ts : Table) (name other : Name) → same_name other name ≡ false → mark_of (without_name ts name) other ≡ mark_of ts other
removed_others [] name other d = refl
removed_others (t ∷ ts) name other d = at (same_name name t.0) refl (removed_others ts name other d)
  where
    at : (b : Bool) → same_name name t.0 ≡ b → mark_of (without_name ts name) other ≡ mark_of ts other
        → mark_of (cond (not b) (t ∷ without_name ts name) (without_name ts name)) other ≡ mark_of (t ∷ ts) other
    at true e rest = rest ∙ sym (ap (λ b. cond b (Some t.1) (mark_of ts other)) (entry_other t.0 name other e d))
    at false e rest = ap (λ m. cond (same_name other t.0) (Some t.1) m) rest

push_removed : (ts : Table) (name : Name) → mark_of ts name ≡ None → without_name (ts ++ (name, false) ∷ []) name ≡ ts
push_removed [] name h = ap (λ b. cond (not b) ((name, false) ∷ []) []) (same_refl name)
push_removed (t ∷ ts) name h = at (same_name name t.0) h (λ r. push_removed ts name r)
  where
    at : (b : Bool) → cond b (Some t.1) (mark_of ts name) ≡ None → (mark_of ts name ≡ None → without_name (ts ++ (name, false) ∷ []) name ≡ ts)
        → cond (not b) (t ∷ without_name (ts ++ (name, false) ∷ []) name) (without_name (ts ++ (name, false) ∷ []) name) ≡ t ∷ ts
    at true g rest = absurd (cc)
    at false g rest = ap (λ r. t ∷ r) (rest g)

pub added_back : (ts : Table) (name : Name) → mark_of ts name ≡ None → without_name (with_name ts name) name ≡ ts
added_back ts name h = ap (λ m. without_name (cond (is_some m) ts (ts ++ (name, false) ∷ [])) name) h ∙ push_removed ts name h
