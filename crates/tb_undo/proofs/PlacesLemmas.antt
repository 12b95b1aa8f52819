-- The row of a task is at its name's index.
use Rattle.std.proofs.Common.{◌≡◌, ◌≢◌, ◌<◌, ◌==◌, ℕ, zero, suc, Bool, true, false, cond, List, [], ◌∷◌, Option, Some, None, option_map, length, get_or, set, refl, sym, ap, ◌∙◌, subst, arith, eqb-true, eq-eqb}
use Rattle.std.specs.Prelude.{position}
use Rattle.std.specs.Map.{keys_of}
use Rattle.std.proofs.lemmas.Bool.{false≢true}
use Rattle.std.proofs.lemmas.List.{length-map, length-set, get_or_default, get_or-set_same, get_or-set_other, set-get_or}
use Rattle.std.proofs.lemmas.List.Quantifiers.{position-Some}
use Rattle.tb_model.specs.Names.{Name, same_name}
use Rattle.tb_model.proofs.TestLemmas.{same_true, same_refl}
use Rattle.tb_wait.specs.Kin.{Tasks as Waiting, place}
use Rattle.tb_undo.specs.declared.row.Row.{Row}
use Rattle.tb_undo.specs.Tasks.{Task, row, task, holders_of, seen_row}
use Rattle.tb_undo.specs.Places.{row_at, rows_in, AreInPlace}
use Rattle.tb_undo.proofs.RowsLemmas.{Writes, changed, kept, absent}

pub some_is : {A : Type 0} {x y : A} → Some x ≡ Some y → x ≡ y
some_is e = cc

-- a row that is found by a name is at an index
stands : (rows : List (Option Row)) (t : Name) (r : Row) → row (rows_in rows) t ≡ Some r → (i : ℕ) × (row_at rows i ≡ Some r) × (t ≡ r.holders.parent)
stands [] t r e = absurd (cc)
stands (None ∷ rows) t r e = let s = stands rows t r e in (suc s.0, s.1, s.2)
stands (Some q ∷ rows) t r e = at (stands rows t r) (same_name t q.holders.parent) refl
  where
    at : (row (rows_in rows) t ≡ Some r → (i : ℕ) × (row_at rows i ≡ Some r) × (t ≡ r.holders.parent)) → (b : Bool) → same_name t q.holders.parent ≡ b
        → (i : ℕ) × (row_at (Some q ∷ rows) i ≡ Some r) × (t ≡ r.holders.parent)
    at rest true h =
        let same : q ≡ r = some_is (sym (ap (λ b. cond b (Some q) (row (rows_in rows) t)) h) ∙ e) in
        (0, ap Some same, same_true t q.holders.parent h ∙ ap (λ (x : Row). x.holders.parent) same)
    at rest false h = let s = rest (sym (ap (λ b. cond b (Some q) (row (rows_in rows) t)) h) ∙ e) in (suc s.0, s.1, s.2)

-- a row that is at an index is found by its name, or another of the same name
is_found : (rows : List (Option Row)) (i : ℕ) (r : Row) → row_at rows i ≡ Some r → (q : Row) × (row (rows_in rows) r.holders.parent ≡ Some q)
is_found [] i r e = absurd (cc)
is_found (None ∷ rows) zero r e = absurd (cc)
is_found (None ∷ rows) (suc i) r e = is_found rows i r e
is_found (Some q ∷ rows) zero r e =
    let same : q ≡ r = some_is e in
    (q, ap (λ b. cond b (Some q) (row (rows_in rows) r.holders.parent)) (subst (λ (x : Row). same_name r.holders.parent x.holders.parent ≡ true) (sym same) (same_refl r.holders.parent)))
is_found (Some q ∷ rows) (suc i) r e = at (is_found rows i r e) (same_name r.holders.parent q.holders.parent) refl
  where
    at : (x : Row) × (row (rows_in rows) r.holders.parent ≡ Some x) → (b : Bool) → same_name r.holders.parent q.holders.parent ≡ b → (x : Row) × (row (rows_in (Some q ∷ rows)) r.holders.parent ≡ Some x)
    at f true h = (q, ap (λ b. cond b (Some q) (row (rows_in rows) r.holders.parent)) h)
    at f false h = (f.0, ap (λ b. cond b (Some q) (row (rows_in rows) r.holders.parent)) h ∙ f.1)

-- two names at one index are one
one_name : (ks : List Name) (t u : Name) (i : ℕ) → position (same_name t) ks ≡ Some i → position (same_name u) ks ≡ Some i → t ≡ u
one_name ks t u i e f = same_true t (get_or ks i []) (position-Some (same_name t) ks i [] e).1 ∙ sym (same_true u (get_or ks i []) (position-Some (same_name u) ks i [] f).1)

module _ (tasks : Waiting) (rows : List (Option Row)) (p : AreInPlace tasks rows) where
  pub within : (t : Name) (i : ℕ) → place tasks t ≡ Some i → i < length rows
  within t i e = omega (arith, (position-Some (same_name t) (keys_of tasks) i [] e).0, length-map tasks (λ e. e.0), p.count)

  -- the row that a name finds is the one at its index
  pub row_here : (t : Name) (i : ℕ) → place tasks t ≡ Some i → row (rows_in rows) t ≡ row_at rows i
  row_here t i e = at (row_at rows i) refl
    where
      there : (r : Row) → row (rows_in rows) t ≡ Some r → row_at rows i ≡ Some r
      there r f =
          let s = stands rows t r f in
          let same : s.0 ≡ i = some_is (sym (p.placed s.0 r s.1) ∙ ap (place tasks) (sym s.2) ∙ e) in
          subst (λ j. row_at rows j ≡ Some r) same s.1

      at : (o : Option Row) → row_at rows i ≡ o → row (rows_in rows) t ≡ row_at rows i
      at None g = by (row (rows_in rows) t) refl
        where
          by : (o : Option Row) → row (rows_in rows) t ≡ o → row (rows_in rows) t ≡ row_at rows i
          by None f = f ∙ sym g
          by (Some r) f = f ∙ sym (there r f)
      at (Some r) g =
          let mine : t ≡ r.holders.parent = one_name (keys_of tasks) t r.holders.parent i e (p.placed i r g) in
          let f = is_found rows i r g in
          let found : row (rows_in rows) t ≡ Some f.0 = ap (row (rows_in rows)) mine ∙ f.1 in
          found ∙ sym (there f.0 found)

  pub no_row : (t : Name) → place tasks t ≡ None → row (rows_in rows) t ≡ None
  no_row t e = at (row (rows_in rows) t) refl
    where
      at : (o : Option Row) → row (rows_in rows) t ≡ o → row (rows_in rows) t ≡ None
      at None f = f
      at (Some r) f = let s = stands rows t r f in let clash : None ≡ Some s.0 = sym e ∙ ap (place tasks) s.2 ∙ p.placed s.0 r s.1 in absurd (cc)

-- what comes to be at an index is found by the index's name, and nothing else changes
module _ (tasks : Waiting) (rows : List (Option Row)) (p : AreInPlace tasks rows) (t : Name) (i : ℕ) (here : place tasks t ≡ Some i) (x : Option Row) (own : (q : Row) → x ≡ Some q → q.holders.parent ≡ t) where
  pub placed_after : AreInPlace tasks (set rows i x)
  placed_after = record { count = length-set rows i x ∙ p.count; placed = λ j q e. at j q e (j == i) refl }
    where
      at : (j : ℕ) (q : Row) → row_at (set rows i x) j ≡ Some q → (b : Bool) → (j == i) ≡ b → place tasks q.holders.parent ≡ Some j
      at j q e true h =
          let same : j ≡ i = eqb-true j i h in
          let is : x ≡ Some q = sym (get_or-set_same rows i x None (within tasks rows p t i here)) ∙ subst (λ k. row_at (set rows i x) k ≡ Some q) same e in
          ap (place tasks) (own q is) ∙ here ∙ ap Some (sym same)
      at j q e false h = p.placed j q (sym (get_or-set_other rows i j x None (λ y. false≢true (sym h ∙ eq-eqb j i y))) ∙ e)

  pub changes : (u : Name) → row (rows_in (set rows i x)) u ≡ cond (same_name t u) x (row (rows_in rows) u)
  changes u = at (place tasks u) refl (same_name t u) refl
    where
      at : (o : Option ℕ) → place tasks u ≡ o → (b : Bool) → same_name t u ≡ b → row (rows_in (set rows i x)) u ≡ cond (same_name t u) x (row (rows_in rows) u)
      at o e true h =
          let mine : place tasks u ≡ Some i = ap (place tasks) (sym (same_true t u h)) ∙ here in
          row_here tasks (set rows i x) placed_after u i mine ∙ get_or-set_same rows i x None (within tasks rows p t i here) ∙ sym (ap (λ b. cond b x (row (rows_in rows) u)) h)
      at None e false h = no_row tasks (set rows i x) placed_after u e ∙ sym (no_row tasks rows p u e) ∙ sym (ap (λ b. cond b x (row (rows_in rows) u)) h)
      at (Some j) e false h =
          let other : j ≢ i = λ y. false≢true (sym h ∙ subst (λ v. same_name t v ≡ true) (one_name (keys_of tasks) t u i here (e ∙ ap Some y)) (same_refl t)) in
          row_here tasks (set rows i x) placed_after u j e ∙ get_or-set_other rows i j x None other ∙ sym (row_here tasks rows p u j e) ∙ sym (ap (λ b. cond b x (row (rows_in rows) u)) h)

-- what is at the index of t, as a body reads it there and writes it back
module _ (tasks : Waiting) (rows : List (Option Row)) (p : AreInPlace tasks rows) (t : Name) (i : ℕ) (here : place tasks t ≡ Some i) (x : Option Row) (value : x ≡ get_or rows i x) where
  read : row (rows_in rows) t ≡ x
  read = row_here tasks rows p t i here ∙ get_or_default rows i None x (within tasks rows p t i here) ∙ sym value

  pub found : (r : Row) → x ≡ Some r → row (rows_in rows) t ≡ Some r
  found r is = read ∙ is

  pub missing : x ≡ None → row (rows_in rows) t ≡ None
  missing is = read ∙ is

  pub same_rows : set rows i x ≡ rows
  same_rows = ap (set rows i) value ∙ set-get_or rows i x

  module _ (r w : Row) (is : x ≡ Some r) (kept : w.holders.parent ≡ r.holders.parent) where
    own : (q : Row) → Some w ≡ Some q → q.holders.parent ≡ t
    own q e =
        let at = p.placed i r (get_or_default rows i None x (within tasks rows p t i here) ∙ sym value ∙ is) in
        ap (λ (y : Row). y.holders.parent) (sym (some_is e)) ∙ kept ∙ one_name (keys_of tasks) r.holders.parent t i at here

    pub stays : AreInPlace tasks (set rows i (Some w))
    stays = placed_after tasks rows p t i here (Some w) own

    pub writes : Writes (rows_in rows) t w (rows_in (set rows i (Some w)))
    writes = changes tasks rows p t i here (Some w) own

  -- a step of the task changes what it says of the task, and not who holds what
  module _ (r w : Row) (is : x ≡ Some r) (f : Task → Task) (seen : seen_row w ≡ f (seen_row r)) (same : w.holders ≡ r.holders) where
    all_writes : Writes (rows_in rows) t w (rows_in (set rows i (Some w)))
    all_writes = writes r w is (ap (λ h. h.parent) same)

    pub steps : (u : Name) → task (rows_in (set rows i (Some w))) u ≡ cond (same_name t u) (option_map f (task (rows_in rows) u)) (task (rows_in rows) u)
    steps = changed (rows_in rows) (rows_in (set rows i (Some w))) t r w (found r is) all_writes seen_row f seen

    pub holds_as_before : (p : Name) → holders_of (rows_in (set rows i (Some w))) p ≡ holders_of (rows_in rows) p
    holds_as_before = kept (rows_in rows) (rows_in (set rows i (Some w))) t r w (found r is) all_writes (λ (y : Row). y.holders) same

  -- where no row is there is none to change
  pub steps_nowhere : (f : Task → Task) → x ≡ None → (u : Name) → task (rows_in (set rows i x)) u ≡ cond (same_name t u) (option_map f (task (rows_in rows) u)) (task (rows_in rows) u)
  steps_nowhere f is =
      subst (λ rs. (u : Name) → task (rows_in rs) u ≡ cond (same_name t u) (option_map f (task (rows_in rows) u)) (task (rows_in rows) u)) (sym same_rows)
      (absent (rows_in rows) t seen_row f (missing is))
