-- A task comes to be at its name's index, and is no longer there.
use Rattle.std.proofs.Common.{◌≡◌, ◌⊎◌, ◌<◌, ◌≤◌, ◌++◌, ◌==◌, ℕ, zero, suc, Bool, true, false, cond, List, [], ◌∷◌, Option, Some, None, is_some, length, set, refl, sym, ap, ◌∙◌, subst, arith, ⊎_elim, eqb-true, unwrap_or}
use Rattle.std.specs.Prelude.{position, option_map}
use Rattle.std.specs.Map.{keys_of}
use Rattle.std.proofs.Math.ListN.{get_or-eq_default}
use Rattle.std.proofs.Math.Seq.{get_or-append_seam}
use Rattle.std.proofs.lemmas.Bool.{false≢true, cases_lt, false_from_ne_true}
use Rattle.std.proofs.lemmas.List.{length-map, length-append, get_or_append_left}
use Rattle.tb_model.specs.declared.place.Place.{Place}
use Rattle.tb_model.specs.Names.{Name, same_name}
use Rattle.tb_model.proofs.TestLemmas.{same_true, same_refl}
use Rattle.tb_excl.specs.Holders.{Holders, holder}
use Rattle.tb_wait.specs.Kin.{Tasks as Waiting, place, is_known, names_with}
use Rattle.tb_wait.proofs.PlaceLemmas.{grown, grown_last, grown_none, unknown_place, known_place}
use Rattle.tb_undo.specs.declared.row.Row.{Row}
use Rattle.tb_undo.specs.Tasks.{Rows, row, seen_row}
use Rattle.tb_undo.specs.Sets.{Comes, Goes}
use Rattle.tb_undo.specs.Places.{row_at, rows_in, AreInPlace, HasPlaceOrRoom}
use Rattle.tb_undo.proofs.PlacesLemmas.{some_is, within, row_here, no_row, placed_after, changes}

-- ---- what comes and goes by name

module _ (old new : Rows) (t : Name) (r : Row) (c : (u : Name) → row new u ≡ cond (same_name t u) (Some r) (row old u)) where
  pub comes : r.holders.parent ≡ t → ((p : Place) → holder r.holders p ≡ None) → Comes old t (seen_row r) new
  comes own free = record {
    tasks = λ u. ap (option_map seen_row) (c u) ∙ seen u (same_name t u) refl;
    founds = record {
      others = λ u h. ap (option_map (λ (x : Row). x.holders)) (rest u h);
      parent = λ h e. ap (λ (x : Holders). x.parent) (sym (mine h e)) ∙ own;
      free = λ h p e. ap (λ x. holder x p) (sym (mine h e)) ∙ free p;
    };
    rest = rest;
  }
    where
      rest : (u : Name) → same_name t u ≡ false → row new u ≡ row old u
      rest u h = c u ∙ ap (λ b. cond b (Some r) (row old u)) h

      seen : (u : Name) (b : Bool) → same_name t u ≡ b → option_map seen_row (cond (same_name t u) (Some r) (row old u)) ≡ cond (same_name t u) (Some (seen_row r)) (option_map seen_row (row old u))
      seen u true h = ap (λ b. option_map seen_row (cond b (Some r) (row old u))) h ∙ sym (ap (λ b. cond b (Some (seen_row r)) (option_map seen_row (row old u))) h)
      seen u false h = ap (λ b. option_map seen_row (cond b (Some r) (row old u))) h ∙ sym (ap (λ b. cond b (Some (seen_row r)) (option_map seen_row (row old u))) h)

      mine : (h : Holders) → option_map (λ (x : Row). x.holders) (row new t) ≡ Some h → r.holders ≡ h
      mine h e = some_is (sym (ap (option_map (λ (x : Row). x.holders)) (c t ∙ ap (λ b. cond b (Some r) (row old t)) (same_refl t))) ∙ e)

pub goes : (old new : Rows) (t : Name) → ((u : Name) → row new u ≡ cond (same_name t u) None (row old u)) → Goes old t new
goes old new t c = record { tasks = λ u. ap (option_map seen_row) (c u) ∙ seen seen_row u (same_name t u) refl; holders = λ u. ap (option_map (λ (x : Row). x.holders)) (c u) ∙ seen (λ x. x.holders) u (same_name t u) refl }
  where
    seen : {A : Type 0} (view : Row → A) (u : Name) (b : Bool) → same_name t u ≡ b → option_map view (cond (same_name t u) None (row old u)) ≡ cond (same_name t u) None (option_map view (row old u))
    seen view u true h = ap (λ b. option_map view (cond b None (row old u))) h ∙ sym (ap (λ b. cond b None (option_map view (row old u))) h)
    seen view u false h = ap (λ b. option_map view (cond b None (row old u))) h ∙ sym (ap (λ b. cond b None (option_map view (row old u))) h)

-- one that isn't there goes
pub none_goes : (old : Rows) (t : Name) → row old t ≡ None → Goes old t old
none_goes old t none = goes old old t at
  where
    at : (u : Name) → row old u ≡ cond (same_name t u) None (row old u)
    at u = by (same_name t u) refl
      where
        by : (b : Bool) → same_name t u ≡ b → row old u ≡ cond (same_name t u) None (row old u)
        by true h = ap (row old) (sym (same_true t u h)) ∙ none ∙ sym (ap (λ b. cond b None (row old u)) h)
        by false h = sym (ap (λ b. cond b None (row old u)) h)

-- ---- a row at the index of a name that has just come

-- an index that is looked for among the first n, and n where there is none
pub found_among : (o : Option ℕ) (n at : ℕ) → at ≡ unwrap_or o n → at < n → o ≡ Some at
found_among None n at e w = absurd (omega (arith, e, w))
found_among (Some i) n at e w = ap (λ x. Some x) (sym e)

pub none_among : (o : Option ℕ) (n at : ℕ) → at ≡ unwrap_or o n → (at < n → ⊥) → (i : ℕ) → o ≡ Some i → i < n → ⊥
none_among o n at e out i is w = out (subst (λ x. x < n) (sym (e ∙ ap (λ x. unwrap_or x n) is)) w)

module _ (tasks before : Waiting) (rows : List (Option Row)) (p : AreInPlace before rows) (t : Name) (names : keys_of tasks ≡ names_with before t) (r : Row) (own : r.holders.parent ≡ t) where
  same_keys : is_known before t ≡ true → keys_of tasks ≡ keys_of before
  same_keys h = names ∙ ap (λ b. cond b (keys_of before) (keys_of before ++ t ∷ [])) h

  more_keys : is_known before t ≡ false → keys_of tasks ≡ keys_of before ++ t ∷ []
  more_keys h = names ∙ ap (λ b. cond b (keys_of before) (keys_of before ++ t ∷ [])) h

  placed_again : is_known before t ≡ true → AreInPlace tasks rows
  placed_again h = record {
    count = omega (arith, p.count, length-map tasks (λ e. e.0), length-map before (λ e. e.0), ap length (same_keys h));
    placed = λ i q e. ap (position (same_name q.holders.parent)) (same_keys h) ∙ p.placed i q e;
  }

  length_is : length (keys_of before) ≡ length rows
  length_is = omega (arith, p.count, length-map before (λ e. e.0))

  last_place : is_known before t ≡ false → place tasks t ≡ Some (length rows)
  last_place h =
      ap (position (same_name t)) (more_keys h) ∙ grown_last (same_name t) (keys_of before) t (unknown_place before t h) (same_refl t) ∙ ap Some length_is

  -- where the index is one of those that there were, the name was known
  known_at : (i : ℕ) → place tasks t ≡ Some i → i < length rows → is_known before t ≡ true
  known_at i here w = at (is_known before t) refl
    where
      at : (b : Bool) → is_known before t ≡ b → is_known before t ≡ true
      at true h = h
      at false h = absurd (omega (arith, w, some_is (sym here ∙ last_place h)))

  is_mine : (q : Row) → Some r ≡ Some q → q.holders.parent ≡ t
  is_mine q e = let same : r ≡ q = cc in ap (λ (x : Row). x.holders.parent) (sym same) ∙ own

  module _ (i : ℕ) (here : place tasks t ≡ Some i) (w : i < length rows) where
    pub placed_there : AreInPlace tasks (set rows i (Some r))
    placed_there = placed_after tasks rows (placed_again (known_at i here w)) t i here (Some r) is_mine

    pub comes_there : ((p : Place) → holder r.holders p ≡ None) → Comes (rows_in rows) t (seen_row r) (rows_in (set rows i (Some r)))
    comes_there free = comes (rows_in rows) _ t r (changes tasks rows (placed_again (known_at i here w)) t i here (Some r) is_mine) own free

  module _ (out : (i : ℕ) → place tasks t ≡ Some i → i < length rows → ⊥) where
    new_name : is_known before t ≡ false
    new_name = at (is_known before t) refl
      where
        some : (o : Option ℕ) → place tasks t ≡ o → is_some o ≡ true → (h : is_known before t ≡ true) → ⊥
        some (Some i) e s h = out i e (within tasks rows (placed_again h) t i e)
        some None e s h = cc

        at : (b : Bool) → is_known before t ≡ b → is_known before t ≡ false
        at false h = h
        at true h = absurd (some (place tasks t) refl (ap (λ ks. is_some (position (same_name t) ks)) (same_keys h) ∙ known_place before t h) h)

    -- so there is capacity for its row
    pub room_left : (room : ℕ) → HasPlaceOrRoom before t room → 0 < room
    room_left room can = ⊎_elim (λ some. absurd (false≢true (sym (ap is_some (unknown_place before t new_name)) ∙ some))) (λ left. left) can

    pushed_in : (j : ℕ) → j < length rows → row_at (rows ++ Some r ∷ []) j ≡ row_at rows j
    pushed_in j w = get_or_append_left rows (Some r ∷ []) None j w

    pub placed_last : AreInPlace tasks (rows ++ Some r ∷ [])
    placed_last = record {
      count = omega (arith, p.count, length-append rows (Some r ∷ []), length-map tasks (λ e. e.0), length-map before (λ e. e.0), ap length (more_keys new_name), length-append (keys_of before) (t ∷ []));
      placed = λ j q e. ⊎_elim
          (λ low. ap (position (same_name q.holders.parent)) (more_keys new_name) ∙ grown (same_name q.holders.parent) (keys_of before) t j (p.placed j q (sym (pushed_in j low) ∙ e)))
          (λ high. at j q e high (j == length rows) refl)
          (cases_lt j (length rows));
    }
      where
        at : (j : ℕ) (q : Row) → row_at (rows ++ Some r ∷ []) j ≡ Some q → length rows ≤ j → (b : Bool) → (j == length rows) ≡ b → place tasks q.holders.parent ≡ Some j
        at j q e high true h =
            let last : j ≡ length rows = eqb-true j (length rows) h in
            let is : Some r ≡ Some q = sym (ap (row_at (rows ++ Some r ∷ [])) last ∙ get_or-append_seam rows (Some r) [] None) ∙ e in
            ap (place tasks) (is_mine q is) ∙ last_place new_name ∙ ap Some (sym last)
        at j q e high false h =
            let past : length (rows ++ Some r ∷ []) ≤ j = grind (arith, high, h, length-append rows (Some r ∷ [])) in
            let clash : None ≡ Some q = sym (get_or-eq_default (rows ++ Some r ∷ []) None past) ∙ e in
            absurd (cc)

    pub comes_last : ((p : Place) → holder r.holders p ≡ None) → Comes (rows_in rows) t (seen_row r) (rows_in (rows ++ Some r ∷ []))
    comes_last free = comes (rows_in rows) (rows_in (rows ++ Some r ∷ [])) t r (λ u. at u (place before u) refl (same_name t u) refl) own free
      where
        at : (u : Name) (o : Option ℕ) → place before u ≡ o → (b : Bool) → same_name t u ≡ b → row (rows_in (rows ++ Some r ∷ [])) u ≡ cond (same_name t u) (Some r) (row (rows_in rows) u)
        at u o e true h =
            row_here tasks (rows ++ Some r ∷ []) placed_last u (length rows) (ap (place tasks) (sym (same_true t u h)) ∙ last_place new_name)
            ∙ get_or-append_seam rows (Some r) [] None ∙ sym (ap (λ b. cond b (Some r) (row (rows_in rows) u)) h)
        at u None e false h =
            no_row tasks (rows ++ Some r ∷ []) placed_last u (ap (position (same_name u)) (more_keys new_name) ∙ grown_none (same_name u) (keys_of before) t e (other u h))
            ∙ sym (no_row before rows p u e) ∙ sym (ap (λ b. cond b (Some r) (row (rows_in rows) u)) h)
          where
            other : (u : Name) → same_name t u ≡ false → same_name u t ≡ false
            other u h = false_from_ne_true (same_name u t) (λ s. false≢true (sym h ∙ subst (λ y. same_name t y ≡ true) (sym (same_true u t s)) (same_refl t)))
        at u (Some j) e false h =
            row_here tasks (rows ++ Some r ∷ []) placed_last u j (ap (position (same_name u)) (more_keys new_name) ∙ grown (same_name u) (keys_of before) t j e)
            ∙ pushed_in j (within before rows p u j e) ∙ sym (row_here before rows p u j e) ∙ sym (ap (λ b. cond b (Some r) (row (rows_in rows) u)) h)

-- the root's row is at the first index
pub placed_root : (r : Row) → r.holders.parent ≡ [] → (tasks : Waiting) → keys_of tasks ≡ [] ∷ [] → AreInPlace tasks (Some r ∷ [])
placed_root r own tasks keys = record {
  count = sym (sym (length-map tasks (λ e. e.0)) ∙ ap length keys);
  placed = λ i q e. at i q e;
}
  where
    at : (i : ℕ) (q : Row) → row_at (Some r ∷ []) i ≡ Some q → place tasks q.holders.parent ≡ Some i
    at zero q e = let same : r ≡ q = cc in ap (λ ks. position (same_name q.holders.parent) ks) keys ∙ ap (λ t. position (same_name t) ([] ∷ [])) (ap (λ (x : Row). x.holders.parent) (sym same) ∙ own)
    at (suc i) q e = absurd (cc)

-- ---- the capacity for a row

pub along_names : (a b : Waiting) (t : Name) (room : ℕ) → keys_of b ≡ keys_of a → HasPlaceOrRoom a t room → HasPlaceOrRoom b t room
along_names a b t room e can = subst (λ ks. (is_some (position (same_name t) ks) ≡ true) ⊎ (0 < room)) (sym e) can

pub place_known : (tasks : Waiting) (t : Name) → is_some (place tasks t) ≡ true → is_known tasks t ≡ true
place_known tasks t some = at (is_known tasks t) refl
  where
    at : (b : Bool) → is_known tasks t ≡ b → is_known tasks t ≡ true
    at true h = h
    at false h = absurd (false≢true (sym (ap is_some (unknown_place tasks t h)) ∙ some))
