-- What a write of one row leaves.
use Rattle.std.proofs.Common.{◌≡◌, Bool, true, false, cond, Some, None, refl, sym, ap, ◌∙◌}
use Rattle.std.specs.Option.{option_map}
use Rattle.tb_model.specs.Names.{Name, same_name}
use Rattle.tb_model.proofs.TestLemmas.{same_true}
use Rattle.tb_undo.specs.declared.row.Row.{Row}
use Rattle.tb_undo.specs.Tasks.{Rows, row}

-- the row of t is written, and no other
abbrev pub Writes : Rows → Name → Row → Rows → Type 0
Writes old t w new = (u : Name) → row new u ≡ cond (same_name t u) (Some w) (row old u)

module _ (old new : Rows) (t : Name) (r w : Row) (found : row old t ≡ Some r) (writes : Writes old t w new) where
  -- what is read off the rows changes as what is read off the row
  pub changed : {A : Type 0} (view : Row → A) (f : A → A) → view w ≡ f (view r) → (u : Name) → option_map view (row new u) ≡ cond (same_name t u) (option_map f (option_map view (row old u))) (option_map view (row old u))
  changed view f h u = at (same_name t u) refl
    where
      at : (b : Bool) → same_name t u ≡ b → option_map view (row new u) ≡ cond b (option_map f (option_map view (row old u))) (option_map view (row old u))
      at true e =
          ap (option_map view) (writes u ∙ ap (λ b. cond b (Some w) (row old u)) e) ∙ ap Some h
          ∙ sym (ap (λ o. option_map f (option_map view o)) (ap (row old) (sym (same_true t u e)) ∙ found))
      at false e = ap (option_map view) (writes u ∙ ap (λ b. cond b (Some w) (row old u)) e)

  -- and what doesn't change in the row doesn't change
  pub kept : {A : Type 0} (view : Row → A) → view w ≡ view r → (u : Name) → option_map view (row new u) ≡ option_map view (row old u)
  kept view h u = at (same_name t u) refl
    where
      at : (b : Bool) → same_name t u ≡ b → option_map view (row new u) ≡ option_map view (row old u)
      at true e =
          ap (option_map view) (writes u ∙ ap (λ b. cond b (Some w) (row old u)) e) ∙ ap Some h
          ∙ sym (ap (option_map view) (ap (row old) (sym (same_true t u e)) ∙ found))
      at false e = ap (option_map view) (writes u ∙ ap (λ b. cond b (Some w) (row old u)) e)

-- where t isn't there, nothing is to be changed
pub absent : {A : Type 0} (old : Rows) (t : Name) (view : Row → A) (f : A → A) → row old t ≡ None → (u : Name) → option_map view (row old u) ≡ cond (same_name t u) (option_map f (option_map view (row old u))) (option_map view (row old u))
absent old t view f none u = at (same_name t u) refl
  where
    at : (b : Bool) → same_name t u ≡ b → option_map view (row old u) ≡ cond b (option_map f (option_map view (row old u))) (option_map view (row old u))
    at true e = let n = ap (row old) (sym (same_true t u e)) ∙ none in ap (option_map view) n ∙ sym (ap (λ o. option_map f (option_map view o)) n)
    at false e = refl
