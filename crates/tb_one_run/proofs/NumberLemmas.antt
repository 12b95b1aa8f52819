-- What an action says besides the value that a load reads.
use Rattle.std.proofs.Common.{◌≡◌, ℕ, ℤ, [], ◌∷◌, ◌++◌, ◌==◌, false, refl, sym, ◌∙◌}
use Rattle.std.specs.List.{list_any}
use Rattle.std.proofs.lemmas.Bool.{both_ways, or_parts, eq-eqb, ne_eqb}
use Rattle.tb_model.specs.declared.action.Action.{Action}
use Rattle.tb_model.specs.declared.action.Action.TheVariants.{Load, Store}
use Rattle.tb_model.specs.Facts.{History, last, is_store_to}
use Rattle.tb_model.specs.Needs.{conflicts}
use Rattle.tb_model.proofs.PartsLemmas.{stores_to, not_stored}

-- what doesn't look at the value that a load reads
abbrev pub IsBlind : {A : Type 0} → (Action → A) → Type 0
IsBlind f = (r c : ℕ) (x y : ℤ) → f (Load r c x) ≡ f (Load r c y)

-- what doesn't conflict with a load stores to another cell
pub conflict_load : (b : Action) (r c : ℕ) (x : ℤ) → conflicts b (Load r c x) ≡ false → is_store_to c b ≡ false
conflict_load (Store d y) r c x h = ne_eqb c d (λ e. both_ways (d == c) h (eq-eqb d c (sym e)))
conflict_load _ r c x h = refl

-- what doesn't store to a cell leaves its value
pub last_skip : (first : ℤ) (c : ℕ) (L F : History) → list_any (stores_to c) L ≡ false → last first c (L ++ F) ≡ last first c F
last_skip first c [] F h = refl
last_skip first c (x ∷ L) F h =
    let o = or_parts (stores_to c x) (list_any (stores_to c) L) h in
    not_stored c x.action (last first c (L ++ F)) o.0 ∙ last_skip first c L F o.1
