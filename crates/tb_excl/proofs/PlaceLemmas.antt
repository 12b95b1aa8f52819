-- One location that is written.
use Rattle.std.proofs.Common.{◌≡◌, ◌<◌, ℕ, List, Bool, true, false, cond, Option, Some, None, option_map, sym, ap, ◌∙◌, nat_eq, unwrap_or}
use Rattle.std.specs.Map.{lookup}
use Rattle.tb_model.specs.declared.place.Place.TheVariants.{Cell, All}
use Rattle.tb_model.specs.Names.{Name}
use Rattle.tb_excl.specs.Search.{AreFromOne, seen}

abbrev Cells : Type 0
Cells = List (ℕ × Option ℕ)

-- the cell's holder changes, where the cell has an index
abbrev pub SetsCell : Cells → ℕ → Option ℕ → Cells → Type 0
SetsCell old cell to new =
    (c : ℕ) → lookup (nat_eq c) new ≡ cond (nat_eq cell c) (option_map (λ _. to) (lookup (nat_eq c) old)) (lookup (nat_eq c) old)

pub reserved_from_one : (t : Name) (old new : Cells) (all : Option ℕ) → ((c : ℕ) → unwrap_or (lookup (nat_eq c) new) None ≡ unwrap_or (lookup (nat_eq c) old) None) → AreFromOne (seen t old all) → AreFromOne (seen t new all)
reserved_from_one t old new all same h (Cell c) n e = h (Cell c) n (sym (same c) ∙ e)
reserved_from_one t old new all same h All n e = h All n e

holder_set : (old new : Option (Option ℕ)) (b : Bool) (to : Option ℕ) (n : ℕ) → new ≡ cond b (option_map (λ _. to) old) old → unwrap_or new None ≡ Some n → (to ≡ Some n → 0 < n) → (unwrap_or old None ≡ Some n → 0 < n) → 0 < n
holder_set None new true to n s e f g = cc
holder_set (Some x) new true to n s e f g = f (sym (ap (λ o. unwrap_or o None) s) ∙ e)
holder_set old new false to n s e f g = g (sym (ap (λ o. unwrap_or o None) s) ∙ e)

pub set_from_one : (t : Name) (old new : Cells) (all to : Option ℕ) (cell : ℕ) → SetsCell old cell to new → ((n : ℕ) → to ≡ Some n → 0 < n) → AreFromOne (seen t old all) → AreFromOne (seen t new all)
set_from_one t old new all to cell s f h (Cell c) n e = holder_set (lookup (nat_eq c) old) (lookup (nat_eq c) new) (nat_eq cell c) to n (s c) e (f n) (h (Cell c) n)
set_from_one t old new all to cell s f h All n e = h All n e
