-- The name of a body, by its line.
use Rattle.std.proofs.Common.{◌≡◌, ℕ, List, [], ◌∷◌, ◌==◌, cond, Bool, true, false, Option, Some, refl, sym, ap, ◌∙◌}
use Rattle.std.specs.Prelude.{unwrap_or}
use Rattle.tb_model.specs.Program.{Program, Body}
use Rattle.tb_read.specs.Bodies as read
use Rattle.tb_view.specs.Step as view

name_at_by : (b : Bool) (name more : List ℕ) (rest : Option (List ℕ)) → more ≡ unwrap_or rest [] → cond b name more ≡ unwrap_or (cond b (Some name) rest) []
name_at_by true name more rest e = refl
name_at_by false name more rest e = e

name_at_is : (bodies : List Body) (line : ℕ) → view.name_at bodies line ≡ unwrap_or (read.name_at line bodies) []
name_at_is [] line = refl
name_at_is (b ∷ bodies) line = name_at_by (b.line == line) b.name (view.name_at bodies line) (read.name_at line bodies) (name_at_is bodies line)

-- the name at a line is what was found there
pub found_is : (P : Program) (line : ℕ) (found : Option (List ℕ)) → found ≡ read.name_at line P.bodies → view.name_at P.bodies line ≡ unwrap_or found []
found_is P line found f = name_at_is P.bodies line ∙ ap (λ o. unwrap_or o []) (sym f)
