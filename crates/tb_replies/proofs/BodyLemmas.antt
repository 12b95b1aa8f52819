-- The search for a body's line.
use Rattle.std.proofs.Common.{◌≡◌, ◌<◌, ◌-◌, ◌+◌, ℕ, suc, List, false, refl, sym, ◌∙◌, arith, Option}
use Rattle.tb_model.specs.Program.{Body}
use Rattle.tb_read.specs.Bodies.{name_at}
use Rattle.tb_replies.specs.Bodies.{is_named, line_from}

-- a line that doesn't begin the body is passed over
pub passed_over : (count line : ℕ) (name : List ℕ) (bodies : List Body) (found : Option ℕ)
    → line < count → is_named name (name_at line bodies) ≡ false → line_from (count - line) line name bodies ≡ found → line_from (count - (line + 1)) (line + 1) name bodies ≡ found
passed_over count line name bodies found within other e =
    let left : count - line ≡ suc (count - (line + 1)) = omega (arith, within) in
    let next : suc line ≡ line + 1 = omega arith in
    let here : line_from (count - line) line name bodies ≡ line_from (count - (line + 1)) (line + 1) name bodies = rw (left, other, next) refl in
    sym here ∙ e
