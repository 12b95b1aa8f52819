-- Writing a cell twice.
use Rattle.std.proofs.Common.{◌≡◌, ◌<◌, ℕ, zero, suc, List, [], ◌∷◌, length, ℤ, refl, ap, arith}
use Rattle.std.specs.Prelude.{slice_set}
use Rattle.tb_store.specs.Contents.{number_at}

pub set_back : (cells : List ℤ) (c : ℕ) (x : ℤ) → c < length cells → slice_set (slice_set cells c x) c (number_at cells c) ≡ cells
set_back [] c x h = absurd (omega arith)
set_back (y ∷ cells) zero x h = refl
set_back (y ∷ cells) (suc c) x h = ap (λ ys. y ∷ ys) (set_back cells c x (omega arith))
