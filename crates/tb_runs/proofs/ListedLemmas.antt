-- What was read of a list, and what is left to read of it.
use Rattle.std.proofs.Common.{◌≡◌, ℕ, zero, suc, ◌<◌, ◌-◌, Bool, true, false, List, [], ◌∷◌, ◌++◌, Ok, Err, refl, ap, sym, ◌∙◌, append_assoc, append-nil, arith}
use Rattle.tb_read.specs.Word.{Word}
use Rattle.tb_runs.specs.Reading.{Reading, and_then, listed}
use Rattle.tb_runs.specs.declared.fault.Fault.{Fault}
use Rattle.tb_runs.specs.declared.fault.Fault.TheVariants.{TooLarge}

-- these in front of those that are read
abbrev pub behind : {A : Type 0} → List A → Reading (List A) → Reading (List A)
behind xs (Err fault) = Err fault
behind xs (Ok (ys, words)) = Ok (xs ++ ys, words)

pub behind_none : {A : Type 0} (r : Reading (List A)) → behind [] r ≡ r
behind_none (Err fault) = refl
behind_none (Ok (ys, words)) = refl

behind_one : {A : Type 0} (xs : List A) (x : A) (r : Reading (List A)) → behind xs (and_then r (λ ys words. Ok (x ∷ ys, words))) ≡ behind (xs ++ x ∷ []) r
behind_one xs x (Err fault) = refl
behind_one xs x (Ok (ys, words)) = ap (λ zs. Ok (zs, words)) (sym (append_assoc xs (x ∷ []) ys))

-- one more was read
pub one_more : {A : Type 0} (stops : List Word → Bool) (one : List Word → Reading A) (xs : List A) (x : A) (room less : ℕ) (words rest : List Word) (all : Reading (List A)) →
    stops words ≡ false → one words ≡ Ok (x, rest) → 0 < room → less ≡ room - 1 →
    behind xs (listed stops one room words) ≡ all → behind (xs ++ x ∷ []) (listed stops one less rest) ≡ all
unfolding listed
one_more stops one xs x zero less words rest all go reads some is h = absurd (omega (arith, some))
one_more stops one xs x (suc room) less words rest all go reads some is h =
    let same : less ≡ room = omega (arith, is) in
    let step : listed stops one (suc room) words ≡ and_then (listed stops one room rest) (λ ys words. Ok (x ∷ ys, words)) = rw (go, reads) refl in
    rw same (sym (behind_one xs x (listed stops one room rest)) ∙ ap (behind xs) (sym step) ∙ h)

-- the next is faulty
pub one_faulty : {A : Type 0} (stops : List Word → Bool) (one : List Word → Reading A) (xs : List A) (fault : Fault) (room : ℕ) (words : List Word) (all : Reading (List A)) →
    stops words ≡ false → one words ≡ Err fault → behind xs (listed stops one room words) ≡ all → all ≡ Err fault
unfolding listed
one_faulty stops one xs fault zero words all go reads h =
    let step : listed stops one zero words ≡ Err fault = rw (go, reads) refl in sym h ∙ ap (behind xs) step
one_faulty stops one xs fault (suc room) words all go reads h =
    let step : listed stops one (suc room) words ≡ Err fault = rw (go, reads) refl in sym h ∙ ap (behind xs) step

-- there is one too many
pub too_many : {A : Type 0} (stops : List Word → Bool) (one : List Word → Reading A) (xs : List A) (x : A) (room : ℕ) (words rest : List Word) (all : Reading (List A)) →
    stops words ≡ false → one words ≡ Ok (x, rest) → room ≡ 0 → behind xs (listed stops one room words) ≡ all → all ≡ Err TooLarge
unfolding listed
too_many stops one xs x zero words rest all go reads none h =
    let step : listed stops one zero words ≡ Err TooLarge = rw (go, reads) refl in sym h ∙ ap (behind xs) step
too_many stops one xs x (suc room) words rest all go reads none h = absurd (omega (arith, none))

-- no more comes
pub all_read : {A : Type 0} (stops : List Word → Bool) (one : List Word → Reading A) (xs : List A) (room : ℕ) (words : List Word) (all : Reading (List A)) →
    stops words ≡ true → behind xs (listed stops one room words) ≡ all → all ≡ Ok (xs, words)
unfolding listed
all_read stops one xs zero words all stop h =
    let step : listed stops one zero words ≡ Ok ([], words) = rw stop refl in sym h ∙ ap (behind xs) step ∙ ap (λ zs. Ok (zs, words)) (append-nil xs)
all_read stops one xs (suc room) words all stop h =
    let step : listed stops one (suc room) words ≡ Ok ([], words) = rw stop refl in sym h ∙ ap (behind xs) step ∙ ap (λ zs. Ok (zs, words)) (append-nil xs)
