-- Moves that were made, and those that are left.
use Rattle.std.proofs.Common.{◌≡◌, ◌<◌, ◌+◌, ◌≤◌, ℕ, zero, suc, List, [], ◌∷◌, ◌++◌, length, drop, get_or, refl, sym, ap, ◌∙◌, subst, arith, append_assoc, append-nil}
use Rattle.tb_live.specs.declared.moves.Move.{Move}
use Rattle.tb_live.specs.declared.answer.Answer.{Answer}
use Rattle.tb_live.specs.Session.{Session}
use Rattle.tb_live.specs.Runs.{Answers, Runs}

-- what answers the moves that are left completes the answers so far
abbrev pub SoFar : List Move → Session → ℕ → Session → List Answer → Type 0
SoFar moves start i s answers = (rest : List Answer) (new : Session) → Runs (drop i moves) s rest new → Runs moves start (answers ++ rest) new

next_left : (moves : List Move) (i : ℕ) (m : Move) → i < length moves → drop i moves ≡ get_or moves i m ∷ drop (suc i) moves
next_left [] i m h = absurd (omega (arith, h))
next_left (x ∷ moves) zero m h = refl
next_left (x ∷ moves) (suc i) m h = next_left moves i m (omega (arith, h))

none_left : (moves : List Move) (i : ℕ) → length moves ≤ i → drop i moves ≡ []
none_left [] zero h = refl
none_left [] (suc i) h = refl
none_left (x ∷ moves) zero h = absurd (omega (arith, h))
none_left (x ∷ moves) (suc i) h = none_left moves i (omega (arith, h))

pub so_begins : (moves : List Move) (start s : Session) (answers : List Answer) → s ≡ start → answers ≡ [] → SoFar moves start 0 s answers
so_begins moves start s answers same none rest new r =
    subst (λ more. Runs moves start (more ++ rest) new) (sym none) (subst (λ z. Runs moves z rest new) same r)

pub so_next : (moves : List Move) (start s mid : Session) (answers more : List Answer) (a : Answer) (i : ℕ) (m : Move) → i < length moves → SoFar moves start i s answers
    → Answers s (get_or moves i m) mid a → more ≡ answers ++ a ∷ [] → SoFar moves start (i + 1) mid more
so_next moves start s mid answers more a i m within so answered grows rest new r =
    let at : i + 1 ≡ suc i = omega arith in
    let left : Runs (drop i moves) s (a ∷ rest) new =
    subst (λ ms. Runs ms s (a ∷ rest) new) (sym (next_left moves i m within)) (mid, answered, subst (λ k. Runs (drop k moves) mid rest new) at r)
    in
    subst (λ all. Runs moves start all new) (sym (ap (λ xs. xs ++ rest) grows ∙ append_assoc answers (a ∷ []) rest)) (so (a ∷ rest) new left)

pub so_ends : (moves : List Move) (start s : Session) (answers : List Answer) (i : ℕ) → length moves ≤ i → SoFar moves start i s answers → Runs moves start answers s
so_ends moves start s answers i through so =
    subst (λ all. Runs moves start all s) (append-nil answers) (so [] s (subst (λ ms. Runs ms s [] s) (sym (none_left moves i through)) refl))
