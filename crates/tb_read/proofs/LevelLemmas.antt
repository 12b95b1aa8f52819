-- The blocks that are open in front of a line, as the lines after say.
use Rattle.std.proofs.Common.{◌≡◌, ℕ, zero, suc, ◌+◌, ◌<◌, ◌≤◌, length, drop, List, [], ◌∷◌, Some, slice_get, arith, ap, refl, subst}
use Rattle.std.proofs.lemmas.List.{length-drop}
use Rattle.tb_model.specs.declared.statement.Statement.{Statement}
use Rattle.tb_model.specs.declared.statement.Statement.TheVariants.{Start, Let, Compute, Load, Store, Print, Task, Taskwait, Taskgroup, EndTaskgroup, Test, End}
use Rattle.tb_read.specs.Flow.{Line, closed, turned, levels_by, levels_over, levels, levels_behind, end_of, turn_of}
use Rattle.tb_read.specs.Flow.Line.{Passed, Stands, Else, EndIf, EndWhile}
use Rattle.tb_read.specs.declared.level.Level.{Level}

-- one line up
pub levels_up : (lines : List Line) (n : ℕ) (line : Line) → slice_get lines n ≡ Some line → (at : ℕ) →
    levels at (drop n lines) ≡ levels_over at line (levels (suc at) (drop (suc n) lines))
levels_up [] n line e at = absurd cc
levels_up (first ∷ lines) zero line e at = let same : first ≡ line = cc in ap (λ l. levels_over at l (levels (suc at) lines)) same
levels_up (first ∷ lines) (suc n) line e at = levels_up lines n line e at

-- where nothing is left, nothing is open
pub levels_none : (lines : List Line) (n at : ℕ) → length lines ≤ n → levels at (drop n lines) ≡ []
levels_none [] zero at high = refl
levels_none [] (suc n) at high = refl
levels_none (line ∷ lines) zero at high = absurd (omega arith)
levels_none (line ∷ lines) (suc n) at high = levels_none lines n at (omega arith)

-- ---- they end and turn in the text

-- a line from `low` on, below `high`
pub record IsBetween (low high n : ℕ) : Type 0 where
  pub from : low ≤ n
  pub below : n < high

pub record LiesBetween (low high : ℕ) (level : Level) : Type 0 where
  pub ends : IsBetween low high level.end
  pub turns : IsBetween low high level.turn

abbrev pub LieBetween : ℕ → ℕ → List Level → Type 0
LieBetween low high levels = (k : ℕ) (level : Level) → slice_get levels k ≡ Some level → LiesBetween low high level

wider : (low high n : ℕ) → IsBetween (suc low) high n → IsBetween low high n
wider low high n b = record { from = omega (arith, b.from); below = b.below }

kept : (low high : ℕ) (ls : List Level) → LieBetween (suc low) high ls → LieBetween low high ls
kept low high ls lie k level e = let l = lie k level e in record { ends = wider low high level.end l.ends; turns = wider low high level.turn l.turns }

here : (n high : ℕ) → n < high → IsBetween n high n
here n high below = record { from = omega arith; below = below }

closed_between : (n high : ℕ) (ls : List Level) → n < high → LieBetween (suc n) high ls → LieBetween n high (closed n ∷ ls)
closed_between n high ls below lie zero level e =
    let same : closed n ≡ level = cc in
    subst (LiesBetween n high) same (record { ends = here n high below; turns = here n high below })
closed_between n high ls below lie (suc k) level e = kept n high ls lie k level e

dropped_between : (n high : ℕ) (ls : List Level) → LieBetween (suc n) high ls → LieBetween n high (drop 1 ls)
dropped_between n high [] lie k level e = absurd cc
dropped_between n high (l ∷ ls) lie k level e = kept n high (l ∷ ls) lie (suc k) level e

turned_between : (n high : ℕ) (ls : List Level) → n < high → LieBetween (suc n) high ls → LieBetween n high (turned n ls)
turned_between n high [] below lie k level e = absurd cc
turned_between n high (l ∷ ls) below lie zero level e =
    let turning : Level = record { end = l.end; turn = n } in
    let same : turning ≡ level = cc in
    subst (LiesBetween n high) same (record { ends = wider n high l.end (lie zero l refl).ends; turns = here n high below })
turned_between n high (l ∷ ls) below lie (suc k) level e = kept n high (l ∷ ls) lie (suc k) level e

by_between : (n high : ℕ) (s : Statement) (ls : List Level) → n < high → LieBetween (suc n) high ls → LieBetween n high (levels_by n s ls)
by_between n high Start ls below lie = dropped_between n high ls lie
by_between n high (Let r a) ls below lie = kept n high ls lie
by_between n high (Compute r a o b) ls below lie = kept n high ls lie
by_between n high (Load r a) ls below lie = kept n high ls lie
by_between n high (Store a b) ls below lie = kept n high ls lie
by_between n high (Print a) ls below lie = kept n high ls lie
by_between n high (Task body args items c) ls below lie = kept n high ls lie
by_between n high (Taskwait items) ls below lie = kept n high ls lie
by_between n high Taskgroup ls below lie = dropped_between n high ls lie
by_between n high EndTaskgroup ls below lie = closed_between n high ls below lie
by_between n high (Test c) ls below lie = dropped_between n high ls lie
by_between n high End ls below lie = closed_between n high ls below lie

over_between : (n high : ℕ) (line : Line) (ls : List Level) → n < high → LieBetween (suc n) high ls → LieBetween n high (levels_over n line ls)
over_between n high Passed ls below lie = kept n high ls lie
over_between n high (Stands s) ls below lie = by_between n high s ls below lie
over_between n high Else ls below lie = turned_between n high ls below lie
over_between n high EndIf ls below lie = closed_between n high ls below lie
over_between n high (EndWhile from) ls below lie = closed_between n high ls below lie

pub levels_between : (lines : List Line) (n high : ℕ) → n + length lines ≤ high → LieBetween n high (levels n lines)
levels_between [] n high fits = λ k level e. absurd cc
levels_between (line ∷ lines) n high fits = over_between n high line (levels (suc n) lines) (omega arith) (levels_between lines (suc n) high (omega arith))

-- after a line of the text
pub behind_between : (lines : List Line) (n : ℕ) → n < length lines → LieBetween (suc n) (length lines) (levels_behind lines n)
behind_between lines n within = levels_between (drop (suc n) lines) (suc n) (length lines) (omega (arith, length-drop (suc n) lines))

end_between : (n high : ℕ) (ls : List Level) → n < high → LieBetween (suc n) high ls → IsBetween n high (end_of n ls)
end_between n high [] below lie = here n high below
end_between n high (l ∷ ls) below lie = wider n high l.end (lie zero l refl).ends

turn_between : (n high : ℕ) (ls : List Level) → n < high → LieBetween (suc n) high ls → IsBetween n high (turn_of n ls)
turn_between n high [] below lie = here n high below
turn_between n high (l ∷ ls) below lie = wider n high l.turn (lie zero l refl).turns

pub end_within : (lines : List Line) (n : ℕ) → n < length lines → IsBetween n (length lines) (end_of n (levels_behind lines n))
end_within lines n within = end_between n (length lines) (levels_behind lines n) within (behind_between lines n within)

pub turn_within : (lines : List Line) (n : ℕ) → n < length lines → IsBetween n (length lines) (turn_of n (levels_behind lines n))
turn_within lines n within = turn_between n (length lines) (levels_behind lines n) within (behind_between lines n within)
