-- Where control goes from each line of a text.
use Rattle.std.specs.Prelude.{◌≡◌, ℕ, suc, ◌≤◌, List, [], ◌∷◌, drop, length, slice_get, Some}
use Rattle.tb_model.specs.declared.statement.Statement.{Statement}
use Rattle.tb_model.specs.declared.statement.Statement.TheVariants.{Start, Taskgroup, EndTaskgroup, Test, End}
use Rattle.tb_read.specs.declared.level.Level.{Level}

-- what a line is to the flow of control: it is passed over; a task can be there, before it executes
-- this statement; an `else`; the `end` of an `if`; the `end` of the `while` of that line
pub data Line : Type 0 where
  Passed : Line
  Stands : Statement → Line
  Else : Line
  EndIf : Line
  EndWhile : ℕ → Line

-- ---- blocks, read from below: where each ends, and where a test of it that says no goes on, after its `else` or its `end`

abbrev pub closed : ℕ → Level
closed n = record { end = n; turn = n }

-- an `else` is where its `if` turns
abbrev pub turned : ℕ → List Level → List Level
turned n [] = []
turned n (level ∷ levels) = record { end = level.end; turn = n } ∷ levels

-- what is open in front of line n, from what is open after it
abbrev pub levels_by : ℕ → Statement → List Level → List Level
levels_by n Start levels = drop 1 levels
levels_by n Taskgroup levels = drop 1 levels
levels_by n (Test condition) levels = drop 1 levels
levels_by n EndTaskgroup levels = closed n ∷ levels
levels_by n End levels = closed n ∷ levels
levels_by n _ levels = levels

abbrev pub levels_over : ℕ → Line → List Level → List Level
levels_over n Passed levels = levels
levels_over n (Stands s) levels = levels_by n s levels
levels_over n Else levels = turned n levels
levels_over n EndIf levels = closed n ∷ levels
levels_over n (EndWhile from) levels = closed n ∷ levels

-- the blocks that are open in front of line n, the innermost first, as the lines from n on say
abbrev pub levels : ℕ → List Line → List Level
levels n [] = []
levels n (line ∷ lines) = levels_over n line (levels (suc n) lines)

-- the blocks that are open after line n of a text, the innermost first
abbrev pub levels_behind : List Line → ℕ → List Level
levels_behind lines n = levels (suc n) (drop (suc n) lines)

-- in an accepted text no line of a block is without one
abbrev pub end_of : ℕ → List Level → ℕ
end_of n [] = n
end_of n (level ∷ levels) = level.end

abbrev pub turn_of : ℕ → List Level → ℕ
turn_of n [] = n
turn_of n (level ∷ levels) = level.turn

-- ---- where control goes

-- control that comes to a line from above is at a line
pub data Arrives (lines : List Line) : ℕ → ℕ → Type 0 where
  stands : {n : ℕ} {s : Statement} → slice_get lines n ≡ Some (Stands s) → Arrives lines n n
  passed : {n to : ℕ} → slice_get lines n ≡ Some Passed → Arrives lines (suc n) to → Arrives lines n to
  ended : {n to : ℕ} → slice_get lines n ≡ Some EndIf → Arrives lines (suc n) to → Arrives lines n to
  -- after the end of its `if`
  turned_over : {n to : ℕ} → slice_get lines n ≡ Some Else → Arrives lines (suc (end_of n (levels_behind lines n))) to → Arrives lines n to
  -- to its `while`
  back : {n from : ℕ} → slice_get lines n ≡ Some (EndWhile from) → Arrives lines n from
  outside : {n : ℕ} → length lines ≤ n → Arrives lines n (length lines)

-- the lines that follow a statement; none follows the end of a body, for which the line after it is
-- put down
abbrev pub LeadsTo : List Line → ℕ → ℕ → ℕ → Statement → Type 0
LeadsTo lines n next otherwise End = (next ≡ suc n) × (otherwise ≡ suc n)
LeadsTo lines n next otherwise (Test condition) = Arrives lines (suc n) next × Arrives lines (suc (turn_of n (levels_behind lines n))) otherwise
LeadsTo lines n next otherwise _ = Arrives lines (suc n) next × (otherwise ≡ next)
