-- The first fault of a text. Its lines are at their numbers, with an empty one at index 0.
use Rattle.std.specs.Prelude.{◌≡◌, ℕ, zero, suc, ◌<◌, ◌≤◌, ◌||◌, List, if◌then◌else◌, nat_lt, not, length, slice_get, Option, Some, None}
use Rattle.tb_read.specs.Text.{before_comment, line_words, is_text}
use Rattle.tb_read.specs.Headings.{headings_from, heading_of}
use Rattle.tb_read.specs.Context.{Context, Setting, start, after, fault_of, last_fault}
use Rattle.tb_read.specs.declared.fault.FaultKind.{FaultKind}
use Rattle.tb_read.specs.declared.fault.FaultKind.TheVariants.{NotText, TooLarge}

abbrev pub setting_at : List (List ℕ) → ℕ → Setting
setting_at lines n = record { line = n; heading = heading_of (headings_from 0 lines) }

abbrev pub behind : ℕ → Option (List ℕ) → Context → Context
behind n None context = context
behind n (Some line) context = after n context (line_words line)

-- what the lines in front of line n say, each taken as accepted
abbrev pub context_at : List (List ℕ) → ℕ → Context
context_at lines zero = start
context_at lines (suc n) = behind n (slice_get lines n) (context_at lines n)

-- a line that is too long or too far down, or isn't text, has that fault alone; after the last line
-- come the last tests
abbrev pub line_fault : Setting → Context → Option (List ℕ) → Option FaultKind
line_fault here context None = last_fault here context
line_fault here context (Some line) =
    if nat_lt 1024 (length line) || nat_lt 65536 here.line then Some TooLarge
    else (if not (is_text (before_comment line)) then Some NotText
    else fault_of here context (line_words line))

-- the fault of line n, or of the whole text where n is the number after the last line
abbrev pub fault_at : List (List ℕ) → ℕ → Option FaultKind
fault_at lines n = line_fault (setting_at lines n) (context_at lines n) (slice_get lines n)

-- no line is faulty, and the last tests pass
abbrev pub IsAccepted : List (List ℕ) → Type 0
IsAccepted lines = (n : ℕ) → n ≤ length lines → fault_at lines n ≡ None

-- line n is the first faulty one, and this is its fault
pub record IsFirstFault (lines : List (List ℕ)) (n : ℕ) (fault : FaultKind) : Type 0 where
  pub within : n ≤ length lines
  pub here : fault_at lines n ≡ Some fault
  pub none_before : (m : ℕ) → m < n → fault_at lines m ≡ None
