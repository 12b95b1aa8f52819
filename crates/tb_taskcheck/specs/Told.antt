-- What is made, read and written of a text.
use Rattle.std.specs.Prelude.{◌≡◌, ℕ, Bool, true, false, if◌then◌else◌, List, [], ◌∷◌, ◌++◌, take, Option, Result, Ok, Err, ⊤}
use Rattle.std.specs.Io.KnownBytes.{Consumes, IsAtEnd, Appends}
use Rattle.tb_lines.specs.Lines.{spelled, AreUnbroken, IsUnbroken}
use Rattle.tb_lines.specs.declared.line_reader.LineFault.{LineFault}
use Rattle.tb_lines.specs.declared.line_reader.LineFault.TheVariants as unread
use Rattle.tb_lines.specs.declared.line_stop.LineStop.{LineStop}
use Rattle.tb_lines.specs.declared.line_stop.LineStop.TheVariants as stop
use Rattle.tb_read.specs.Text.{lines_of}
use Rattle.tb_runs.specs.declared.fault.Fault.{Fault}
use Rattle.tb_taskcheck.specs.Races.{FoundIn}
use Rattle.tb_taskcheck.specs.Report.{IsReport}
use Rattle.tb_taskcheck.specs.declared.found.Found.{Found}
use Rattle.tb_taskcheck.specs.declared.halt.Halt.{Halt}
use Rattle.tb_taskcheck.specs.declared.halt.Halt.TheVariants.{Faulty, Read, Write, Memory}
use Rattle.tb_taskcheck.specs.declared.outcome.Outcome.{Outcome}
use Rattle.tb_taskcheck.specs.declared.outcome.Outcome.TheVariants as outcome
use Rattle.tb_verdict.specs.Texts.{text_judged}
use Rattle.tb_verdict.specs.Whole.{IsVerdict}
use Rattle.tb_verdict.specs.declared.ending.Ending.TheVariants as ending
use Rattle.tb_verdict.specs.declared.verdict.Verdict.{Verdict}
use Rattle.tb_verdict.specs.declared.verdict.Verdict.TheVariants as verdict

-- a fault is that of the text
abbrev pub IsFault : List (List ℕ) → ℕ → Fault → Type 0
IsFault lines n fault = text_judged lines ≡ Err (n, ending.Faulty fault)

-- the report of the lines with what it says, or their fault
abbrev pub Reported : List (List ℕ) → Result (List ℕ × Outcome) Halt → Type 0
Reported lines (Ok told) = IsReport lines told.1 told.0
Reported lines (Err (Faulty n fault)) = IsFault lines n fault
Reported lines (Err Memory) = ⊤
Reported lines (Err _) = ⊥

-- ---- what was read

-- an empty piece after the last line feed is no line
abbrev pub is_line : LineStop → List ℕ → Bool
is_line stop.Input [] = false
is_line stop.Input (b ∷ line) = true
is_line stop.Feed line = true
is_line stop.Long line = true

abbrev pub line_at : LineStop → List ℕ → List (List ℕ)
line_at stop line = if is_line stop line then line ∷ [] else []

-- no line is read after it
abbrev pub is_last : Bool → LineStop → Bool
is_last ended stop.Feed = ended
is_last ended stop.Input = true
is_last ended stop.Long = true

-- of a legal text all was read; the judgement of another ends at a line
abbrev pub IsWhole : Verdict → Option (List ℕ) → Type 0
IsWhole (verdict.Legal events judge) rest = IsAtEnd rest
IsWhole (verdict.Refused n refusal) rest = ⊤
IsWhole (verdict.Faulty n fault) rest = ⊤

-- whole lines were read, at none of which the judgement ends, and a part of one more
pub record IsCut (left rest : Option (List ℕ)) : Type 0 where
  pub lines : List (List ℕ)
  pub part : List ℕ
  pub read : Consumes left rest (spelled lines ++ part)
  pub unbroken : AreUnbroken lines
  pub unfed : IsUnbroken part

-- some bytes were read
abbrev pub Reads : Option (List ℕ) → Option (List ℕ) → Type 0
Reads left rest = (bytes : List ℕ) × Consumes left rest bytes

-- the text was read as far as its judgement goes, and this is its verdict, with its races
abbrev pub Taken : Option (List ℕ) → Option (List ℕ) → Result (Verdict × Found) LineFault → Type 0
Taken left rest (Ok t) = (bytes : List ℕ) × Consumes left rest bytes × IsVerdict t.0 (lines_of bytes) × FoundIn (lines_of bytes) t.1 × IsWhole t.0 rest
Taken left rest (Err unread.Read) = IsCut left rest
Taken left rest (Err unread.Memory) = Reads left rest

-- ---- what was written

abbrev pub IsWholeFor : Outcome → Option (List ℕ) → Type 0
IsWholeFor outcome.Refused rest = ⊤
IsWholeFor outcome.Over rest = IsAtEnd rest
IsWholeFor outcome.Unended rest = IsAtEnd rest
IsWholeFor outcome.Racing rest = IsAtEnd rest

-- what was read and written, by how it ended
abbrev pub Judged : (left rest before after : Option (List ℕ)) → Result Outcome Halt → Type 0
-- the report of what was read, and nothing else; of a legal text all was read
Judged left rest before after (Ok o) =
    (bytes : List ℕ) × (out : List ℕ) × Consumes left rest bytes × IsReport (lines_of bytes) o out × IsWholeFor o rest × Appends before after out
-- nothing, since what was read has a fault
Judged left rest before after (Err (Faulty n fault)) = (bytes : List ℕ) × Consumes left rest bytes × IsFault (lines_of bytes) n fault × Appends before after []
-- nothing, since a read failed in front of the end of the text and of its judgement
Judged left rest before after (Err Read) = IsCut left rest × Appends before after []
-- a beginning of the report of what was read
Judged left rest before after (Err Write) =
    (bytes : List ℕ) × (o : Outcome) × (out : List ℕ) × (n : ℕ) × Consumes left rest bytes × IsReport (lines_of bytes) o out × Appends before after (take n out)
-- nothing
Judged left rest before after (Err Memory) = Reads left rest × Appends before after []
