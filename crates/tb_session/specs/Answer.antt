-- The answer to what was read.
use Rattle.std.specs.Prelude.{◌≡◌, ◌≤◌, ◌⊎◌, ℕ, List, [], ◌∷◌, ◌++◌, length, take, if◌then◌else◌, Option, None, Some, Result, Ok, Err, false, ⊤}
use Rattle.std.specs.List.{AllByRecursion}
use Rattle.std.specs.Io.KnownBytes.{Consumes, IsAtEnd, Appends}
use Rattle.tb_model.specs.Program.{Program}
use Rattle.tb_read.specs.declared.fault.ReadFault.{ReadFault}
use Rattle.tb_read.specs.Text.{lines_of}
use Rattle.tb_lines.specs.Lines.{spelled, AreUnbroken, IsUnbroken, most_ahead}
use Rattle.tb_session.specs.Divider.{is_divider}
use Rattle.tb_replies.specs.Reading.{IsProgram, IsRefused}
use Rattle.tb_live.specs.Session.{Session, opened}
use Rattle.tb_commands.specs.Commands.{AsksSeveral}
use Rattle.tb_replies.specs.Replies.{Answers}
use Rattle.tb_replies.specs.Told.{AsksSteps}
use Rattle.tb_session.specs.declared.halt.Halt.{Halt}
use Rattle.tb_session.specs.declared.halt.Halt.TheVariants.{Refused, Read, Write, Memory, Journal}

-- one step after another, whatever a step is: each line has its part of the output
abbrev pub RunOf : {S : Type 0} → (S → List ℕ → List ℕ → S → Type 0) → S → List (List ℕ) → List ℕ → S → Type 0
RunOf {S} step old [] out new = (out ≡ []) × (new ≡ old)
RunOf {S} step old (line ∷ lines) out new = (reply : List ℕ) × (mid : S) × (more : List ℕ) × step old line reply mid × RunOf step mid lines more new × (out ≡ reply ++ more)

-- these may be the replies to these lines, one after another, where `go` may name so many workers
abbrev pub Replies : ℕ → Session → List (List ℕ) → List ℕ → Type 0
Replies workers s lines out = (new : Session) × RunOf (Answers workers) s lines out new

-- ---- the first line whose only word is `---`

abbrev pub program_lines : List (List ℕ) → List (List ℕ)
program_lines [] = []
program_lines (line ∷ lines) = if is_divider line then [] else line ∷ program_lines lines

abbrev pub command_lines : List (List ℕ) → List (List ℕ)
command_lines [] = []
command_lines (line ∷ lines) = if is_divider line then lines else command_lines lines

-- none of the lines is one
abbrev pub AreUndivided : List (List ℕ) → Type 0
AreUndivided lines = AllByRecursion (λ line. is_divider line ≡ false) lines

abbrev pub program_text : List (List ℕ) → List ℕ
program_text lines = spelled (program_lines lines)

-- ---- answers

-- the program is accepted, and these may be the replies to the commands after it
abbrev pub AnswerTo : (workers limit : ℕ) → List (List ℕ) → List ℕ → Type 0
AnswerTo workers limit lines out = (P : Program) × IsProgram (program_text lines) P × Replies workers (opened P limit 65) (command_lines lines) out

abbrev pub IsAnswer : (workers limit : ℕ) → List ℕ → List ℕ → Type 0
IsAnswer workers limit bytes out = AnswerTo workers limit (lines_of bytes) out

-- what is written once whole lines were worked on: nothing while they are all of the program
abbrev pub Replied : (workers limit : ℕ) → List (List ℕ) → List ℕ → Type 0
Replied workers limit lines out = (AreUndivided lines × (out ≡ [])) ⊎ AnswerTo workers limit lines out

-- ---- a session that stops at a line

-- whole lines were read, a line after them that is not answered, with its line feed or in part, and of what comes after it no
-- more than so many bytes
pub record Stopped (most : ℕ) (left rest : Option (List ℕ)) : Type 0 where
  pub lines : List (List ℕ)
  pub line : List ℕ
  pub feed : List ℕ
  pub ahead : List ℕ
  pub read : Consumes left rest (spelled lines ++ (line ++ (feed ++ ahead)))
  pub unbroken : AreUnbroken lines
  pub next : IsUnbroken line
  pub ended : (feed ≡ []) ⊎ (feed ≡ 10 ∷ [])
  pub few : length ahead ≤ most

-- the replies to the whole lines were written, and nothing of the line after them
pub record Halts (most : ℕ) (AreReplies : List (List ℕ) → List ℕ → Type 0) (left rest before after : Option (List ℕ)) : Type 0 where
  pub stopped : Stopped most left rest
  pub out : List ℕ
  pub replies : AreReplies stopped.lines out
  pub wrote : Appends before after out

-- the replies to the whole lines were written, and nothing of the line after them, which asks for a `go` of two or more workers
pub record Loses (workers most : ℕ) (AreReplies : List (List ℕ) → List ℕ → Type 0) (left rest before after : Option (List ℕ)) : Type 0 where
  pub halts : Halts most AreReplies left rest before after
  pub asks : AsksSeveral workers halts.stopped.line

-- these may be the replies to these lines, and this one to the line after them
abbrev pub RepliesWith : ℕ → Session → List (List ℕ) → List ℕ → List ℕ → List ℕ → Type 0
RepliesWith workers s lines out line reply = (mid : Session) × (new : Session) × RunOf (Answers workers) s lines out mid × Answers workers mid line reply new

-- the program is accepted, its divider is among the lines, and these may be the replies to the commands after it
abbrev pub Commanded : (workers limit : ℕ) → List (List ℕ) → List ℕ → Type 0
Commanded workers limit lines out = (AreUndivided lines → ⊥) × AnswerTo workers limit lines out

-- the program is accepted, its divider is among the lines, these may be the replies to the commands after it, and this one to
-- the line after them all
abbrev pub AnswersWith : (workers limit : ℕ) → List (List ℕ) → List ℕ → List ℕ → List ℕ → Type 0
AnswersWith workers limit lines out line reply =
    (AreUndivided lines → ⊥) × ((P : Program) × IsProgram (program_text lines) P × RepliesWith workers (opened P limit 65) (command_lines lines) out line reply)

-- the replies to whole lines were written, and a beginning of a reply to the next one, which asks
-- for steps that are written in pieces
pub record BrokeOff (workers most : ℕ) (AreReplies : List (List ℕ) → List ℕ → List ℕ → List ℕ → Type 0) (left rest before after : Option (List ℕ)) : Type 0 where
  pub stopped : Stopped most left rest
  pub out : List ℕ
  pub reply : List ℕ
  pub n : ℕ
  pub asks : AsksSteps workers stopped.line
  pub replies : AreReplies stopped.lines out stopped.line reply
  pub wrote : Appends before after (out ++ take n reply)

-- the program of all that was to come is refused, where that is known
abbrev pub Refuses : ReadFault → Option (List ℕ) → Type 0
Refuses fault None = ⊤
Refuses fault (Some bytes) = IsRefused (program_text (lines_of bytes)) fault

-- what a session read and wrote, by how it ended
abbrev pub Ran : (workers limit : ℕ) → Option (List ℕ) → Option (List ℕ) → Option (List ℕ) → Option (List ℕ) → Result (Unit {0}) Halt → Type 0
-- the answer to what was read, and nothing else
Ran workers limit left rest before after (Ok u) = (bytes : List ℕ) × (out : List ℕ) × Consumes left rest bytes × IsAtEnd rest × IsAnswer workers limit bytes out × Appends before after out
-- nothing, since the program of all that was to come is refused
Ran workers limit left rest before after (Err (Refused fault)) = Refuses fault left × Appends before after []
-- the replies to the whole lines; what else was read is a part of one line
Ran workers limit left rest before after (Err Read) =
    (lines : List (List ℕ)) × (part : List ℕ) × (out : List ℕ) × Consumes left rest (spelled lines ++ part)
    × AreUnbroken lines × IsUnbroken part × Replied workers limit lines out × Appends before after out
-- a beginning of the answer to a front of what was read
Ran workers limit left rest before after (Err Write) =
    (bytes : List ℕ) × (more : List ℕ) × (out : List ℕ) × (n : ℕ) × Consumes left rest (bytes ++ more)
    × IsAnswer workers limit bytes out × Appends before after (take n out)
-- the replies to all whole lines in front of the one that wants memory, or these and a beginning of its own
Ran workers limit left rest before after (Err Memory) =
    Halts most_ahead (Replied workers limit) left rest before after ⊎ BrokeOff workers most_ahead (AnswersWith workers limit) left rest before after
-- the replies to all commands in front of one that asks for a go of two or more workers
Ran workers limit left rest before after (Err Journal) = Loses workers most_ahead (Commanded workers limit) left rest before after
