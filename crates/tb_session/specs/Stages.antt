-- What the stages of a session come to, by what was to come before and what is to come after.
use Rattle.std.specs.Prelude.{◌≡◌, ◌⊎◌, ℕ, List, [], ◌∷◌, ◌++◌, take, Option, Result, Ok, Err, Bool, true, false, ⊤}
use Rattle.std.specs.Io.KnownBytes.{Consumes, IsAtEnd, Appends}
use Rattle.tb_model.specs.Program.{Program}
use Rattle.tb_read.specs.Text.{lines_of}
use Rattle.tb_lines.specs.Lines.{last_line, spelled, AreUnbroken, IsUnbroken}
use Rattle.tb_session.specs.Divider.{is_divider}
use Rattle.tb_replies.specs.Reading.{IsProgram, IsRefused}
use Rattle.tb_live.specs.Session.{Session, Held, opened}
use Rattle.tb_commands.specs.Commands.{AsksSeveral}
use Rattle.tb_replies.specs.Replies.{Answers}
use Rattle.tb_replies.specs.Told.{AsksSteps, Begins}
use Rattle.tb_session.specs.Answer.{Stopped, Halts, Loses, BrokeOff, Replies, RepliesWith, AreUndivided, program_text, command_lines, Refuses}
use Rattle.tb_session.specs.declared.halt.Halt.{Halt}
use Rattle.tb_session.specs.declared.halt.Halt.TheVariants.{Refused, Read, Write, Memory, Journal}
use Rattle.tb_lines.specs.declared.line_reader.LineEnd.{LineEnd}
use Rattle.tb_lines.specs.declared.line_reader.LineEnd.TheVariants.{Feed, Input}
use Rattle.tb_lines.specs.declared.line_reader.LineFault.{LineFault}
use Rattle.tb_lines.specs.declared.line_reader.LineFault.TheVariants.{Read as NotRead, Memory as NoMemory}

-- whole lines of the program were taken, and a part of one more
abbrev pub Cut : Option (List ℕ) → Option (List ℕ) → Type 0
Cut old new = (lines : List (List ℕ)) × (part : List ℕ) × Consumes old new (spelled lines ++ part) × AreUnbroken lines × IsUnbroken part × AreUndivided lines

-- the program was read up to a line of its own or its divider, at which the session stopped
abbrev pub Halted : Option (List ℕ) → Option (List ℕ) → Type 0
Halted old new = (stopped : Stopped 0 old new) × AreUndivided stopped.lines

-- the lines of the program, and the divider after them
pub record Divided (old new : Option (List ℕ)) (text : List ℕ) : Type 0 where
  pub program : List (List ℕ)
  pub divider : List ℕ
  pub bytes : Consumes old new (spelled (program ++ divider ∷ []))
  pub unbroken : AreUnbroken (program ++ divider ∷ [])
  pub undivided : AreUndivided program
  pub divides : is_divider divider ≡ true
  pub is_text : text ≡ spelled program

-- all that came is the program, and perhaps its divider, by whole lines and a last piece
pub record Whole (old new : Option (List ℕ)) (text : List ℕ) : Type 0 where
  pub lines : List (List ℕ)
  pub last : List ℕ
  pub bytes : Consumes old new (spelled lines ++ last)
  pub unbroken : AreUnbroken lines
  pub unfed : IsUnbroken last
  pub undivided : AreUndivided lines
  pub end : IsAtEnd new
  pub no_commands : command_lines (lines_of (spelled lines ++ last)) ≡ []
  pub is_text : text ≡ program_text (lines_of (spelled lines ++ last))

-- the program text was taken, and is this
abbrev pub Gathered : Option (List ℕ) → Option (List ℕ) → List ℕ → Result LineEnd LineFault → Type 0
Gathered old new text (Ok Feed) = Divided old new text
Gathered old new text (Ok Input) = Whole old new text
Gathered old new text (Err NotRead) = Cut old new
Gathered old new text (Err NoMemory) = Halted old new

-- commands were taken, and their replies written
abbrev pub Served : ℕ → Session → Option (List ℕ) → Option (List ℕ) → Option (List ℕ) → Option (List ℕ) → Result (Unit {0}) Halt → Type 0
Served workers s old new before after (Ok u) = (bytes : List ℕ) × (out : List ℕ) × Consumes old new bytes × IsAtEnd new × Replies workers s (lines_of bytes) out × Appends before after out
Served workers s old new before after (Err Read) =
    (lines : List (List ℕ)) × (part : List ℕ) × (out : List ℕ) × Consumes old new (spelled lines ++ part)
    × AreUnbroken lines × IsUnbroken part × Replies workers s lines out × Appends before after out
Served workers s old new before after (Err Write) = (bytes : List ℕ) × (out : List ℕ) × (n : ℕ) × Consumes old new bytes × Replies workers s (lines_of bytes) out × Appends before after (take n out)
Served workers s old new before after (Err Memory) = Halts 0 (Replies workers s) old new before after ⊎ BrokeOff workers 0 (RepliesWith workers s) old new before after
Served workers s old new before after (Err Journal) = Loses workers 0 (Replies workers s) old new before after
Served workers s old new before after (Err _) = ⊥

-- one line was answered, or a part of its reply was written
abbrev pub Answered : ℕ → Session → List ℕ → Option (List ℕ) → Option (List ℕ) → Result Held Halt → Type 0
Answered workers old line before after (Ok new) = (reply : List ℕ) × Answers workers old line reply new.session × Appends before after reply
Answered workers old line before after (Err Write) = (reply : List ℕ) × (new : Session) × (n : ℕ) × Answers workers old line reply new × Appends before after (take n reply)
-- of a reply a part only where the line asks for steps that are written in pieces
Answered workers old line before after (Err Memory) = Appends before after [] ⊎ (AsksSteps workers line × Begins (Answers workers old line) before after)
-- only where the line asks for a go of two or more workers
Answered workers old line before after (Err Journal) = AsksSeveral workers line × Appends before after []
Answered workers old line before after (Err _) = ⊥

-- a session of the text's program, in front of its first command
abbrev pub Opens : ℕ → List ℕ → Result Held Halt → Type 0
Opens limit text (Ok held) = (P : Program) × IsProgram text P × (held.session ≡ opened P limit 65)
Opens limit text (Err (Refused fault)) = IsRefused text fault
Opens limit text (Err Memory) = ⊤
Opens limit text (Err _) = ⊥

-- a whole line is always one, a last piece unless it is empty
abbrev pub line_at : LineEnd → List ℕ → List (List ℕ)
line_at Feed line = line ∷ []
line_at Input line = last_line line

-- the line is the divider, or went to the text
abbrev pub Kept : List ℕ → LineEnd → List ℕ → List ℕ → Bool → Type 0
Kept line end text new true = (is_divider line ≡ true) × (new ≡ text)
Kept line end text new false = (is_divider line ≡ false) × (new ≡ text ++ spelled (line_at end line))

-- the program's lines and the divider were taken, and this is the session of that program
pub record Divides (limit : ℕ) (old new : Option (List ℕ)) (s : Session) : Type 0 where
  pub text : List ℕ
  pub divided : Divided old new text
  pub program : Program
  pub says : IsProgram text program
  pub opens : s ≡ opened program limit 65

-- all that came is a program that is accepted
pub record Ends (old new : Option (List ℕ)) : Type 0 where
  pub text : List ℕ
  pub whole : Whole old new text
  pub program : Program
  pub says : IsProgram text program

-- the program was taken, and opens this session
abbrev pub Opened : ℕ → Option (List ℕ) → Option (List ℕ) → Session → LineEnd → Type 0
Opened limit old new s Feed = Divides limit old new s
Opened limit old new s Input = Ends old new

abbrev pub Begun : ℕ → Option (List ℕ) → Option (List ℕ) → Result (Held × LineEnd) Halt → Type 0
Begun limit old new (Ok begun) = Opened limit old new begun.0.session begun.1
Begun limit old new (Err (Refused fault)) = Refuses fault old
Begun limit old new (Err Read) = Cut old new
Begun limit old new (Err Memory) = Halted old new
Begun limit old new (Err _) = ⊥
