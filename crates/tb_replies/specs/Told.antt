-- What is written of a reply, where it is not written whole.
use Rattle.std.specs.Prelude.{◌≡◌, ◌⊎◌, ℕ, List, [], take, Option, ⊤}
use Rattle.std.specs.Io.KnownBytes.{Appends}
use Rattle.tb_live.specs.Session.{Session}
use Rattle.tb_commands.specs.Commands.{AsksSeveral, asked}
use Rattle.tb_commands.specs.declared.asked.Asked.{Asked}
use Rattle.tb_commands.specs.declared.asked.Asked.TheVariants.{Command as Asks, Go}
use Rattle.tb_commands.specs.declared.command.Command.{Command}
use Rattle.tb_commands.specs.declared.command.Command.TheVariants.{Run, Show}
use Rattle.tb_view.specs.declared.view.View.TheVariants.{Hist}
use Rattle.tb_team.specs.declared.lost.Lost.{Lost}
use Rattle.tb_team.specs.declared.lost.Lost.TheVariants.{Memory as NoMemory}
use Rattle.tb_replies.specs.Replies.{Answers}
use Rattle.tb_replies.specs.declared.unwritten.Unwritten.{Unwritten}
use Rattle.tb_replies.specs.declared.unwritten.Unwritten.TheVariants.{Memory as NoRoom, Write as NoWrite}
use Rattle.tb_replies.specs.declared.unanswered.Unanswered.{Unanswered}
use Rattle.tb_replies.specs.declared.unanswered.Unanswered.TheVariants.{Memory, Write, Journal}

-- a beginning of such a reply was written
abbrev pub Begins : (List ℕ → Session → Type 0) → Option (List ℕ) → Option (List ℕ) → Type 0
Begins IsReply before after = (reply : List ℕ) × (new : Session) × (n : ℕ) × IsReply reply new × Appends before after (take n reply)

-- ---- why not all of it is written

-- so many calls have failed by then
abbrev pub failed_at : Unwritten → ℕ
failed_at NoRoom = 0
failed_at NoWrite = 1

abbrev pub of_unwritten : Unwritten → Unanswered
of_unwritten NoRoom = Memory
of_unwritten NoWrite = Write

-- all but want of memory say that the workers and the journal don't fit together
abbrev pub of_lost : Lost → Unanswered
of_lost NoMemory = Memory
of_lost _ = Journal

abbrev pub failures_at : Unanswered → ℕ
failures_at Write = 1
failures_at _ = 0

-- ---- the replies that go out in pieces

-- the command writes the steps of `run`, or those that are there
abbrev pub TellsSteps : Command → Type 0
TellsSteps (Run most) = ⊤
TellsSteps (Show Hist) = ⊤
TellsSteps _ = ⊥

-- what is asked for is written in pieces: the steps of `run`, those that are there, and those of
-- `go` where one worker takes them
abbrev pub AreTold : Asked → Type 0
AreTold (Asks command) = TellsSteps command
AreTold (Go workers most) = workers ≡ 1
AreTold _ = ⊥

-- the line asks for steps, and is written them in pieces
abbrev pub AsksSteps : ℕ → List ℕ → Type 0
AsksSteps limit line = AreTold (asked limit line)

-- what was written without a whole reply: a beginning of one, and for want of memory that only
-- where steps are written in pieces; where workers and journal don't fit, of which there are
-- several then, nothing
abbrev pub Fails : (AreSteps HasSeveral : Type 0) → (List ℕ → Session → Type 0) → Option (List ℕ) → Option (List ℕ) → Unanswered → Type 0
Fails AreSteps HasSeveral IsReply before after Memory = Appends before after [] ⊎ (AreSteps × Begins IsReply before after)
Fails AreSteps HasSeveral IsReply before after Write = Begins IsReply before after
Fails AreSteps HasSeveral IsReply before after Journal = HasSeveral × Appends before after []

-- what was written without a whole reply to a line, where `go` may name so many workers
abbrev pub FailsAt : ℕ → Session → List ℕ → Option (List ℕ) → Option (List ℕ) → Unanswered → Type 0
FailsAt limit s line before after why = Fails (AsksSteps limit line) (AsksSeveral limit line) (Answers limit s line) before after why
