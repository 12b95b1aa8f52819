-- The reply to each line.
use Rattle.std.specs.Prelude.{◌≡◌, ℕ, suc, List, [], ◌++◌, codes, Option, Some, None}
use Rattle.std.specs.Fmt.{decimal}
use Rattle.tb_model.specs.declared.step_id.StepId.{StepId}
use Rattle.tb_model.specs.declared.entry.Entry.TheVariants.{Rolled}
use Rattle.tb_model.specs.Names.{Name}
use Rattle.tb_model.specs.Spelling.{step_id_text}
use Rattle.tb_control.specs.declared.breaks.Break.{Break}
use Rattle.tb_control.specs.declared.breaks.Break.TheVariants.{Body as AtBody}
use Rattle.tb_live.specs.Breaks.{with_break, without_break}
use Rattle.tb_live.specs.Pauses.{with_points}
use Rattle.tb_live.specs.Runs.{resumed}
use Rattle.tb_live.specs.Session.{Session, history, with_entry}
use Rattle.tb_commands.specs.Commands.{asked}
use Rattle.tb_view.specs.declared.view.View.{View}
use Rattle.tb_view.specs.declared.view_refusal.ViewRefusal.{ViewRefusal}
use Rattle.tb_view.specs.Lines.{line}
use Rattle.tb_view.specs.Views.{view_text, view_refusal}
use Rattle.tb_replies.specs.Texts.{fault_word, refused, told_step, stepped}
use Rattle.tb_replies.specs.Refusals.{step_refusal, undo_refusal, roll_refusal, break_line, break_refusal, clear_refusal, view_line}
use Rattle.tb_replies.specs.Bodies.{body_line}
use Rattle.tb_replies.specs.Rolled.{step_named, rolled_text}
use Rattle.tb_replies.specs.Course.{Course, course, course_text}
use Rattle.tb_replies.specs.Turns.{IsGo}
use Rattle.tb_control.specs.declared.break_refusal.BreakRefusal.TheVariants.{NoSuchBody}
use Rattle.tb_commands.specs.declared.command.Command.{Command}
use Rattle.tb_commands.specs.declared.command.Command.TheVariants.{Step, Undo, Roll, Run, Break as AddBreak, BreakBody, Clear, Show}
use Rattle.tb_commands.specs.declared.asked.Asked.{Asked}
use Rattle.tb_commands.specs.declared.asked.Asked.TheVariants.{Nothing, Command as Asks, Go, Fault}

-- a refusal changes nothing; else the task's next step is executed, and written
abbrev pub StepReply : Option (List ℕ) → Session → Name → List ℕ → Session → Type 0
StepReply (Some refusal) s t out new = (out ≡ refusal) × (new ≡ s)
StepReply None s t out new = (out ≡ told_step s t) × (new ≡ stepped s t)

abbrev pub UndoReply : Option (List ℕ) → Session → StepId → List ℕ → Session → Type 0
UndoReply (Some refusal) s id out new = (out ≡ refusal) × (new ≡ s)
UndoReply None s id out new = (out ≡ line (codes "undone " ++ step_id_text id)) × (new ≡ with_entry s (Rolled 0 id))

-- the step and all that need it go, and are written
abbrev pub RolledReply : Option (List ℕ) → Session → StepId → List ℕ → Session → Type 0
RolledReply (Some refusal) s id out new = (out ≡ refusal) × (new ≡ s)
RolledReply None s id out new = (out ≡ rolled_text s id) × (new ≡ with_entry s (Rolled 0 id))

-- where no step is named, there is none
abbrev pub RollReply : Session → Option StepId → List ℕ → Session → Type 0
RollReply s None out new = (out ≡ refused 1 (codes "NoSuchStep")) × (new ≡ s)
RollReply s (Some id) out new = RolledReply (roll_refusal s id) s id out new

-- the course is written, and executed
abbrev pub RunReply : Course → List ℕ → Session → Type 0
RunReply c out new = (out ≡ course_text c) × (new ≡ c.session)

-- the turns of so many workers, at most so many, are written and executed
abbrev pub GoReply : ℕ → ℕ → Session → List ℕ → Session → Type 0
GoReply workers most s out new = (c : Course) × IsGo workers most s c × RunReply c out new

-- a refusal changes nothing; else the breakpoint has the next number
abbrev pub BreakReply : Option (List ℕ) → Session → Break → List ℕ → Session → Type 0
BreakReply (Some refusal) s at out new = (out ≡ refusal) × (new ≡ s)
BreakReply None s at out new =
    (out ≡ line (codes "break " ++ decimal (suc s.control.breakpoints.given))) × (new ≡ with_points s (with_break s.control.breakpoints at))

-- a body is named by its line; without one there is no such body
abbrev pub BodyReply : Option ℕ → Session → List ℕ → Session → Type 0
BodyReply (Some at) s out new = BreakReply (break_refusal s (AtBody at)) s (AtBody at) out new
BodyReply None s out new = (out ≡ break_line NoSuchBody) × (new ≡ s)

abbrev pub ClearReply : Option (List ℕ) → Session → ℕ → List ℕ → Session → Type 0
ClearReply (Some refusal) s number out new = (out ≡ refusal) × (new ≡ s)
ClearReply None s number out new =
    (out ≡ line (codes "cleared " ++ decimal number)) × (new ≡ with_points s (without_break number s.control.breakpoints))

-- a view by its reason not to be shown, and its text
abbrev pub shown_or : Option ViewRefusal → List ℕ → List ℕ
shown_or (Some refusal) text = view_line refusal
shown_or None text = text

abbrev pub shown : Session → View → List ℕ
shown s view = shown_or (view_refusal s view) (view_text s view)

abbrev pub Reply : Session → Command → List ℕ → Session → Type 0
-- `step` and `run` let the run go on first
Reply s (Step t) out new = StepReply (step_refusal (resumed s) t) (resumed s) t out new
Reply s (Undo id) out new = UndoReply (undo_refusal s id) s id out new
Reply s (Roll target) out new = RollReply s (step_named (history s) target) out new
Reply s (Run most) out new = RunReply (course most (resumed s)) out new
Reply s (AddBreak at) out new = BreakReply (break_refusal s at) s at out new
Reply s (BreakBody name) out new = BodyReply (body_line name s.program) s out new
Reply s (Clear number) out new = ClearReply (clear_refusal s number) s number out new
-- a view changes nothing
Reply s (Show view) out new = (out ≡ shown s view) × (new ≡ s)

-- what a line asks for is answered so
abbrev pub ReplyTo : Session → Asked → List ℕ → Session → Type 0
ReplyTo s Nothing out new = (out ≡ []) × (new ≡ s)
ReplyTo s (Asks command) out new = Reply s command out new
ReplyTo s (Go workers most) out new = GoReply workers most s out new
ReplyTo s (Fault fault) out new = (out ≡ line (codes "error " ++ fault_word fault)) × (new ≡ s)

-- `go` may name so many workers
abbrev pub Answers : ℕ → Session → List ℕ → List ℕ → Session → Type 0
Answers workers s bytes out new = ReplyTo s (asked workers bytes) out new
