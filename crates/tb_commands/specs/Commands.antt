-- The commands, and what a line asks for.
use Rattle.std.specs.Prelude.{◌≡◌, ◌<◌, ℕ, Bool, List, [], ◌∷◌, ◌||◌, ◌&&◌, not, nat_le, nat_lt, length, codes, if◌then◌else◌, Option, Some, None}
use Rattle.std.specs.List.{list_all}
use Rattle.std.specs.Char.{is_ascii_digit}
use Rattle.std.specs.Str.Parse.{digits_value}
use Rattle.tb_model.specs.declared.step_id.StepId.{StepId}
use Rattle.tb_model.specs.Names.{Name}
use Rattle.tb_model.specs.Spelling.{spells_name, spelled_name, spells_step_id, spelled_step_id}
use Rattle.tb_read.specs.Text.{line_words, before_comment, is_text}
use Rattle.tb_read.specs.Word.{same_word}
use Rattle.tb_commands.specs.declared.command.Verb.{Verb}
use Rattle.tb_commands.specs.declared.command.Verb.TheVariants.{Step as ToStep, Undo as ToUndo, Roll as ToRoll, RollTask as ToRollTask, RollCell as ToRollCell, RollPrint as ToRollPrint, Run as ToRun, Clear as ToClear, Tasks as ToTasks, Task as ToTask, Cells as ToCells, Out as ToOut, Ready as ToReady, Waits as ToWaits, Deps as ToDeps, Hist as ToHist, Why as ToWhy, Causes as ToCauses, Who as ToWho, Races as ToRaces, Edges as ToEdges, Breaks as ToBreaks}
use Rattle.tb_commands.specs.declared.command.Command.{Command}
use Rattle.tb_commands.specs.declared.command.Command.TheVariants.{Step, Undo, Roll, Run, Break, BreakBody, Clear, Show}
use Rattle.tb_control.specs.declared.breaks.Break.TheVariants.{Task as OfTask, Cell as OfCell, Print as AnyPrint, Fault as AnyFault}
use Rattle.tb_view.specs.declared.view.View.TheVariants.{Tasks, Task, Cells, Out, Ready, Waits, Deps, Hist, Why, Causes, Who, Races, Edges, Breaks}
use Rattle.tb_commands.specs.declared.target.Target.TheVariants.{Step as TheStep, LastStore, LastPrint}
use Rattle.tb_commands.specs.declared.asked.CommandFault.TheVariants.{Line, Word, Count, Name as BadName, Number as BadNumber}
use Rattle.tb_commands.specs.declared.asked.Asked.{Asked}
use Rattle.tb_commands.specs.declared.asked.Asked.TheVariants.{Nothing, Command as Asks, Go, Fault}

abbrev pub Words : Type 0
Words = List (List ℕ)

-- ---- the words after the first

-- no word
abbrev pub with_none : Words → Command → Asked
with_none [] command = Asks command
with_none (word ∷ words) command = Fault Count

-- one word, which is read so
abbrev pub with_one : Words → (List ℕ → Asked) → Asked
with_one (word ∷ []) read = read word
with_one _ read = Fault Count

-- the task, and the step, that a word names
abbrev pub task_of : List ℕ → Option Name
task_of word = if spells_name word then Some (spelled_name word) else None

abbrev pub step_of : List ℕ → Option StepId
step_of word = if spells_step_id word then Some (spelled_step_id word) else None

-- the first step of a task
abbrev pub start_of : Name → StepId
start_of t = record { task = t; k = 1 }

-- a word that names nothing is a bad name
abbrev pub named : {A : Type 0} → Option A → (A → Command) → Asked
named (Some x) command = Asks (command x)
named None command = Fault BadName

-- the word spells a number up to `most`: one or more digits, of which the first may be zeros
abbrev pub is_number : ℕ → List ℕ → Bool
is_number most word = nat_lt 0 (length word) && (list_all is_ascii_digit word && nat_le (digits_value 10 word) most)

abbrev pub number_within : ℕ → List ℕ → Option ℕ
number_within most word = if is_number most word then Some (digits_value 10 word) else None

-- a word that spells no number of the range is a bad number
abbrev pub numbered : Option ℕ → (ℕ → Command) → Asked
numbered (Some n) command = Asks (command n)
numbered None command = Fault BadNumber

-- ---- `break` and `go`

-- the second word says which steps are waited for, and comes before the count of words; a body is
-- any word
abbrev pub break_of : Words → Asked
break_of [] = Fault Count
break_of (kind ∷ words) =
    if same_word kind (codes "task") then with_one words (λ word. named (task_of word) (λ t. Break (OfTask t)))
    else (if same_word kind (codes "cell") then with_one words (λ word. numbered (number_within 65535 word) (λ c. Break (OfCell c)))
    else (if same_word kind (codes "body") then with_one words (λ word. Asks (BreakBody word))
    else (if same_word kind (codes "print") then with_none words (Break AnyPrint)
    else (if same_word kind (codes "fault") then with_none words (Break AnyFault)
    else Fault Word))))

-- a number, unless it is 0
abbrev pub positive : Option ℕ → Option ℕ
positive (Some n) = if nat_lt 0 n then Some n else None
positive None = None

abbrev pub go_with : Option ℕ → Option ℕ → Asked
go_with (Some workers) (Some most) = Go workers most
go_with _ _ = Fault BadNumber

-- a count of workers up to the limit, and the most steps
abbrev pub go_of : ℕ → Words → Asked
go_of limit (workers ∷ most ∷ []) = go_with (positive (number_within limit workers)) (number_within 1000000 most)
go_of limit _ = Fault Count

-- ---- the table of the other commands: a row a command

abbrev pub view_verb : List ℕ → Option Verb
view_verb word =
    if same_word word (codes "tasks") then Some ToTasks
    else (if same_word word (codes "task") then Some ToTask
    else (if same_word word (codes "cells") then Some ToCells
    else (if same_word word (codes "out") then Some ToOut
    else (if same_word word (codes "ready") then Some ToReady
    else (if same_word word (codes "waits") then Some ToWaits
    else (if same_word word (codes "deps") then Some ToDeps
    else (if same_word word (codes "hist") then Some ToHist
    else (if same_word word (codes "why") then Some ToWhy
    else (if same_word word (codes "causes") then Some ToCauses
    else (if same_word word (codes "who") then Some ToWho
    else (if same_word word (codes "races") then Some ToRaces
    else (if same_word word (codes "edges") then Some ToEdges
    else (if same_word word (codes "breaks") then Some ToBreaks
    else None)))))))))))))

abbrev pub verb_of : List ℕ → Option Verb
verb_of word =
    if same_word word (codes "step") then Some ToStep
    else (if same_word word (codes "undo") then Some ToUndo
    else (if same_word word (codes "roll") then Some ToRoll
    else (if same_word word (codes "rolltask") then Some ToRollTask
    else (if same_word word (codes "rollcell") then Some ToRollCell
    else (if same_word word (codes "rollprint") then Some ToRollPrint
    else (if same_word word (codes "run") then Some ToRun
    else (if same_word word (codes "clear") then Some ToClear
    else view_verb word)))))))

abbrev pub asked_of : Verb → Words → Asked
asked_of ToStep words = with_one words (λ word. named (task_of word) Step)
asked_of ToUndo words = with_one words (λ word. named (step_of word) Undo)
asked_of ToRoll words = with_one words (λ word. named (step_of word) (λ id. Roll (TheStep id)))
asked_of ToRollTask words = with_one words (λ word. named (task_of word) (λ t. Roll (TheStep (start_of t))))
asked_of ToRollCell words = with_one words (λ word. numbered (number_within 65535 word) (λ c. Roll (LastStore c)))
asked_of ToRollPrint words = with_none words (Roll LastPrint)
asked_of ToRun words = with_one words (λ word. numbered (number_within 1000000 word) Run)
asked_of ToClear words = with_one words (λ word. numbered (number_within 1000000 word) Clear)
asked_of ToTasks words = with_none words (Show Tasks)
asked_of ToTask words = with_one words (λ word. named (task_of word) (λ t. Show (Task t)))
asked_of ToCells words = with_none words (Show Cells)
asked_of ToOut words = with_none words (Show Out)
asked_of ToReady words = with_none words (Show Ready)
asked_of ToWaits words = with_none words (Show Waits)
asked_of ToDeps words = with_one words (λ word. named (task_of word) (λ t. Show (Deps t)))
asked_of ToHist words = with_none words (Show Hist)
asked_of ToWhy words = with_one words (λ word. named (step_of word) (λ id. Show (Why id)))
asked_of ToCauses words = with_one words (λ word. named (step_of word) (λ id. Show (Causes id)))
asked_of ToWho words = with_one words (λ word. named (step_of word) (λ id. Show (Who id)))
asked_of ToRaces words = with_none words (Show Races)
asked_of ToEdges words = with_none words (Show Edges)
asked_of ToBreaks words = with_none words (Show Breaks)

-- ---- a line

abbrev pub asked_by : Option Verb → Words → Asked
asked_by (Some verb) words = asked_of verb words
asked_by None words = Fault Word

abbrev pub asked_words : ℕ → List ℕ → Words → Asked
asked_words limit word words =
    if same_word word (codes "break") then break_of words
    else (if same_word word (codes "go") then go_of limit words
    else asked_by (verb_of word) words)

-- too long, or with a byte before its comment that is no text
abbrev pub is_bad_line : List ℕ → Bool
is_bad_line line = nat_lt 1024 (length line) || not (is_text (before_comment line))

-- a line without words asks for nothing, whatever else is wrong with it
abbrev pub asked_with : ℕ → List ℕ → Words → Asked
asked_with limit line [] = Nothing
asked_with limit line (word ∷ words) = if is_bad_line line then Fault Line else asked_words limit word words

-- `go` may name so many workers
abbrev pub asked : ℕ → List ℕ → Asked
asked limit line = asked_with limit line (line_words line)

-- the line asks for a go of two or more workers
abbrev pub AsksSeveral : ℕ → List ℕ → Type 0
AsksSeveral limit line = (workers : ℕ) × (most : ℕ) × (asked limit line ≡ Go workers most) × (1 < workers)
