-- Steps one after another, why no more are executed, and how `run` takes them.
use Rattle.std.specs.Prelude.{◌≡◌, ℕ, zero, suc, ◌+◌, List, [], ◌++◌, codes, if◌then◌else◌, Option, Some, None}
use Rattle.std.specs.Fmt.{decimal}
use Rattle.tb_model.specs.Names.{Name}
use Rattle.tb_live.specs.Runs.{resumed}
use Rattle.tb_live.specs.Session.{Session, is_full}
use Rattle.tb_live.specs.Moves.{least_task}
use Rattle.tb_view.specs.Lines.{line}
use Rattle.tb_replies.specs.Texts.{told_step, stepped}
use Rattle.tb_replies.specs.declared.running.Taken.{Taken}
use Rattle.tb_team.specs.declared.stop.Stop.{Stop}
use Rattle.tb_team.specs.declared.stop.Stop.TheVariants.{Limit, Done, Full}
use Rattle.tb_team.specs.Stops.{stop_word}

-- the steps' lines, how many they are, why no more are executed, and what they leave
pub record Course : Type 0 where
  pub lines : List ℕ
  pub count : ℕ
  pub stop : Stop
  pub session : Session

-- no step is executed
abbrev pub stopped : Stop → Session → Course
stopped why s = record { lines = []; count = 0; stop = why; session = s }

-- a course after so many steps with these lines
abbrev pub behind : List ℕ → ℕ → Course → Course
behind lines count c = record { lines = lines ++ c.lines; count = count + c.count; stop = c.stop; session = c.session }

-- the lines, and last how many they are and why they stop
abbrev pub course_text : Course → List ℕ
course_text c = c.lines ++ line (codes "ran " ++ decimal c.count ++ codes " " ++ stop_word c.stop)

-- the course's lines were written, and this is the rest of it
abbrev pub IsCourse : Course → List ℕ → Taken → Session → Type 0
IsCourse c told taken new = c ≡ record { lines = told; count = taken.count; stop = taken.stop; session = new }

-- ---- `run`

-- the step of the least task that can step, and then the rest; where no task can, all is done, also with a full journal
abbrev pub next_step : Option Name → Session → (Session → Course) → Course
next_step None s rest = stopped Done s
next_step (Some t) s rest = if is_full s then stopped Full s else behind (told_step s t) 1 (rest (stepped s t))

-- no more than so many steps, and the run is resumed in front of each, so that breakpoints are passed
abbrev pub course : ℕ → Session → Course
course zero s = stopped Limit s
course (suc most) s = next_step (least_task s) (resumed s) (course most)
