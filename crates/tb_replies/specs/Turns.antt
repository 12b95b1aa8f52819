-- What `go` writes: its workers claim tasks and commit their next steps, turn by turn.
use Rattle.std.specs.Prelude.{◌≡◌, ℕ, List, [], ◌∷◌, Some, None}
use Rattle.tb_model.specs.Names.{Name}
use Rattle.tb_live.specs.Session.{Session}
use Rattle.tb_team.specs.declared.stop.Stop.{Stop}
use Rattle.tb_team.specs.Turns.{IsTurn, settled, started, stop_of, turned}
use Rattle.tb_replies.specs.Course.{Course, stopped, behind}
use Rattle.tb_replies.specs.Texts.{told_step}

-- the seats and tasks of the turns, and their course: each turn comes where nothing stops the workers, and something does
-- after the last
abbrev pub Goes : ℕ → List (ℕ × Name) → Session → Course → Type 0
Goes workers [] s c = (why : Stop) × (stop_of s ≡ Some why) × (c ≡ stopped why (settled s))
Goes workers (turn ∷ turns) s c =
    (stop_of s ≡ None) × IsTurn workers s turn.0 turn.1
    × ((rest : Course) × Goes workers turns (turned turn.0 s turn.1) rest × (c ≡ behind (told_step s turn.1) 1 rest))

-- a course of so many workers and at most so many steps
abbrev pub IsGo : ℕ → ℕ → Session → Course → Type 0
IsGo workers most s c = (turns : List (ℕ × Name)) × Goes workers turns (started most s) c
