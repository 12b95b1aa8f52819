-- What a `go` of several workers comes to.
use Rattle.std.specs.Prelude.{◌≡◌, ◌<◌, ℕ, List, length, Some}
use Rattle.tb_model.specs.Names.{Name}
use Rattle.tb_live.specs.Session.{Session}
use Rattle.tb_team.specs.declared.gone.Gone.{Gone}
use Rattle.tb_team.specs.Turns.{AreTurns, started, settled, stop_of}

-- there is a seat for the session, and one for each of 64 workers
abbrev pub HasSeats : Session → Type 0
HasSeats s = 64 < length s.control.claims

-- turns of the workers, as many as the count says, lead to where this stops them, and no moment before did; then no claim is
-- left, and the run goes on
pub record IsGone (workers most : ℕ) (s : Session) (gone : Gone) : Type 0 where
  pub turns : List (ℕ × Name)
  pub at : Session
  pub are : AreTurns workers turns (started most s) at
  pub stops : stop_of at ≡ Some gone.stop
  pub counted : length turns ≡ gone.count
  pub now : gone.live.session ≡ settled at
