-- What always holds of a Live.
use Rattle.std.specs.Prelude.{◌≡◌, ◌≤◌, ℕ, List, length}
use Rattle.tb_model.specs.declared.entry.Entry.{Entry}
use Rattle.tb_model.specs.Journal.{hist, Sound}
use Rattle.tb_model.specs.Program.{Program}
use Rattle.tb_core.specs.Seen.{Seen, history}
pub use Rattle.tb_next.specs.Fitting.{Fits}
use Rattle.tb_control.specs.declared.control.Control.{Control}
use Rattle.tb_control.specs.Claims.{AreLawful}

-- the journal is sound, and the run is what it leaves
pub record IsSound (P : Program) (limit : ℕ) (J : List Entry) (run : Seen) : Type 0 where
  pub fits : Fits P run
  pub sound : Sound P J
  pub leaves : history run ≡ hist J
  pub limits : run.limit ≡ limit
  pub within : length J ≤ limit
  pub bound : limit ≤ 1000000

-- each claim is on a task of what the journal leaves, and no task is claimed by two
abbrev pub IsLawful : List Entry → Control → Type 0
IsLawful J c = AreLawful (hist J) c.claims
