-- What is left of a run that was lent to workers.
use Rattle.std.specs.Prelude.{◌≡◌, length, take}
use Rattle.tb_live.specs.Session.{Session}
use Rattle.tb_work.specs.Changes.{entries}

-- the second is a run of the program under the same limit and with the same breakpoints and seats,
-- and its journal begins with what the journal was
pub record IsBack (old new : Session) : Type 0 where
  pub program : new.program ≡ old.program
  pub limit : new.limit ≡ old.limit
  pub breakpoints : new.control.breakpoints ≡ old.control.breakpoints
  pub seats : length new.control.claims ≡ length old.control.claims
  pub begins : take (length old.journal) (entries new) ≡ entries old
