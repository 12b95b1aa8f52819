-- What is left of a run when its team is closed.
use Rattle.std.specs.Prelude.{ℕ, ◌≡◌, ◌<◌, length, None}
use Rattle.tb_live.specs.Claims.{claim_of}
use Rattle.tb_live.specs.Session.{Session}

-- the seats below n claim nothing
abbrev pub IsUnclaimed : ℕ → Session → Type 0
IsUnclaimed n s = (seat : ℕ) → seat < n → claim_of s.control.claims seat ≡ None

-- the seats below n claim nothing, and all else is as it was
pub record IsReleasedTo (n : ℕ) (old new : Session) : Type 0 where
  pub program : new.program ≡ old.program
  pub limit : new.limit ≡ old.limit
  pub journal : new.journal ≡ old.journal
  pub breakpoints : new.control.breakpoints ≡ old.control.breakpoints
  pub mode : new.control.mode ≡ old.control.mode
  pub seats : length new.control.claims ≡ length old.control.claims
  pub free : IsUnclaimed n new

-- no seat claims a task, and all else is as it was
abbrev pub IsReleased : Session → Session → Type 0
IsReleased old new = IsReleasedTo (length old.control.claims) old new
