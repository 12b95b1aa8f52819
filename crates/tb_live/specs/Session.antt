-- What a contract sees of a Live: its program, how many entries its journal may have, the journal,
-- and what it has besides.
use Rattle.std.specs.Prelude.{ℕ, Bool, List, [], ◌∷◌, ℤ, suc, nat_le, length, replicate, Option, None}
use Rattle.tb_model.specs.declared.entry.Entry.{Entry}
use Rattle.tb_model.specs.declared.entry.Entry.TheVariants.{Opened, Stepped, Rolled}
use Rattle.tb_model.specs.Facts.{History, last}
use Rattle.tb_model.specs.Legal.{Cells}
use Rattle.tb_model.specs.Journal.{hist}
use Rattle.tb_model.specs.Program.{Program, situation}
use Rattle.tb_core.specs.Rolled.{removals}
use Rattle.tb_control.specs.declared.control.Control.{Control}
use Rattle.tb_control.specs.declared.mode.Mode.TheVariants.{Resumed}
use Rattle.tb_model.specs.Names.{Name}
use Rattle.tb_control.specs.Claims.{with_claim}
use Rattle.tb_control.specs.Breaks.{no_points}
use Rattle.tb_control.specs.Controls.{behind_step, behind_removal}
pub use Rattle.tb_next.specs.Newest.{last_store, last_print}

-- the journal is listed from its newest entry
pub record Session : Type 0 where
  pub program : Program
  pub limit : ℕ
  pub journal : List Entry
  pub control : Control

-- what a Live holds: its session, and the entry for which all capacity is reserved
pub record Held : Type 0 where
  pub session : Session
  pub prepared : Option Entry

-- resumed, with so many seats, no claims and no breakpoints
abbrev pub fresh : ℕ → Control
fresh seats = record { claims = replicate seats None; breakpoints = no_points; mode = Resumed }

-- in front of the first move
abbrev pub opened : Program → ℕ → ℕ → Session
opened P limit seats = record { program = P; limit = limit; journal = Opened ∷ []; control = fresh seats }

abbrev pub history : Session → History
history s = hist s.journal

-- the journal has no slot for one more entry
abbrev pub is_full : Session → Bool
is_full s = nat_le s.limit (length s.journal)

-- what a run has besides the journal after one entry more: a step counts, and ends the claim on its
-- task; a rollback withdraws the claims on the tasks of which it removes a step or the spawn
abbrev pub control_behind : Program → List Entry → Control → Entry → Control
control_behind P J c Opened = c
control_behind P J c (Stepped seat v) = behind_step (situation P v.task (hist J)).line v c
control_behind P J c (Rolled seat e) = behind_removal (removals e (hist J)) c

-- one entry more
abbrev pub with_entry : Session → Entry → Session
with_entry s e = record { program = s.program; limit = s.limit; journal = e ∷ s.journal; control = control_behind s.program s.journal s.control e }

-- the seat's claim becomes this one, or none
abbrev pub with_seat : Session → ℕ → Option Name → Session
with_seat s seat claim = record {
  program = s.program;
  limit = s.limit;
  journal = s.journal;
  control = record { claims = with_claim s.control.claims seat claim; breakpoints = s.control.breakpoints; mode = s.control.mode };
}

-- the session where the journal may have so many entries
abbrev pub with_limit : ℕ → Session → Session
with_limit limit s = record { program = s.program; limit = limit; journal = s.journal; control = s.control }

-- the cells' values from cell c on, where these are their first values
abbrev pub numbers_from : ℕ → Cells → History → List ℤ
numbers_from c [] H = []
numbers_from c (first ∷ cells) H = last first c H ∷ numbers_from (suc c) cells H

abbrev pub cell_numbers : Session → List ℤ
cell_numbers s = numbers_from 0 s.program.cells (history s)
