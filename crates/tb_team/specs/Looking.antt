-- What is looked at in a run that comes back from workers.
use Rattle.std.specs.Prelude.{◌≡◌, ◌≤◌, ◌+◌, ◌-◌, ℕ, zero, suc, List, [], ◌∷◌, Bool, true, false, ◌&&◌, not, is_some, nat_lt, nat_eq, length, drop, if◌then◌else◌, Option, Some}
use Rattle.std.specs.List.{list_all}
use Rattle.tb_model.specs.Facts.{History}
use Rattle.tb_model.specs.Journal.{Sound}
use Rattle.tb_model.specs.WellFormed.{WellFormed}
use Rattle.tb_model.specs.Program.{Program, situation}
use Rattle.tb_steps.specs.Entries.{Entry as Step}
use Rattle.tb_control.specs.declared.breakpoint.Breakpoint.{Breakpoint}
use Rattle.tb_control.specs.declared.mode.Mode.TheVariants.{Resumed}
use Rattle.tb_live.specs.Breaks.{met}
use Rattle.tb_live.specs.Claims.{Claims, withdrawn}
use Rattle.tb_live.specs.Session.{Session, history, is_full}
use Rattle.tb_live.specs.Moves.{least_task}
use Rattle.tb_journal.specs.Journals.{is_turn}
use Rattle.tb_work.specs.Changes.{entries}
use Rattle.tb_team.specs.declared.gone.Gone.{Gone}
use Rattle.tb_team.specs.declared.stop.Stop.{Stop}
use Rattle.tb_team.specs.declared.stop.Stop.TheVariants.{Break, Limit}
use Rattle.tb_team.specs.Turns.{why_idle}

-- the step met a breakpoint, by its own record of the line at which its task was
abbrev pub is_met : List Breakpoint → Step → Bool
is_met points step = is_some (met step.at step.event points)

-- ---- the same by the history

-- the newest step met a breakpoint
abbrev pub meets_newest : Program → List Breakpoint → History → Bool
meets_newest P points [] = false
meets_newest P points (v ∷ H) = is_some (met (situation P v.task H).line v points)

-- none of so many of the newest steps did
abbrev pub none_met : Program → List Breakpoint → ℕ → History → Bool
none_met P points zero H = true
none_met P points (suc count) [] = true
none_met P points (suc count) (v ∷ H) = not (meets_newest P points (v ∷ H)) && none_met P points count H

-- the entries from the slot on are steps of so many workers, and no step but the newest met a
-- breakpoint
pub record IsCourse (workers from : ℕ) (s : Session) : Type 0 where
  pub turns : list_all (is_turn workers) (drop from (entries s)) ≡ true
  pub unmet : none_met s.program s.control.breakpoints.standing (length s.journal - from - 1) (drop 1 (history s)) ≡ true

-- ---- why no step follows

-- after a step that met a breakpoint or none, and with all steps taken or not: the first reason that holds
abbrev pub reason : Bool → Bool → Session → Option Stop
reason met all s = if met then Some Break else (if all then Some Limit else why_idle (least_task s) (is_full s))

-- only the claims differ
pub record KeepsButClaims (old new : Session) : Type 0 where
  pub program : new.program ≡ old.program
  pub limit : new.limit ≡ old.limit
  pub journal : new.journal ≡ old.journal
  pub breakpoints : new.control.breakpoints ≡ old.control.breakpoints
  pub mode : new.control.mode ≡ old.control.mode
  pub seats : length new.control.claims ≡ length old.control.claims

-- these claims are withdrawn, and the run goes on
abbrev pub freed : Claims → Session → Session
freed claims s = record {
  program = s.program;
  limit = s.limit;
  journal = s.journal;
  control = record { claims = withdrawn (λ t. true) claims; breakpoints = s.control.breakpoints; mode = Resumed };
}

-- what was looked at: the run is sound, the entries from the slot on are a course of at most so
-- many turns, and this is why it stops
pub record IsLooked (workers most from : ℕ) (s : Session) (gone : Gone) : Type 0 where
  pub well_formed : WellFormed s.program
  pub sound : Sound s.program s.journal
  pub within : length s.journal ≤ s.limit
  pub course : IsCourse workers from s
  pub counted : gone.count + from ≡ length s.journal
  pub few : gone.count ≤ most
  pub stops : reason (nat_lt 0 gone.count && meets_newest s.program s.control.breakpoints.standing (history s)) (nat_eq gone.count most) s ≡ Some gone.stop
  pub claims : Claims
  pub seats : length claims ≡ length s.control.claims
  pub now : gone.live.session ≡ freed claims s
