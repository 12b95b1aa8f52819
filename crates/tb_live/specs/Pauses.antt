-- What a pause and a breakpoint change, and when a breakpoint isn't made or cleared.
use Rattle.std.specs.Prelude.{◌≡◌, ℕ, suc, length, nat_lt, is_none, Option, Some, None, Result, Ok, Err, IsTrue, IsFalse, if◌then◌else◌}
use Rattle.tb_model.specs.Program.{Program}
use Rattle.tb_read.specs.Bodies.{name_at}
use Rattle.tb_control.specs.declared.mode.Mode.{Mode}
use Rattle.tb_control.specs.declared.breaks.Break.{Break}
use Rattle.tb_control.specs.declared.breaks.Break.TheVariants.{Body, Cell}
use Rattle.tb_control.specs.declared.break_refusal.BreakRefusal.{BreakRefusal}
use Rattle.tb_control.specs.declared.break_refusal.BreakRefusal.TheVariants.{Memory, TooMany, NoSuchBreak, NoSuchBody, NoSuchCell}
use Rattle.tb_control.specs.Breaks.{Points, are_too_many, with_break, without_break, is_standing}
use Rattle.tb_live.specs.Session.{Session}

abbrev pub with_mode : Session → Mode → Session
with_mode s m = record {
  program = s.program;
  limit = s.limit;
  journal = s.journal;
  control = record { claims = s.control.claims; breakpoints = s.control.breakpoints; mode = m };
}

abbrev pub with_points : Session → Points → Session
with_points s p = record {
  program = s.program;
  limit = s.limit;
  journal = s.journal;
  control = record { claims = s.control.claims; breakpoints = p; mode = s.control.mode };
}

-- what the program lacks for a breakpoint: the body that the line names, or the cell
abbrev pub misplaced : Program → Break → Option BreakRefusal
misplaced P (Body line) = if is_none (name_at line P.bodies) then Some NoSuchBody else None
misplaced P (Cell c) = if nat_lt c (length P.cells) then None else Some NoSuchCell
misplaced P _ = None

-- why a breakpoint isn't made: what the program lacks comes first, want of memory last
abbrev pub RefusesBreak : Session → Break → BreakRefusal → Type 0
RefusesBreak s at NoSuchBody = misplaced s.program at ≡ Some NoSuchBody
RefusesBreak s at NoSuchCell = misplaced s.program at ≡ Some NoSuchCell
RefusesBreak s at TooMany = (misplaced s.program at ≡ None) × IsTrue (are_too_many s.control.breakpoints)
RefusesBreak s at Memory = (misplaced s.program at ≡ None) × IsFalse (are_too_many s.control.breakpoints)
RefusesBreak s at NoSuchBreak = ⊥

-- a breakpoint by the answer: a new one has the next number, a refusal changes nothing
abbrev pub AddsBreak : Session → Break → Session → Result ℕ BreakRefusal → Type 0
AddsBreak s at new (Ok n) =
    (misplaced s.program at ≡ None) × IsFalse (are_too_many s.control.breakpoints)
    × (n ≡ suc s.control.breakpoints.given) × (new ≡ with_points s (with_break s.control.breakpoints at))
AddsBreak s at new (Err e) = (new ≡ s) × RefusesBreak s at e

abbrev pub ClearsBreak : Session → ℕ → Session → Result (Unit {0}) BreakRefusal → Type 0
ClearsBreak s n new (Ok done) = IsTrue (is_standing n s.control.breakpoints) × (new ≡ with_points s (without_break n s.control.breakpoints))
ClearsBreak s n new (Err NoSuchBreak) = (new ≡ s) × IsFalse (is_standing n s.control.breakpoints)
ClearsBreak s n new (Err _) = ⊥
