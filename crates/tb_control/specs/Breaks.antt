-- Which steps meet a breakpoint, and the breakpoints that are there.
use Rattle.std.specs.Prelude.{IsTrue, IsFalse, ℕ, List, [], ◌∷◌, ◌++◌, Bool, true, false, ◌&&◌, ◌||◌, ◌==◌, not, suc, nat_le, length, filter, Option, Some, None, if◌then◌else◌, ◌<◌, ◌≤◌, ⊤}
use Rattle.std.specs.List.{list_any}
use Rattle.tb_model.specs.declared.action.Action.{Action}
use Rattle.tb_model.specs.declared.action.Action.TheVariants.{Fault}
use Rattle.tb_model.specs.declared.event.Event.{Event}
use Rattle.tb_model.specs.Facts.{is_of, touches, is_start, is_print}
use Rattle.tb_control.specs.declared.breaks.Break.{Break}
use Rattle.tb_control.specs.declared.breaks.Break.TheVariants.{Task, Cell, Body, Print, Fault as AnyFault}
use Rattle.tb_control.specs.declared.break_refusal.BreakRefusal.{BreakRefusal}
use Rattle.tb_control.specs.declared.break_refusal.BreakRefusal.TheVariants.{Memory, TooMany}
use Rattle.tb_control.specs.declared.breakpoint.Breakpoint.{Breakpoint}

abbrev pub is_fault : Action → Bool
is_fault Fault = true
is_fault _ = false

-- a task that was at the line executed the step: a pending task is at the line of its body
abbrev pub meets : ℕ → Event → Break → Bool
meets line v (Task t) = is_of t v
meets line v (Cell c) = touches c v.action
meets line v (Body body) = is_start v.action && (line == body)
meets line v Print = is_print v.action
meets line v AnyFault = is_fault v.action

-- the number of the first breakpoint that the step meets
abbrev pub met : ℕ → Event → List Breakpoint → Option ℕ
met line v [] = None
met line v (b ∷ bs) = if meets line v b.at then Some b.number else met line v bs

-- the breakpoints that are there, in the order in which they were made, and the last number that
-- was given
pub record Points : Type 0 where
  pub standing : List Breakpoint
  pub given : ℕ

-- the numbers rise from above the one to at most the other
abbrev pub AreRising : ℕ → ℕ → List Breakpoint → Type 0
AreRising low high [] = ⊤
AreRising low high (b ∷ bs) = (low < b.number) × (b.number ≤ high) × AreRising b.number high bs

-- 64 are there at most, the last number is 1,000,000, and each that is there has a number of its
-- own, at most the last that was given
pub record AreNumbered (p : Points) : Type 0 where
  pub few : length p.standing ≤ 64
  pub last : p.given ≤ 1000000
  pub rising : AreRising 0 p.given p.standing

abbrev pub no_points : Points
no_points = record { standing = []; given = 0 }

-- 64 are there, or all numbers were given
abbrev pub are_too_many : Points → Bool
are_too_many p = nat_le 64 (length p.standing) || nat_le 1000000 p.given

-- one more, with the next number
abbrev pub with_break : Points → Break → Points
with_break p at = record { standing = p.standing ++ record { number = suc p.given; at = at } ∷ []; given = suc p.given }

abbrev pub has_number : ℕ → Breakpoint → Bool
has_number n b = b.number == n

-- a breakpoint with this number is there
abbrev pub is_standing : ℕ → Points → Bool
is_standing n p = list_any (has_number n) p.standing

abbrev pub without_break : ℕ → Points → Points
without_break n p = record { standing = filter (λ b. not (has_number n b)) p.standing; given = p.given }

-- why a breakpoint isn't made
abbrev pub IsRefused : Points → BreakRefusal → Type 0
IsRefused p TooMany = IsTrue (are_too_many p)
IsRefused p Memory = IsFalse (are_too_many p)
IsRefused p _ = ⊥
