-- Why a run that was lent is lost: each kind of loss, with what shows it.
use Rattle.std.specs.Prelude.{ℕ, ◌≡◌, ◌≢◌, ◌<◌, ◌≤◌, ◌+◌, ◌-◌, ◌&&◌, ◌⊎◌, List, length, All, Bool, IsTrue, IsFalse, nat_lt, nat_eq, None, Some, ⊤}
use Rattle.tb_model.specs.declared.entry.Entry.{Entry}
use Rattle.tb_model.specs.Journal.{Sound}
use Rattle.tb_model.specs.Program.{Program}
use Rattle.tb_journal.specs.Journals.{all_below}
use Rattle.tb_live.specs.Breaks.{Points}
use Rattle.tb_live.specs.Moves.{least_task}
use Rattle.tb_live.specs.Runs.{unclaimed}
use Rattle.tb_live.specs.Session.{Session, history, is_full}
use Rattle.tb_work.specs.declared.adopt_refusal.AdoptRefusal.{AdoptRefusal}
use Rattle.tb_work.specs.declared.adopt_refusal.AdoptRefusal.TheVariants.{Memory as NoMemory, CellTaken}
use Rattle.tb_work.specs.declared.ended.Ended.TheVariants.{CellTaken as MetTakenCell}
use Rattle.tb_work.specs.Answering.{IsAnswer, IsOfTeam}
use Rattle.tb_work.specs.Changes.{entries}
use Rattle.tb_work.specs.Closing.{IsUnclaimed}
use Rattle.tb_work.specs.Ending.{IsEnding}
use Rattle.tb_work.specs.Receipts.{Seated, IsRow, Stands, all_receipts, receipts_in, first_gap}
use Rattle.tb_team.specs.declared.lost.Lost.{Lost}
use Rattle.tb_team.specs.declared.lost.Lost.TheVariants.{Memory, Unseated, Written, Taken, Gap, Course, Many, Unstopped}
use Rattle.tb_team.specs.Lending.{IsBack}
use Rattle.tb_team.specs.Looking.{IsCourse, meets_newest, reason}

-- ---- while it is lent

-- one that isn't taken in: want of memory stays that
abbrev pub lost_by : AdoptRefusal → Lost
lost_by NoMemory = Memory
lost_by CellTaken = Written

-- one of so many workers ended where a burst of its met a cell that was taken
pub record HasMet (P : Program) (limit : ℕ) (points : Points) (seats : ℕ) (begun : List Entry) (workers : ℕ) : Type 0 where
  pub seat : ℕ
  pub first : 1 ≤ seat
  pub last : seat ≤ workers
  pub ended : IsAnswer P limit points seats begun (IsEnding seat MetTakenCell)

-- the run of the team that was left has as many new entries as its seats have receipts, but not the
-- slot of this one
pub record HasGap (P : Program) (limit : ℕ) (points : Points) (seats : ℕ) (begun : List Entry) : Type 0 where
  pub left : Session
  pub team : IsOfTeam P limit points seats begun left
  pub free : IsUnclaimed seats left
  pub held : List Seated
  pub counted : receipts_in held + length begun ≡ length left.journal
  pub rows : All IsRow held
  pub stand : All (Stands (entries left)) (all_receipts held)
  pub place : ℕ
  pub gap : first_gap (length left.journal) (all_receipts held) ≡ Some place

-- of a team: that a cell of a slot that is there was written, and that memory was wanted, no
-- contract of the kit says
abbrev pub IsLostBy : Program → ℕ → Points → ℕ → List Entry → ℕ → Lost → Type 0
IsLostBy P limit points seats begun workers Memory = ⊤
IsLostBy P limit points seats begun workers Written = ⊤
IsLostBy P limit points seats begun workers Taken = HasMet P limit points seats begun workers
IsLostBy P limit points seats begun workers Gap = HasGap P limit points seats begun
IsLostBy P limit points seats begun workers _ = ⊥

-- each entry is of one of the seats
abbrev pub is_seated : Session → Bool
is_seated s = all_below (length s.control.claims) (entries s)

-- a run that was to be lent to so many workers and doesn't come back; whose the entries are is asked first. While it is lent,
-- its journal may have so many entries and no more
abbrev pub IsUnlent : ℕ → Session → Lost → Type 0
IsUnlent workers s Unseated = IsFalse (is_seated s)
IsUnlent workers s why =
    IsTrue (is_seated s)
    × ((limit : ℕ) × (limit ≤ s.limit) × IsLostBy s.program limit s.control.breakpoints (length s.control.claims) (entries s) workers why)

-- ---- as it comes back

-- after so many steps of at most so many no stop is returned: nothing stops the workers, or memory
-- was wanted where it was asked whether a task can step, which comes after all else
abbrev pub IsUnstopped : (count most : ℕ) → Session → Lost → Type 0
IsUnstopped count most s Unstopped = reason (nat_lt 0 count && meets_newest s.program s.control.breakpoints.standing (history s)) (nat_eq count most) s ≡ None
IsUnstopped count most s Memory =
    IsFalse (nat_lt 0 count && meets_newest s.program s.control.breakpoints.standing (history s)) × IsFalse (nat_eq count most) × (least_task s ≢ None → IsFalse (is_full s))
IsUnstopped count most s _ = ⊥

-- the entries from the slot on are no course, or a course of more than was asked for, or nothing
-- stops the workers after it
abbrev pub IsAstray : (workers most from : ℕ) → Session → Lost → Type 0
IsAstray workers most from s Course = IsCourse workers from s → ⊥
IsAstray workers most from s Many = IsCourse workers from s × (most + from < length s.journal)
IsAstray workers most from s why = IsCourse workers from s × (length s.journal ≤ most + from) × IsUnstopped (length s.journal - from) most s why

-- a sound run came back, within its limit
pub record CameBack (s back : Session) : Type 0 where
  pub is : IsBack (unclaimed s) back
  pub sound : Sound back.program back.journal
  pub within : length back.journal ≤ back.limit

-- ---- in all

-- a run of which so many workers were to take at most so many steps: it didn't come back, or one came back that went astray
abbrev pub IsLost : (workers most : ℕ) → Session → Lost → Type 0
IsLost workers most s why = IsUnlent workers (unclaimed s) why ⊎ ((back : Session) × CameBack s back × IsAstray workers most (length s.journal) back why)
