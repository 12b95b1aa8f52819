-- What an entry in few bytes means.
use Rattle.std.specs.Prelude.{ℕ, ◌≡◌, ◌<◌, List, [], Result, Ok, Err, slice_index_or, ⊤}
use Rattle.tb_model.specs.Names.{Name}
use Rattle.tb_model.specs.declared.action.Action.{Action}
use Rattle.tb_model.specs.declared.action.Action.TheVariants.{Start, Let, Load, Store, Print, Spawn, Wait, Open, Close, Test, End, Fault}
use Rattle.tb_model.specs.declared.entry.Entry.{Entry}
use Rattle.tb_model.specs.declared.entry.Entry.TheVariants.{Opened, Stepped, Rolled}
use Rattle.tb_journal.specs.declared.compact.Compact.{Compact}
use Rattle.tb_journal.specs.declared.compact.Compact.TheVariants.{Apart, Started, Set, Loaded, Stored, Printed, Generated, Waited, WaitedFor, Entered, Left, Tested, Ended, Faulted, RolledBack}

abbrev pub step : ℕ → Name → Action → Entry
step seat t a = Stepped seat (record { task = t; action = a })

-- the task's entry, where these are stored out of line
abbrev pub entry_of : List Entry → Name → Compact → Entry
entry_of apart t (Apart n) = slice_index_or apart n Opened
entry_of apart t (Started seat) = step seat t Start
entry_of apart t (Set reg seat value) = step seat t (Let reg value)
entry_of apart t (Loaded reg seat cell value) = step seat t (Load reg cell value)
entry_of apart t (Stored seat cell value) = step seat t (Store cell value)
entry_of apart t (Printed seat value) = step seat t (Print value)
entry_of apart t (Generated seat s) = step seat t (Spawn s)
entry_of apart t (Waited seat) = step seat t (Wait [])
entry_of apart t (WaitedFor seat items) = step seat t (Wait items)
entry_of apart t (Entered seat) = step seat t Open
entry_of apart t (Left seat) = step seat t Close
entry_of apart t (Tested met seat) = step seat t (Test met)
entry_of apart t (Ended seat) = step seat t End
entry_of apart t (Faulted seat) = step seat t Fault
entry_of apart t (RolledBack seat k) = Rolled seat (record { task = t; k = k })

-- a step that has a number
abbrev pub IsNumbered : Compact → Type 0
IsNumbered (Set reg seat value) = ⊤
IsNumbered (Loaded reg seat cell value) = ⊤
IsNumbered (Stored seat cell value) = ⊤
IsNumbered (Printed seat value) = ⊤
IsNumbered _ = ⊥

-- an entry is in the value itself, or is one of so many that are stored out of line
abbrev pub IsThere : ℕ → Compact → Type 0
IsThere count (Apart n) = n < count
IsThere count _ = ⊤

-- the few bytes mean the entry, which is the task's, whatever is stored out of line
pub record StandsFor (e : Entry) (t : Name) (k : Compact) : Type 0 where
  pub is : (apart : List Entry) → entry_of apart t k ≡ e
  pub there : IsThere 0 k

-- the entry that is in few bytes with its task, or that which is stored out of line
abbrev pub entry_in : Result (Name × Compact) Entry → Entry
entry_in (Ok r) = entry_of [] r.0 r.1
entry_in (Err e) = e
