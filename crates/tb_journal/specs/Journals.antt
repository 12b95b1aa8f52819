-- What a contract sees of a journal, and who made its entries.
use Rattle.std.specs.Prelude.{ℕ, List, [], Bool, true, false, ◌&&◌, ◌||◌, nat_lt, nat_le}
use Rattle.std.specs.List.{list_all}
use Rattle.tb_model.specs.Names.{Name}
use Rattle.tb_model.specs.declared.action.Action.{Action}
use Rattle.tb_model.specs.declared.action.Action.TheVariants.{Spawn, Wait}
use Rattle.tb_model.specs.declared.entry.Entry.{Entry}
use Rattle.tb_model.specs.declared.entry.Entry.TheVariants.{Opened, Stepped, Rolled}

-- the entries, the oldest first, for how many more there is capacity, and whose turn it is
pub record Written : Type 0 where
  pub items : List Entry
  pub room : ℕ
  pub turn : Name

-- whose entry it is
abbrev pub seat_of : Entry → ℕ
seat_of Opened = 0
seat_of (Stepped seat v) = seat
seat_of (Rolled seat e) = seat

-- each entry is of a seat below n
abbrev pub all_below : ℕ → List Entry → Bool
all_below n es = list_all (λ e. nat_lt (seat_of e) n) es

abbrev pub is_step : Entry → Bool
is_step (Stepped seat v) = true
is_step _ = false

-- a step of one of so many workers
abbrev pub is_turn : ℕ → Entry → Bool
is_turn workers e = is_step e && (nat_le 1 (seat_of e) && nat_le (seat_of e) workers)

-- the action has a name or a list of its own
abbrev pub is_long : Action → Bool
is_long (Spawn s) = true
is_long (Wait []) = false
is_long (Wait items) = true
is_long _ = false

-- a step of the seat with this action has to be handed over whole: its entry shares the
-- action's memory, or is stored out of line
abbrev pub stands_apart : ℕ → Action → Bool
stands_apart seat a = nat_le 256 seat || is_long a
