-- Receipts that grow by steps of a seat's own.
use Rattle.std.specs.Prelude.{ℕ, ◌≡◌, ◌<◌, List, [], ◌∷◌, ◌++◌, Bool, true, false, ◌&&◌, nat_eq, length, slice_index_or}
use Rattle.tb_model.specs.declared.entry.Entry.{Entry}
use Rattle.tb_model.specs.declared.entry.Entry.TheVariants.{Opened, Stepped, Rolled}
use Rattle.tb_work.specs.declared.receipt.Receipt.{Receipt}
use Rattle.tb_work.specs.Receipts.{Seated}

abbrev pub is_step_of : ℕ → Entry → Bool
is_step_of seat Opened = false
is_step_of seat (Stepped s v) = nat_eq s seat
is_step_of seat (Rolled s i) = false

abbrev pub all_steps_of : ℕ → List Receipt → Bool
all_steps_of seat [] = true
all_steps_of seat (r ∷ rs) = is_step_of seat r.entry && all_steps_of seat rs

-- the seat retained its number, and its receipts grew at the end by steps of its own
pub record GrewBySteps (old new : Seated) : Type 0 where
  pub number : new.number ≡ old.number
  pub more : List Receipt
  pub receipts : new.receipts ≡ old.receipts ++ more
  pub steps : all_steps_of old.number more ≡ true

-- each seat grew by steps of its own
abbrev pub AllGrew : List Seated → List Seated → Type 0
AllGrew old new = (i : ℕ) (d : Seated) → i < length old → GrewBySteps (slice_index_or old i d) (slice_index_or new i d)
