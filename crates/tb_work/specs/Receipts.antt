-- Receipts: the slots of a journal at which a seat made entries, and these entries.
use Rattle.std.specs.Prelude.{ℕ, ◌<◌, ◌≡◌, List, [], ◌∷◌, ◌++◌, Bool, true, ◌&&◌, nat_lt, nat_eq, length, suc, slice_index_or, Option, Some, None, if◌then◌else◌, flat_map}
use Rattle.std.specs.List.{sum_by}
use Rattle.tb_model.specs.declared.entry.Entry.{Entry}
use Rattle.tb_journal.specs.Journals.{seat_of}
use Rattle.tb_work.specs.declared.receipt.Receipt.{Receipt}

-- what a contract sees of a seat
pub record Seated : Type 0 where
  pub number : ℕ
  pub receipts : List Receipt

abbrev pub receipt : ℕ → Entry → Receipt
receipt place entry = record { place = place; entry = entry }

-- the slot of the last receipt, or n
abbrev pub last_from : ℕ → List Receipt → ℕ
last_from n [] = n
last_from n (r ∷ rs) = last_from r.place rs

-- each slot is above the one before, and the first above n
abbrev pub rises_from : ℕ → List Receipt → Bool
rises_from n [] = true
rises_from n (r ∷ rs) = nat_lt n r.place && rises_from r.place rs

-- each entry is this seat's
abbrev pub all_of : ℕ → List Receipt → Bool
all_of seat [] = true
all_of seat (r ∷ rs) = nat_eq (seat_of r.entry) seat && all_of seat rs

-- the slots of a seat's receipts rise, and their entries are the seat's
pub record IsRow (s : Seated) : Type 0 where
  pub rises : rises_from 0 s.receipts ≡ true
  pub own : all_of s.number s.receipts ≡ true

-- ---- receipts that grow

-- a change of the seat was made: its receipts grew by this entry, at a slot above the last one
pub record Grew (old new : Seated) (place : ℕ) (entry : Entry) : Type 0 where
  pub number : new.number ≡ old.number
  pub receipts : new.receipts ≡ old.receipts ++ receipt place entry ∷ []
  pub above : last_from 0 old.receipts < place

-- ---- the seats of a team

-- seat i has the number i
abbrev pub HaveNumbers : List Seated → Type 0
HaveNumbers seats = (i : ℕ) (d : Seated) → i < length seats → (slice_index_or seats i d).number ≡ i

-- no two seats have one number
abbrev pub HaveOwnNumbers : List Seated → Type 0
HaveOwnNumbers seats = (i j : ℕ) (d : Seated) → i < length seats → j < length seats → (slice_index_or seats i d).number ≡ (slice_index_or seats j d).number → i ≡ j

-- each seat's last slot is below n
abbrev pub AreBelow : ℕ → List Seated → Type 0
AreBelow n seats = (i : ℕ) (d : Seated) → i < length seats → last_from 0 (slice_index_or seats i d).receipts < n

-- how many receipts there are
abbrev pub receipts_in : List Seated → ℕ
receipts_in seats = sum_by (λ s. length s.receipts) seats

-- all receipts of all seats
abbrev pub all_receipts : List Seated → List Receipt
all_receipts seats = flat_map (λ s. s.receipts) seats

-- ---- receipts against the journal, listed from its oldest entry

-- the first slot that is not below n
abbrev pub first_gap : ℕ → List Receipt → Option ℕ
first_gap n [] = None
first_gap n (r ∷ rs) = (if nat_lt r.place n then first_gap n rs else Some r.place)

-- where the journal has its slot, the receipt's entry is the journal's there
abbrev pub Stands : List Entry → Receipt → Type 0
Stands entries r = r.place < length entries → slice_index_or entries r.place r.entry ≡ r.entry

-- each entry with its slot, from slot n on
abbrev pub receipts_from : ℕ → List Entry → List Receipt
receipts_from n [] = []
receipts_from n (e ∷ es) = receipt n e ∷ receipts_from (suc n) es
