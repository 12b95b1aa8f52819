-- What an entry in few bytes means, when one more is stored out of line, and whoever its task is.
use Rattle.std.proofs.Common.{◌≡◌, ◌≤◌, ℕ, arith, List, [], ◌∷◌, ◌++◌, length, refl}
use Rattle.tb_model.specs.Names.{Name}
use Rattle.std.specs.List.{AllByRecursion}
use Rattle.std.proofs.lemmas.List.{get_or_append_left}
use Rattle.tb_model.specs.declared.entry.Entry.{Entry}
use Rattle.tb_model.specs.declared.entry.Entry.TheVariants.{Opened}
use Rattle.tb_journal.specs.declared.compact.Compact.{Compact}
use Rattle.tb_journal.specs.declared.compact.Compact.TheVariants.{Apart, Started, Set, Loaded, Stored, Printed, Generated, Waited, WaitedFor, Entered, Left, Tested, Ended, Faulted, RolledBack}
use Rattle.tb_journal.specs.Compact.{entry_of, IsThere}
use Rattle.tb_journal.specs.Journals.{is_step, seat_of}

-- an entry in few bytes means the same when one more is stored out of line
pub one_kept : (apart : List Entry) (e : Entry) (t : Name) (k : Compact) → IsThere (length apart) k → entry_of (apart ++ e ∷ []) t k ≡ entry_of apart t k
one_kept apart e t (Apart i) there = get_or_append_left apart (e ∷ []) Opened i there
one_kept apart e t (Started seat) there = refl
one_kept apart e t (Set reg seat value) there = refl
one_kept apart e t (Loaded reg seat cell value) there = refl
one_kept apart e t (Stored seat cell value) there = refl
one_kept apart e t (Printed seat value) there = refl
one_kept apart e t (Generated seat s) there = refl
one_kept apart e t (Waited seat) there = refl
one_kept apart e t (WaitedFor seat items) there = refl
one_kept apart e t (Entered seat) there = refl
one_kept apart e t (Left seat) there = refl
one_kept apart e t (Tested met seat) there = refl
one_kept apart e t (Ended seat) there = refl
one_kept apart e t (Faulted seat) there = refl
one_kept apart e t (RolledBack seat k) there = refl

-- whose seat's entry it is, and whether it is a step, aren't asked of its task
pub record AreSame (e f : Entry) : Type 0 where
  pub seat : seat_of e ≡ seat_of f
  pub step : is_step e ≡ is_step f

pub same_beside : (apart : List Entry) (t u : Name) (k : Compact) → AreSame (entry_of apart t k) (entry_of apart u k)
same_beside apart t u (Apart i) = record { seat = refl; step = refl }
same_beside apart t u (Started seat) = record { seat = refl; step = refl }
same_beside apart t u (Set reg seat value) = record { seat = refl; step = refl }
same_beside apart t u (Loaded reg seat cell value) = record { seat = refl; step = refl }
same_beside apart t u (Stored seat cell value) = record { seat = refl; step = refl }
same_beside apart t u (Printed seat value) = record { seat = refl; step = refl }
same_beside apart t u (Generated seat s) = record { seat = refl; step = refl }
same_beside apart t u (Waited seat) = record { seat = refl; step = refl }
same_beside apart t u (WaitedFor seat items) = record { seat = refl; step = refl }
same_beside apart t u (Entered seat) = record { seat = refl; step = refl }
same_beside apart t u (Left seat) = record { seat = refl; step = refl }
same_beside apart t u (Tested met seat) = record { seat = refl; step = refl }
same_beside apart t u (Ended seat) = record { seat = refl; step = refl }
same_beside apart t u (Faulted seat) = record { seat = refl; step = refl }
same_beside apart t u (RolledBack seat k) = record { seat = refl; step = refl }

-- what is there stays there when more is stored out of line
pub there_grows : (m n : ℕ) → m ≤ n → (k : Compact) → IsThere m k → IsThere n k
there_grows m n more (Apart i) there = omega (arith, more, there)
there_grows m n more (Started seat) there = there
there_grows m n more (Set reg seat value) there = there
there_grows m n more (Loaded reg seat cell value) there = there
there_grows m n more (Stored seat cell value) there = there
there_grows m n more (Printed seat value) there = there
there_grows m n more (Generated seat s) there = there
there_grows m n more (Waited seat) there = there
there_grows m n more (WaitedFor seat items) there = there
there_grows m n more (Entered seat) there = there
there_grows m n more (Left seat) there = there
there_grows m n more (Tested met seat) there = there
there_grows m n more (Ended seat) there = there
there_grows m n more (Faulted seat) there = there
there_grows m n more (RolledBack seat k) there = there

-- all are there still, and so is one more
pub one_more_there : (m n : ℕ) → m ≤ n → (ks : List Compact) (k : Compact) → AllByRecursion (IsThere m) ks → IsThere n k → AllByRecursion (IsThere n) (ks ++ k ∷ [])
one_more_there m n more [] k there new = (new, tt)
one_more_there m n more (x ∷ ks) k there new = (there_grows m n more x there.0, one_more_there m n more ks k there.1 new)
