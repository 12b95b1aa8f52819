-- Small histories, by computation: no definition is empty, and each says what it should.
use Rattle.std.proofs.Common.{◌≡◌, List, [], ◌∷◌, refl, ℤ, true, false, Some, ℕ, zero, suc, arith}
use Rattle.std.proofs.lemmas.Bool.{false≢true}
use Rattle.tb_model.specs.declared.kind.Kind.{Kind}
use Rattle.tb_model.specs.declared.kind.Kind.TheVariants.{In, Out, Mutexinoutset, Inoutset}
use Rattle.tb_model.specs.declared.place.Place.{Place}
use Rattle.tb_model.specs.declared.place.Place.TheVariants.{Cell, All}
use Rattle.tb_model.specs.declared.item.Item.{Item}
use Rattle.tb_model.specs.declared.action.Action.{Action}
use Rattle.tb_model.specs.declared.action.Action.TheVariants.{Start, Let, Load, Store, Print, Spawn, Wait, Open, Close, End, Fault}
use Rattle.tb_model.specs.declared.event.Event.{Event}
use Rattle.tb_model.specs.declared.operand.Operand.TheVariants.{Number, Register}
use Rattle.tb_model.specs.declared.comparison.Comparison.TheVariants.{Equal}
use Rattle.tb_model.specs.declared.address.Address.TheVariants.{Cell as At, All as Everywhere}
use Rattle.tb_model.specs.declared.statement.Statement.TheVariants.{Start as DoStart, Store as DoStore, Print as DoPrint, End as DoEnd, Task as DoSpawn, Taskwait as DoWait}
use Rattle.tb_model.specs.Names.{Name}
use Rattle.tb_model.specs.Facts.{History, before, apart, is_member, covers, last}
use Rattle.tb_model.specs.State.{open_groups, children_since, is_unended_child, is_unended_undeferred}
use Rattle.tb_model.specs.Records.{replaced_by}
use Rattle.tb_model.specs.Needs.{removed, without}
use Rattle.tb_model.specs.Program.{IsNext, Instr, Program, planned, instr_at}
use Rattle.tb_model.specs.declared.entry.Entry.{Entry}
use Rattle.tb_model.specs.declared.entry.Entry.TheVariants.{Opened, Stepped, Rolled}
use Rattle.tb_model.specs.Journal.{Sound, hist}
use Rattle.tb_model.specs.WellFormed.{WellAt, WellFormed}

abbrev by : Name → Action → Event
by t a = record { task = t; action = a }

abbrev one : Name
one = 1 ∷ []

abbrev two : Name
two = 2 ∷ []

abbrev on : Kind → Place → Item
on k p = record { kind = k; place = p }

-- ---- needs and rollback

-- the root generates 0.1 and 0.2; 0.1 loads cell 0, and 0.2 stores to it
abbrev race : History
race =
    by two (Store 0 (ℤ.pos 9)) ∷ by two (Let 0 (ℤ.pos 1)) ∷ by two Start ∷ by one (Load 0 0 (ℤ.pos 5)) ∷ by one Start ∷ by [] (Spawn (record { child = two; body = 8; args = []; items = []; deferred = true })) ∷ by [] (Spawn (record { child = one; body = 5; args = []; items = []; deferred = true })) ∷ by [] Start ∷ []

-- the store needs the load, so both go
load_takes_store : removed (record { task = one; k = 2 }) race ≡ by two (Store 0 (ℤ.pos 9)) ∷ by one (Load 0 0 (ℤ.pos 5)) ∷ []
load_takes_store = refl

-- a chosen step of one task leaves the other task's steps
let_leaves_the_rest : removed (record { task = two; k = 2 }) race ≡ by two (Store 0 (ℤ.pos 9)) ∷ by two (Let 0 (ℤ.pos 1)) ∷ []
let_leaves_the_rest = refl

-- without the spawn of 0.1 there is no 0.1, no later step of the root, and no 0.2
spawn_takes_children : without (record { task = []; k = 2 }) race ≡ by [] Start ∷ []
spawn_takes_children = refl

-- the store replaced the first value of cell 0, and is its last one
store_replaces : replaced_by (ℤ.pos 5 ∷ []) (by two Start ∷ []) (by two (Store 0 (ℤ.pos 9))) ≡ Some (ℤ.pos 5)
store_replaces = refl

store_is_last : last (ℤ.pos 5) 0 race ≡ ℤ.pos 9
store_is_last = refl

-- three prints in a row: the middle one takes the last with it
abbrev prints : History
prints =
    by (3 ∷ []) (Print (ℤ.pos 3)) ∷ by (3 ∷ []) Start ∷ by two (Print (ℤ.pos 2)) ∷ by two Start ∷ by one (Print (ℤ.pos 1)) ∷ by one Start ∷ []

print_takes_later_print : removed (record { task = two; k = 2 }) prints ≡ by (3 ∷ []) (Print (ℤ.pos 3)) ∷ by two (Print (ℤ.pos 2)) ∷ []
print_takes_later_print = refl

-- a journal of two steps, of which the second was rolled back
journal_history : hist (Rolled 0 (record { task = []; k = 2 }) ∷ Stepped 1 (by [] (Print (ℤ.pos 7))) ∷ Stepped 0 (by [] Start) ∷ Opened ∷ []) ≡ by [] Start ∷ []
journal_history = refl

-- ---- siblings and groups

-- 0.2 is `out` where 0.1 is `in`; 0.3 and 0.4 exclude each other
abbrev siblings : History
siblings =
    by [] (Spawn (record { child = 4 ∷ []; body = 5; args = []; items = on Mutexinoutset (Cell 1) ∷ []; deferred = true }))
    ∷ by [] (Spawn (record { child = 3 ∷ []; body = 5; args = []; items = on Mutexinoutset (Cell 1) ∷ []; deferred = true }))
    ∷ by [] (Spawn (record { child = two; body = 5; args = []; items = on Out (Cell 0) ∷ []; deferred = true }))
    ∷ by [] (Spawn (record { child = one; body = 5; args = []; items = on In (Cell 0) ∷ []; deferred = true })) ∷ by [] Start ∷ []

out_behind_in : before siblings one two ≡ true
out_behind_in = refl

not_apart : apart siblings one two ≡ false
not_apart = refl

not_before : before siblings (3 ∷ []) (4 ∷ []) ≡ false
not_before = refl

excluding : apart siblings (4 ∷ []) (3 ∷ []) ≡ true
excluding = refl

-- two groups, of which the inner one is closed again; 0.1 was generated in front of them
abbrev grouped : List Action
grouped = Spawn (record { child = two; body = 5; args = []; items = []; deferred = true }) ∷ Close ∷ Open ∷ Open ∷ Spawn (record { child = one; body = 5; args = []; items = []; deferred = true }) ∷ Start ∷ []

-- a member's child is a member; a child of before the group isn't
grandchild : is_member grouped (7 ∷ two) ≡ true
grandchild = refl

outside : is_member grouped one ≡ false
outside = refl

outer_is_open : open_groups grouped ≡ 3 ∷ []
outer_is_open = refl

outer_children : children_since 3 grouped ≡ two ∷ []
outer_children = refl

-- ---- undeferred tasks, waits with items, all memory

-- the root generates 0.1 undeferred, which stores and ends; then the root prints
abbrev stood : History
stood = by [] (Spawn (record { child = one; body = 6; args = ℤ.pos 1 ∷ []; items = []; deferred = false })) ∷ by [] Start ∷ []

abbrev undeferred : History
undeferred = by [] (Print (ℤ.pos 9)) ∷ by one End ∷ by one (Store 0 (ℤ.pos 1)) ∷ by one Start ∷ stood

print_needs_end : removed (record { task = one; k = 3 }) undeferred ≡ by [] (Print (ℤ.pos 9)) ∷ by one End ∷ []
print_needs_end = refl

stands_at_it : is_unended_undeferred stood [] one ≡ true
stands_at_it = refl

-- a deferred one isn't waited for
abbrev deferred : History
deferred =
    by [] (Print (ℤ.pos 9)) ∷ by one End ∷ by one Start ∷ by [] (Spawn (record { child = one; body = 6; args = []; items = []; deferred = true })) ∷ by [] Start ∷ []

print_is_free : removed (record { task = one; k = 2 }) deferred ≡ by one End ∷ []
print_is_free = refl

-- 0.1 is `out` of cell 0, 0.2 of cell 1; a wait with `in` of cell 1 covers 0.2 alone
abbrev pair : History
pair =
    by [] (Spawn (record { child = two; body = 6; args = []; items = on Out (Cell 1) ∷ []; deferred = true })) ∷ by [] (Spawn (record { child = one; body = 6; args = []; items = on Out (Cell 0) ∷ []; deferred = true })) ∷ by [] Start ∷ []

two_covered : covers pair [] (on In (Cell 1) ∷ []) two ≡ true
two_covered = refl

one_uncovered : covers pair [] (on In (Cell 1) ∷ []) one ≡ false
one_uncovered = refl

each_covered : covers pair [] [] one ≡ true
each_covered = refl

all_memory_covers : covers pair [] (on Out All ∷ []) one ≡ true
all_memory_covers = refl

one_unended : is_unended_child pair [] one ≡ true
one_unended = refl

-- both have ended; the wait needs the end of 0.2 alone
abbrev waited : History
waited =
    by [] (Wait (on In (Cell 1) ∷ [])) ∷ by one End ∷ by one Start ∷ by two End ∷ by two Start ∷ pair

end_of_covered : removed (record { task = two; k = 2 }) waited ≡ by [] (Wait (on In (Cell 1) ∷ [])) ∷ by two End ∷ []
end_of_covered = refl

end_of_uncovered : removed (record { task = one; k = 2 }) waited ≡ by one End ∷ []
end_of_uncovered = refl

-- `in` of cell 0, `out` of all memory, `inoutset` of cell 1: the second comes after the first and
-- the third after the second
abbrev memory : History
memory =
    by [] (Spawn (record { child = 3 ∷ []; body = 6; args = []; items = on Inoutset (Cell 1) ∷ []; deferred = true }))
    ∷ by [] (Spawn (record { child = two; body = 6; args = []; items = on Out All ∷ []; deferred = true }))
    ∷ by [] (Spawn (record { child = one; body = 6; args = []; items = on In (Cell 0) ∷ []; deferred = true })) ∷ by [] Start ∷ []

all_behind : before memory one two ≡ true
all_behind = refl

behind_all : before memory two (3 ∷ []) ≡ true
behind_all = refl

first_free : before memory one (3 ∷ []) ≡ false
first_free = refl

-- ---- a program

-- a line `task a 1 if 1 == 2`, a wait with `in` of r0 and `out` of all memory, and one with a bad address
abbrev lines : List Instr
lines =
    record { statement = DoStart; next = 1; otherwise = 1 }
    ∷ record { statement = DoSpawn 0 (Number (ℤ.pos 1) ∷ []) [] (Some (record { left = Number (ℤ.pos 1); comparison = Equal; right = Number (ℤ.pos 2) })); next = 2; otherwise = 2 }
    ∷ record { statement = DoWait (record { kind = In; address = At (Register 0) } ∷ record { kind = Out; address = Everywhere } ∷ []); next = 3; otherwise = 3 }
    ∷ record { statement = DoWait (record { kind = In; address = At (Number (ℤ.pos 7)) } ∷ []); next = 4; otherwise = 4 } ∷ []

abbrev program : Program
program = record { cells = ℤ.pos 0 ∷ []; bodies = []; lines = lines; root_line = 0 }

spawn_undeferred : planned program (by [] Start ∷ []) [] (ℤ.pos 0) ≡ Spawn (record { child = one; body = 0; args = ℤ.pos 1 ∷ []; items = []; deferred = false })
spawn_undeferred = refl

abbrev spawned : History
spawned = by [] (Spawn (record { child = one; body = 0; args = ℤ.pos 1 ∷ []; items = []; deferred = false })) ∷ by [] Start ∷ []

wait_on : planned program spawned [] (ℤ.pos 0) ≡ Wait (on In (Cell 0) ∷ on Out All ∷ [])
wait_on = refl

bad_address : planned program (by [] (Wait (on In (Cell 0) ∷ on Out All ∷ [])) ∷ spawned) [] (ℤ.pos 0) ≡ Fault
bad_address = refl

-- the program is well formed
small_lines : (line : ℕ) → WellAt program (λ n. 0) 0 (instr_at program line).next (instr_at program line).otherwise (instr_at program line).statement
small_lines zero = record { groups_open = refl; within = refl }
small_lines (suc zero) = (refl, omega arith, record { groups_open = refl; within = refl })
small_lines (suc (suc zero)) = record { groups_open = refl; within = refl }
small_lines (suc (suc (suc zero))) = record { groups_open = refl; within = refl }
small_lines (suc (suc (suc (suc n)))) = tt

small : WellFormed program
small = record { depth = λ n. 0; root = refl; lines = small_lines }

-- ---- a run

-- cells 1 / body main 0 / store 0 7 / print 7 / end
abbrev small_program : Program
small_program = record {
  cells = ℤ.pos 0 ∷ [];
  bodies = [];
  lines =
      record { statement = DoStart; next = 1; otherwise = 1 }
      ∷ record { statement = DoStore (Number (ℤ.pos 0)) (Number (ℤ.pos 7)); next = 2; otherwise = 2 }
      ∷ record { statement = DoPrint (Number (ℤ.pos 7)); next = 3; otherwise = 3 }
      ∷ record { statement = DoEnd; next = 3; otherwise = 3 } ∷ [];
  root_line = 0;
}

abbrev begun : History
begun = by [] Start ∷ []

abbrev filled : History
filled = by [] (Store 0 (ℤ.pos 7)) ∷ begun

first_next : IsNext small_program [] (by [] Start)
first_next = record {
  may = record { own = refl; resumed = λ u h. absurd (false≢true h); timely = record { spawned = refl; behind = λ u h. absurd (nobody_before u h); alone = λ u h s. absurd (false≢true s) } };
  follows = refl;
}
  where
    nobody_before : (u : Name) → before [] u [] ≡ true → ⊥
    nobody_before [] h = false≢true h
    nobody_before (n ∷ u) h = false≢true h

store_next : IsNext small_program begun (by [] (Store 0 (ℤ.pos 7)))
store_next = record { may = record { own = (refl, omega arith); resumed = λ u h. absurd (false≢true h); timely = tt }; follows = refl }

print_next : IsNext small_program filled (by [] (Print (ℤ.pos 7)))
print_next = record { may = record { own = refl; resumed = λ u h. absurd (false≢true h); timely = tt }; follows = refl }

-- three steps, and the rollback of the store, which takes the print with it
abbrev small_journal : List Entry
small_journal =
    Rolled 0 (record { task = []; k = 2 }) ∷ Stepped 1 (by [] (Print (ℤ.pos 7))) ∷ Stepped 0 (by [] (Store 0 (ℤ.pos 7))) ∷ Stepped 0 (by [] Start) ∷ Opened ∷ []

small_sound : Sound small_program small_journal
small_sound = ((((refl, first_next), store_next), print_next), refl)

small_left : hist small_journal ≡ begun
small_left = refl
