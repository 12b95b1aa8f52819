-- What blocks a task in small histories, by computation.
use Rattle.std.proofs.Common.{◌≡◌, List, [], ◌∷◌, refl, ℤ, true, false, Some, None}
use Rattle.tb_model.specs.declared.kind.Kind.{Kind}
use Rattle.tb_model.specs.declared.kind.Kind.TheVariants.{In, Out, Mutexinoutset}
use Rattle.tb_model.specs.declared.place.Place.TheVariants.{Cell}
use Rattle.tb_model.specs.declared.item.Item.{Item}
use Rattle.tb_model.specs.declared.action.Action.{Action}
use Rattle.tb_model.specs.declared.action.Action.TheVariants.{Start, Load, Store, Print, Spawn, Wait, Open, Close, End, Fault}
use Rattle.tb_model.specs.declared.event.Event.{Event}
use Rattle.tb_model.specs.declared.operand.Operand.TheVariants.{Number}
use Rattle.tb_model.specs.declared.statement.Statement.TheVariants.{Start as DoStart, Load as DoLoad, Task as DoSpawn, Taskwait as DoWait, End as DoEnd}
use Rattle.tb_model.specs.Names.{Name}
use Rattle.tb_model.specs.Facts.{History}
use Rattle.tb_model.specs.Program.{Program}
use Rattle.tb_model.specs.Hindrances.{least_where, in_the_way, Undeferred, Waiting, Excluded, Children, Group, NoSuchTask, Ended, By, refusal_of, next_action, least_ready}

abbrev by : Name → Action → Event
by t a = record { task = t; action = a }

abbrev one : Name
one = 1 ∷ []

abbrev two : Name
two = 2 ∷ []

abbrev three : Name
three = 3 ∷ []

abbrev four : Name
four = 4 ∷ []

abbrev on : Kind → List Item
on k = record { kind = k; place = Cell 0 } ∷ []

-- 0.9 comes in front of 0.10, and 0.1.1 in front of 0.2
by_number : least_where (λ t. true) ((10 ∷ []) ∷ (9 ∷ []) ∷ []) ≡ Some (9 ∷ [])
by_number = refl

by_parent : least_where (λ t. true) (two ∷ (1 ∷ one) ∷ []) ≡ Some (1 ∷ one)
by_parent = refl

-- ---- one hindrance of each kind

-- 0.1 and 0.2 are `in`, 0.3 is `out`, and 0.4 is after it
abbrev chain : History
chain =
    by [] (Spawn (record { child = four; body = 5; args = []; items = on In; deferred = true })) ∷ by [] (Spawn (record { child = three; body = 5; args = []; items = on Out; deferred = true })) ∷ by [] (Spawn (record { child = two; body = 5; args = []; items = on In; deferred = true }))
    ∷ by [] (Spawn (record { child = one; body = 5; args = []; items = on In; deferred = true })) ∷ by [] Start ∷ []

first_reader_is_free : in_the_way chain one Start ≡ None
first_reader_is_free = refl

writer_waits : in_the_way chain three Start ≡ Some (Waiting one)
writer_waits = refl

-- a fault is an end
waits_for_the_other : in_the_way (by one Fault ∷ by one Start ∷ chain) three Start ≡ Some (Waiting two)
waits_for_the_other = refl

-- a child that was generated blocks a wait, and no print
wait_for_all : in_the_way chain [] (Wait []) ≡ Some (Children one)
wait_for_all = refl

wait_for_writer : in_the_way chain [] (Wait (on In)) ≡ Some (Children three)
wait_for_writer = refl

print_is_free : in_the_way chain [] (Print (ℤ.pos 1)) ≡ None
print_is_free = refl

-- 0.1 and 0.2 exclude each other; who hasn't started excludes nobody
abbrev exclusive : History
exclusive =
    by [] (Spawn (record { child = two; body = 5; args = []; items = on Mutexinoutset; deferred = true })) ∷ by [] (Spawn (record { child = one; body = 5; args = []; items = on Mutexinoutset; deferred = true })) ∷ by [] Start ∷ []

free_to_start : in_the_way exclusive one Start ≡ None
free_to_start = refl

excluded_by_younger : in_the_way (by two Start ∷ exclusive) one Start ≡ Some (Excluded two)
excluded_by_younger = refl

free_behind_the_end : in_the_way (by two End ∷ by two Start ∷ exclusive) one Start ≡ None
free_behind_the_end = refl

-- 0.1 is generated in front of the group, 0.2 in it; its child is a member too
abbrev grouped : History
grouped =
    by two (Spawn (record { child = 1 ∷ two; body = 5; args = []; items = []; deferred = true })) ∷ by two Start ∷ by [] (Spawn (record { child = two; body = 5; args = []; items = []; deferred = true })) ∷ by [] Open
    ∷ by [] (Spawn (record { child = one; body = 5; args = []; items = []; deferred = true })) ∷ by [] Start ∷ []

member_first : in_the_way grouped [] Close ≡ Some (Group two)
member_first = refl

its_child_then : in_the_way (by two End ∷ grouped) [] Close ≡ Some (Group (1 ∷ two))
its_child_then = refl

-- the undeferred child comes first, whatever the action is
abbrev undeferred : History
undeferred = by [] (Spawn (record { child = two; body = 5; args = []; items = []; deferred = false })) ∷ by [] (Spawn (record { child = one; body = 5; args = []; items = []; deferred = true })) ∷ by [] Start ∷ []

stands_at_child : in_the_way undeferred [] End ≡ Some (Undeferred two)
stands_at_child = refl

child_before_wait : in_the_way undeferred [] (Wait []) ≡ Some (Undeferred two)
child_before_wait = refl

then_the_wait : in_the_way (by two End ∷ by two Start ∷ undeferred) [] (Wait []) ≡ Some (Children one)
then_the_wait = refl

-- ---- a program's next steps

-- cells 1 / body main 0 / task w / taskwait / load r0 0 / end, with an empty body w
abbrev program : Program
program = record {
  cells = ℤ.pos 6 ∷ [];
  bodies = [];
  lines =
      record { statement = DoStart; next = 1; otherwise = 1 }
      ∷ record { statement = DoSpawn 5 [] [] None; next = 2; otherwise = 2 }
      ∷ record { statement = DoWait []; next = 3; otherwise = 3 }
      ∷ record { statement = DoLoad 0 (Number (ℤ.pos 0)); next = 4; otherwise = 4 }
      ∷ record { statement = DoEnd; next = 4; otherwise = 4 }
      ∷ record { statement = DoStart; next = 6; otherwise = 6 }
      ∷ record { statement = DoEnd; next = 6; otherwise = 6 } ∷ [];
  root_line = 0;
}

abbrev spawned : History
spawned = by [] (Spawn (record { child = one; body = 5; args = []; items = []; deferred = true })) ∷ by [] Start ∷ []

abbrev worked : History
worked = by one End ∷ by one Start ∷ spawned

root_waits : refusal_of program spawned [] ≡ Some (By (Children one))
root_waits = refl

child_is_ready : least_ready program spawned ≡ Some one
child_is_ready = refl

no_such_task : refusal_of program spawned two ≡ Some NoSuchTask
no_such_task = refl

child_has_ended : refusal_of program worked one ≡ Some Ended
child_has_ended = refl

root_goes_on : least_ready program worked ≡ Some []
root_goes_on = refl

wait_is_next : next_action program worked [] ≡ Wait []
wait_is_next = refl

-- a load reads what was stored last, and the first value where nothing was
load_is_next : next_action program (by [] (Wait []) ∷ worked) [] ≡ Load 0 0 (ℤ.pos 6)
load_is_next = refl

load_reads_the_store : next_action program (by [] (Wait []) ∷ by one End ∷ by one (Store 0 (ℤ.pos 9)) ∷ by one Start ∷ spawned) [] ≡ Load 0 0 (ℤ.pos 9)
load_reads_the_store = refl

none_is_ready : least_ready program (by [] End ∷ by [] (Load 0 0 (ℤ.pos 6)) ∷ by [] (Wait []) ∷ worked) ≡ None
none_is_ready = refl
