-- What a contract sees of the table of waits: what it retains of each task that is there.
use Rattle.std.specs.Prelude.{◌≡◌, ◌≢◌, ◌<◌, ◌≤◌, ◌-◌, ◌⊎◌, ℕ, suc, Bool, true, false, not, ◌&&◌, List, [], ◌∷◌, Option, Some, None, is_some, if◌then◌else◌, ◌==◌, ◌++◌, position}
use Rattle.std.specs.Option.{option_map}
use Rattle.std.specs.Map.{lookup, keys_of}
use Rattle.tb_model.specs.Names.{Name, child, same_name, is_child}
use Rattle.tb_model.specs.Siblings.{is_later}

-- what is stored of a task: whether it is over, the ordinal of its last child, and what that
-- ordinal was at the beginning of each open group, the innermost first, and of each closed group,
-- the last closed first
pub record Kin : Type 0 where
  pub over : Bool
  pub children : ℕ
  pub groups : List ℕ
  pub shut : List ℕ

-- a task that was ever generated: what is stored of it while it is there, and how many more
-- children and groups of it fit with no memory
pub record Slot : Type 0 where
  pub kin : Option Kin
  pub child_room : ℕ
  pub group_room : ℕ

-- the tasks that were ever generated, in no order that matters
abbrev pub Tasks : Type 0
Tasks = List (Name × Slot)

-- the tasks, and how many names that were never generated fit with no memory
pub record Table : Type 0 where
  pub tasks : Tasks
  pub room : ℕ

abbrev pub slot : Tasks → Name → Option Slot
slot tasks t = lookup (same_name t) tasks

abbrev pub kin_in : Option Slot → Option Kin
kin_in None = None
kin_in (Some s) = s.kin

-- what is stored of t, and None where t isn't there
abbrev pub kin : Tasks → Name → Option Kin
kin tasks t = kin_in (slot tasks t)

-- t was ever generated, so it has its capacity
abbrev pub is_known : Tasks → Name → Bool
is_known tasks t = is_some (slot tasks t)

-- ---- changes of one task

-- a task that was just generated
abbrev pub fresh : Kin
fresh = record { over = false; children = 0; groups = []; shut = [] }

abbrev pub with_over : Bool → Kin → Kin
with_over b k = record k { over = b }

abbrev pub with_children : ℕ → Kin → Kin
with_children n k = record k { children = n }

-- a list without its first, and that first in front of another
abbrev pub rest_of : List ℕ → List ℕ
rest_of [] = []
rest_of (x ∷ xs) = xs

abbrev pub moved : List ℕ → List ℕ → List ℕ
moved [] to = to
moved (x ∷ xs) to = x ∷ to

abbrev pub opened_kin : Kin → Kin
opened_kin k = record k { groups = k.children ∷ k.groups }

abbrev pub unopened_kin : Kin → Kin
unopened_kin k = record k { groups = rest_of k.groups }

abbrev pub closed_kin : Kin → Kin
closed_kin k = record k { groups = rest_of k.groups; shut = moved k.groups k.shut }

abbrev pub unclosed_kin : Kin → Kin
unclosed_kin k = record k { groups = moved k.shut k.groups; shut = rest_of k.shut }

-- ---- changes of the table

-- this task's part changes so, where it is, and no other's
abbrev pub Changes : Tasks → Name → (Kin → Kin) → Tasks → Type 0
Changes old t f new = (u : Name) → kin new u ≡ (if same_name t u then option_map f (kin old u) else kin old u)

-- all is as before
abbrev pub IsSame : Tasks → Tasks → Type 0
IsSame old new = (u : Name) → kin new u ≡ kin old u

-- a child more, and one less
abbrev pub one_more : Kin → Kin
one_more k = with_children (suc k.children) k

abbrev pub one_less : Kin → Kin
one_less k = with_children (k.children - 1) k

-- the child c of p comes to be
abbrev pub Adds : Tasks → Name → Name → Tasks → Type 0
Adds old p c new = (u : Name) →
    kin new u ≡ (if same_name c u then Some fresh else if same_name p u then option_map one_more (kin old u) else kin old u)

-- the child c of p is no longer there
abbrev pub Drops : Tasks → Name → Name → Tasks → Type 0
Drops old p c new = (u : Name) →
    kin new u ≡ (if same_name c u then None else if same_name p u then option_map one_less (kin old u) else kin old u)

-- p is there, and c is the next child that it generates
abbrev pub IsNext : Tasks → Name → Name → Type 0
IsNext tasks p c = (k : Kin) × (kin tasks p ≡ Some k) × (c ≡ suc k.children ∷ p)

-- p is there, and c is its last child, of which nothing is retained yet
abbrev pub IsLast : Tasks → Name → Name → Type 0
IsLast tasks p c = (k : Kin) × (n : ℕ) × (kin tasks p ≡ Some k) × (k.children ≡ suc n) × (c ≡ suc n ∷ p) × (kin tasks c ≡ Some fresh)

-- where t is among the names that were ever there
abbrev pub place : Tasks → Name → Option ℕ
place tasks t = position (same_name t) (keys_of tasks)

-- a name that was once there retains its index: others come after it
abbrev pub KeepsNames : Tasks → Tasks → Type 0
KeepsNames old new = (more : List Name) × (keys_of new ≡ keys_of old ++ more)

-- the very names, each at its index
abbrev pub HasSameNames : Tasks → Tasks → Type 0
HasSameNames old new = keys_of new ≡ keys_of old

-- the names with that of c, which comes last where it was never there
abbrev pub names_with : Tasks → Name → List Name
names_with tasks c = if is_known tasks c then keys_of tasks else keys_of tasks ++ c ∷ []

-- at least the capacity of the one row is there in the other
abbrev pub IsRoomIn : Slot → Option Slot → Type 0
IsRoomIn s None = ⊥
IsRoomIn s (Some r) = (s.child_room ≤ r.child_room) × (s.group_room ≤ r.group_room)

-- nothing loses its capacity, neither the table nor a task, and the names are those that there were
pub record KeepsRoom (old new : Table) : Type 0 where
  pub names : HasSameNames old.tasks new.tasks
  pub room : old.room ≤ new.room
  pub slots : (t : Name) (s : Slot) → slot old.tasks t ≡ Some s → IsRoomIn s (slot new.tasks t)

-- t, where it was ever generated, has capacity for one more group
abbrev pub HasGroupRoom : Tasks → Name → Type 0
HasGroupRoom tasks t = (s : Slot) → slot tasks t ≡ Some s → 0 < s.group_room

-- t, where it was ever generated, has capacity for one more child
abbrev pub HasChildRoom : Tasks → Name → Type 0
HasChildRoom tasks t = (s : Slot) → slot tasks t ≡ Some s → 0 < s.child_room

-- there is capacity for the child c of p: its name was once there, or there is capacity for one
-- more name and for one more child of p
abbrev pub HasRoomFor : Table → Name → Name → Type 0
HasRoomFor w p c = (is_known w.tasks c ≡ true) ⊎ ((0 < w.room) × HasChildRoom w.tasks p)

-- t is in an open group
abbrev pub HasOpenGroup : Tasks → Name → Type 0
HasOpenGroup tasks t = (k : Kin) × (kin tasks t ≡ Some k) × (k.groups ≢ [])

abbrev pub is_none : List ℕ → Bool
is_none [] = true
is_none (n ∷ ns) = false

-- the task is there, and nothing is stored of it yet
abbrev pub is_fresh : Option Kin → Bool
is_fresh None = false
is_fresh (Some k) = (not k.over && (k.children == 0)) && (is_none k.groups && is_none k.shut)

-- ---- who isn't done

-- t is there and isn't over
abbrev pub IsUnended : Tasks → Name → Type 0
IsUnended tasks t = (k : Kin) × (kin tasks t ≡ Some k) × (k.over ≡ false)

-- u is an unended child of t
abbrev pub IsUnendedChild : Tasks → Name → Name → Type 0
IsUnendedChild tasks t u = (is_child t u ≡ true) × IsUnended tasks u

-- the least ordinal above `low` of an unended child of t, and None exactly where there is none
pub record IsNextUnended (tasks : Tasks) (t : Name) (low : ℕ) (o : Option ℕ) : Type 0 where
  pub found : (n : ℕ) → o ≡ Some n → (low < n) × IsUnendedChild tasks t (child t n)
  pub least : (n : ℕ) → low < n → IsUnendedChild tasks t (child t n) → (m : ℕ) × (o ≡ Some m) × (m ≤ n)

-- m is an unended child of t with an ordinal above n, or an unended descendant of such a child
abbrev pub IsUnendedLater : Tasks → Name → ℕ → Name → Type 0
IsUnendedLater tasks t n m = (is_later t n m ≡ true) × IsUnended tasks m

abbrev pub first_of : List ℕ → Option ℕ
first_of [] = None
first_of (n ∷ ns) = Some n

-- m is an unended member of t's innermost open group
abbrev pub IsUnendedMember : Tasks → Name → Name → Type 0
IsUnendedMember tasks t m = (k : Kin) × (n : ℕ) × (kin tasks t ≡ Some k) × (first_of k.groups ≡ Some n) × IsUnendedLater tasks t n m
