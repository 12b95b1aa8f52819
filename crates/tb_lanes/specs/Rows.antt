-- The ends of a history by what a step may wait for.
use Rattle.std.specs.Prelude.{ℕ, ◌≡◌, ◌⊎◌, ◌<◌, ◌≤◌, ◌+◌, ◌-◌, List, [], Bool, false, ◌&&◌, ◌||◌, nat_eq, Option, Some, None, IsTrue, length, take, slice_get}
use Rattle.std.specs.Map.{lookup}
use Rattle.std.specs.List.{list_any}
use Rattle.tb_model.specs.declared.kind.Kind.{Kind}
use Rattle.tb_model.specs.declared.kind.Kind.TheVariants.{In, Out, Inout, Mutexinoutset, Inoutset}
use Rattle.tb_model.specs.declared.place.Place.{Place}
use Rattle.tb_model.specs.declared.place.Place.TheVariants.{Cell, All}
use Rattle.tb_model.specs.declared.item.Item.{Item}
use Rattle.tb_model.specs.Facts.{History, items_of, is_start}
use Rattle.tb_model.specs.Items.{relation, is_before, is_apart, same_place}
use Rattle.tb_steps.specs.Entries.{Entry}
use Rattle.tb_steps.specs.Scans.{AreLegal, history_of}
use Rattle.tb_races.specs.Kinds.{wait_kind}
use Rattle.tb_races.specs.Orders.{Order, counts_some}
use Rattle.tb_lanes.specs.declared.tasks.Tasks.{Tasks}
use Rattle.tb_lanes.specs.declared.clocks.Clocks.{Clocks}
use Rattle.tb_lanes.specs.declared.ends.Ends.{Ends}
use Rattle.tb_lanes.specs.declared.past.Past.{Past}
use Rattle.tb_lanes.specs.declared.joined.Joined.{Joined}
use Rattle.tb_lanes.specs.declared.waiter.Waiter.{Waiter}
use Rattle.tb_lanes.specs.Linking.{order_of}
use Rattle.tb_lanes.specs.Bounds.{AreRising, bound_among}
use Rattle.tb_lanes.specs.Needing.{IsBelow, IsLinkedEnd, place_at}
use Rattle.tb_lanes.specs.Clocks.{AddsEnd, AreClocks, AreEnds, AreRow, AreTasks, AreTied, IsEnd, IsJoined, IsLane, IsSound, end_at, is_told, lanes_of, links_at, number, origin, skip_at}

-- ---- keys

-- what the ends of a row have in common: the id of the task that generates theirs, and 0 and 0, or
-- an item of theirs, by a code and its cell
abbrev pub Key : Type 0
Key = ℕ × ℕ × ℕ

abbrev pub same_key : Key → Key → Bool
same_key x y = (nat_eq x.0 y.0 && nat_eq x.1 y.1) && nat_eq x.2 y.2

abbrev pub kind_number : Kind → ℕ
kind_number In = 1
kind_number Out = 3
kind_number Inout = 5
kind_number Mutexinoutset = 7
kind_number Inoutset = 9

abbrev pub item_key : ℕ → Kind → Place → Key
item_key g kind (Cell c) = (g, kind_number kind, c)
item_key g kind All = (g, kind_number kind + 1, 0)

abbrev pub child_key : ℕ → Key
child_key g = (g, 0, 0)

-- the id of the task that generates that of the step at p; the root counts as its own child
abbrev pub parent : Tasks → ℕ → ℕ
parent tasks p = number tasks (origin tasks p - 1)

abbrev pub items_so : History → Option Entry → List Item
items_so H None = []
items_so H (Some v) = items_of v.event.task H

-- the depend items of the task of the step at x
abbrev pub items_at : List Entry → ℕ → List Item
items_at entries x = items_so (history_of (take x entries)) (slice_get entries x)

-- the key is that of the children of the task g, or of an item among the first n
abbrev pub HasKey : ℕ → List Item → ℕ → Key → Type 0
HasKey g items n k = (k ≡ child_key g) ⊎ ((i : ℕ) × (j : Item) × (i < n) × (slice_get items i ≡ Some j) × (k ≡ item_key g j.kind j.place))

-- x is an end among the first n steps, and one of the row of this key
abbrev pub IsNoted : List Entry → Tasks → ℕ → Key → ℕ → Type 0
IsNoted entries tasks n k x = IsEnd entries n x × HasKey (parent tasks x) (items_at entries x) (length (items_at entries x)) k

-- ---- rows

-- a row of ends among the first n steps, as it is walked along
pub record IsRow (o : Order) (entries : List Entry) (n : ℕ) (ends : Ends) : Type 0 where
  pub each : (i : ℕ) → i < length ends.places.items → IsEnd entries n (end_at ends i)
  pub tied : AreTied o entries ends

abbrev pub Named : Type 0
Named = List (Key × Ends)

abbrev pub row_of : Named → Key → Option Ends
row_of rows k = lookup (same_key k) rows

-- the row is the one with these ends; where there is none, there are none
abbrev pub IsRowOf : Order → List Entry → (ℕ → Type 0) → Option Ends → Type 0
IsRowOf o entries P None = (x : ℕ) → P x → ⊥
IsRowOf o entries P (Some ends) = AreRow o entries P ends

abbrev pub AreRows : Order → List Entry → (Key → ℕ → Type 0) → Named → Type 0
AreRows o entries P rows = (k : Key) → IsRowOf o entries (P k) (row_of rows k)

-- the row can take the end at this index
pub record IsFit (at : ℕ) (ends : Ends) : Type 0 where
  pub low : (i : ℕ) → i < length ends.places.items → end_at ends i ≤ at
  pub listed : length ends.skips.items ≡ length ends.places.items
  pub skips : (i : ℕ) → i < length ends.places.items → skip_at ends i ≤ i

-- each row can take the end at this index
abbrev pub AreFit : ℕ → Named → Type 0
AreFit at rows = (k : Key) (ends : Ends) → row_of rows k ≡ Some ends → IsFit at ends

-- the end at p was added to the row
abbrev pub IsGrown : Tasks → Clocks → ℕ → Option Ends → Option Ends → Type 0
IsGrown tasks clocks p old None = ⊥
IsGrown tasks clocks p None (Some new) = (none : Ends) × (none.places.items ≡ []) × (none.skips.items ≡ []) × AddsEnd tasks clocks p none new
IsGrown tasks clocks p (Some old) (Some new) = AddsEnd tasks clocks p old new

-- the end was added to the row of this key
pub record AddsTo (tasks : Tasks) (clocks : Clocks) (key : Key) (p : ℕ) (old new : Named) : Type 0 where
  pub here : IsGrown tasks clocks p (row_of old key) (row_of new key)
  pub others : (k : Key) → same_key key k ≡ false → row_of new k ≡ row_of old k

-- ---- a step that waits

abbrev pub starts_so : Option Entry → Bool
starts_so None = false
starts_so (Some v) = is_start v.event.action

-- the step at p is a start
abbrev pub starts_at : List Entry → ℕ → Bool
starts_at entries p = starts_so (slice_get entries p)

-- whose children it waits for: a start siblings, others children
pub record IsFor (entries : List Entry) (tasks : Tasks) (w : Waiter) : Type 0 where
  pub start : IsTrue (starts_at entries w.at) → w.parent ≡ parent tasks w.at
  pub other : starts_at entries w.at ≡ false → w.parent ≡ number tasks w.at

-- the order is that of the steps in front of the one that waits
pub record IsPast (entries : List Entry) (tasks : Tasks) (past : Past) (n : ℕ) : Type 0 where
  pub clocks : AreClocks (order_of past.exclusion) entries tasks n past.clocks
  pub ends : AreEnds (order_of past.exclusion) entries n past.ends
  pub rows : AreRows (order_of past.exclusion) entries (IsNoted entries tasks n) past.rows.entries

pub record IsWaiting (entries : List Entry) (tasks : Tasks) (past : Past) (w : Waiter) : Type 0 where
  pub legal : AreLegal entries
  pub by_task : AreTasks entries tasks
  pub at : w.at < length entries
  pub front : IsPast entries tasks past w.at
  pub whose : IsFor entries tasks w
  pub lane : IsLane entries (lanes_of past.clocks) w.lane w.at
  pub from : (x : ℕ) → IsEnd entries w.at x → IsTrue (links_at (order_of past.exclusion) entries w.at x) → w.from ≤ x

-- what was joined is in front of the step, and so is what is in front of that
pub record AreJoined (entries : List Entry) (tasks : Tasks) (past : Past) (k p : ℕ) (j : Joined) : Type 0 where
  pub rising : AreRising j.rows.items
  pub sound : IsSound (order_of past.exclusion) entries tasks (lanes_of past.clocks) (bound_among j.rows.items) k p
  pub end : (x : ℕ) → j.end ≡ Some x → IsJoined (order_of past.exclusion) entries tasks (lanes_of past.clocks) (bound_among j.rows.items) k p x
  pub ends : (i : ℕ) → i < length j.ends.items → IsLinkedEnd (order_of past.exclusion) entries p (place_at j.ends.items i)

-- the row so far has q as one in front of the step
abbrev pub IsTold : List Entry → Tasks → Past → ℕ → ℕ → Joined → ℕ → Type 0
IsTold entries tasks past k p j q = IsTrue (is_told (order_of past.exclusion) entries tasks (lanes_of past.clocks) (bound_among j.rows.items) k p q)

-- more was joined, or nothing
pub record JoinsMore (entries : List Entry) (tasks : Tasks) (past : Past) (k p : ℕ) (old new : Joined) : Type 0 where
  pub are : AreJoined entries tasks past k p new
  pub kept : (q : ℕ) → q < p → IsTold entries tasks past k p old q → IsTold entries tasks past k p new q
  pub added : (q : ℕ) → q < p → IsTold entries tasks past k p new q → IsTold entries tasks past k p old q ⊎ IsBelow (order_of past.exclusion) entries new.ends.items q
  pub listed : (q : ℕ) → IsBelow (order_of past.exclusion) entries old.ends.items q → IsBelow (order_of past.exclusion) entries new.ends.items q
  pub same : new.end ≡ None → (new.rows.items ≡ old.rows.items) × (old.end ≡ None)

-- ---- which ends a step is linked to

abbrev pub waits_so : Order → History → Option Entry → Option Entry → Bool
waits_so o H None u = false
waits_so o H (Some v) None = false
waits_so o H (Some v) (Some u) = counts_some o (wait_kind H v.event.task v.event.action u.event.task)

-- the action of the step at p waits for the task of that at x
abbrev pub waits_at : Order → List Entry → ℕ → ℕ → Bool
waits_at o entries p x = waits_so o (history_of (take p entries)) (slice_get entries p) (slice_get entries x)

-- an item meets one of an earlier task, or of one that it excludes where exclusion counts
abbrev pub asks : Bool → Kind → Kind → Bool
asks exclusion new old = is_before (relation new old) || (exclusion && is_apart (relation new old))

abbrev pub may_meet : Bool → Item → Item → Bool
may_meet exclusion i j = same_place i.place j.place && asks exclusion i.kind j.kind

abbrev pub some_may_meet : Bool → List Item → List Item → Bool
some_may_meet exclusion items others = list_any (λ i. list_any (may_meet exclusion i) others) items

-- x is an end in front of p of a child of this task, and p is linked to it
pub record IsAsked (o : Order) (entries : List Entry) (tasks : Tasks) (p g x : ℕ) : Type 0 where
  pub end : IsEnd entries p x
  pub child : parent tasks x ≡ g
  pub linked : IsTrue (links_at o entries p x)
