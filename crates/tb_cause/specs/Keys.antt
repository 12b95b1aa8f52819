-- The keys of events: an event needs an earlier one where it asks for a key that the earlier one
-- gives, or where it comes after that one's end by depend items.
use Rattle.std.specs.Prelude.{◌≡◌, get_or, if◌then◌else◌, ℕ, ◌+◌, List, [], ◌∷◌, Bool, true, false, ◌&&◌, ◌||◌, nat_eq, Option, Some, None}
use Rattle.std.specs.List.{list_any}
use Rattle.indexmap.specs.IndexSet.{contains}
use Rattle.tb_model.specs.declared.action.Action.{Action}
use Rattle.tb_model.specs.declared.action.Action.TheVariants.{Start, Load, Store, Print, Spawn, Wait, Close}
use Rattle.tb_model.specs.declared.event.Event.{Event}
use Rattle.tb_model.specs.declared.item.Item.{Item as AnItem}
use Rattle.tb_model.specs.declared.kind.Kind.{Kind}
use Rattle.tb_model.specs.declared.kind.Kind.TheVariants.{In, Out, Inout, Mutexinoutset, Inoutset}
use Rattle.tb_model.specs.declared.place.Place.{Place}
use Rattle.tb_model.specs.declared.place.Place.TheVariants.{Cell, All}
use Rattle.tb_model.specs.Names.{Name, same_name, is_child, is_within}
use Rattle.tb_model.specs.Facts.{History, own, groups, innermost, is_end, is_print, is_store_to, touches, is_spawn_of}
use Rattle.tb_model.specs.Items
use Rattle.tb_steps.specs.Entries.{Entry}
use Rattle.tb_cause.specs.declared.keys.Keys.{Keys}

-- a step or the spawn of a task, its end, the end of a child of it, the end of it or of one below
-- it, the end of a child with an item (by two codes), a store to a cell, a store to it or a load
-- from it, a print
pub data Key : Type 0 where
  Task : Name → Key
  Ended : Name → Key
  Parent : Name → Key
  Within : Name → Key
  Item : Name → ℕ → ℕ → Key
  Stored : ℕ → Key
  Touched : ℕ → Key
  Printed : Key

-- ---- given

-- by the task of a step
abbrev pub own_key : Name → Key → Bool
own_key t (Task s) = same_name t s
own_key t _ = false

-- by an action
abbrev pub action_key : Action → Key → Bool
action_key a (Task s) = is_spawn_of s a
action_key a (Stored c) = is_store_to c a
action_key a (Touched c) = touches c a
action_key a Printed = is_print a
action_key a _ = false

-- three codes for each kind: at a cell, anywhere, everywhere
abbrev pub kind_number : Kind → ℕ
kind_number In = 0
kind_number Out = 3
kind_number Inout = 6
kind_number Mutexinoutset = 9
kind_number Inoutset = 12

-- by an item of the kind with this code, at the index
abbrev pub place_key : ℕ → Place → ℕ → ℕ → Bool
place_key m (Cell d) n c = (nat_eq m n && nat_eq d c) || (nat_eq (m + 1) n && nat_eq 0 c)
place_key m All n c = nat_eq (m + 2) n && nat_eq 0 c

abbrev pub item_key : (n c : ℕ) → AnItem → Bool
item_key n c j = place_key (kind_number j.kind) j.place n c

-- by the end of a task
abbrev pub over_key : Name → Key → Bool
over_key w (Ended s) = same_name w s
over_key w (Parent s) = is_child s w
over_key w (Within s) = is_within s w
over_key w _ = false

-- by the end of a task with these items
abbrev pub items_key : Name → List AnItem → Key → Bool
items_key w items (Item s n c) = is_child s w && list_any (item_key n c) items
items_key w items _ = false

-- by the end of a task, which has the items that I says
abbrev pub end_key : (Name → List AnItem) → Name → Key → Bool
end_key I w k = over_key w k || items_key w (I w) k

-- by an event
abbrev pub gives : (Name → List AnItem) → Event → Key → Bool
gives I u k = own_key u.task k || (action_key u.action k || (is_end u.action && end_key I u.task k))

-- ---- taken

-- the undeferred child that the newest of these actions generated
abbrev pub held_by : List Action → Option Name
held_by (Spawn s ∷ acts) = if s.deferred then None else Some s.child
held_by _ = None

-- some key passes the test that is taken after the end of this child
abbrev pub held_any : (Key → Bool) → Option Name → Bool
held_any f None = false
held_any f (Some w) = f (Ended w)

-- some key passes that the action asks for by itself
abbrev pub action_any : (Key → Bool) → Action → Bool
action_any f (Load r c x) = f (Stored c)
action_any f (Store c x) = f (Touched c)
action_any f (Print x) = f Printed
action_any f _ = false

-- some key passes that the action of t asks for as a wait for all children, or for a group
abbrev pub wait_any : (Key → Bool) → History → Name → Action → Bool
wait_any f H t (Wait items) = Items.has_no_items items && f (Parent t)
wait_any f H t Close = list_any (λ c. f (Within c)) (innermost (groups (own t H)))
wait_any f H t _ = false

-- a start comes after and not together with what it depends on and what excludes it; a `taskwait`
-- only after the former
abbrev pub comes_behind : Bool → Kind → Kind → Bool
comes_behind starts new old = Items.is_before (Items.relation new old) || (starts && Items.is_apart (Items.relation new old))

abbrev pub kinds : List Kind
kinds = In ∷ Out ∷ Inout ∷ Mutexinoutset ∷ Inoutset ∷ []

-- of the items of one kind that the children of p have
abbrev pub place_any : (Key → Bool) → Name → Place → ℕ → Bool
place_any f p (Cell c) m = f (Item p m c) || f (Item p (m + 2) 0)
place_any f p All m = f (Item p (m + 1) 0) || f (Item p (m + 2) 0)

abbrev pub kind_any : (Key → Bool) → Name → Bool → AnItem → Kind → Bool
kind_any f p starts i old = comes_behind starts i.kind old && place_any f p i.place (kind_number old)

-- some key passes that a new item asks for, of those of the children of p
abbrev pub item_any : (Key → Bool) → Name → Bool → AnItem → Bool
item_any f p starts i = list_any (kind_any f p starts i) kinds

-- some key passes that a start or a `taskwait` asks for by its items
abbrev pub items_any : (Key → Bool) → (Name → List AnItem) → Name → Action → Bool
items_any f I (n ∷ p) Start = list_any (item_any f p true) (I (n ∷ p))
items_any f I t (Wait items) = list_any (item_any f t false) items
items_any f I t _ = false

-- some key passes that v asks for after H
abbrev pub takes_any : (Key → Bool) → (Name → List AnItem) → History → Event → Bool
takes_any f I H v = f (Task v.task) || (held_any f (held_by (own v.task H)) || (action_any f v.action || (wait_any f H v.task v.action || items_any f I v.task v.action)))

-- ---- retained

abbrev pub same_item_key : Name × ℕ × ℕ → Name × ℕ × ℕ → Bool
same_item_key x y = (same_name x.0 y.0 && nat_eq x.1 y.1) && nat_eq x.2 y.2

-- the key is among these
abbrev pub has : Keys → Key → Bool
has m (Task t) = contains same_name m.tasks t
has m (Ended t) = contains same_name m.ended t
has m (Parent t) = contains same_name m.parents t
has m (Within t) = contains same_name m.within t
has m (Item t n c) = contains same_item_key m.items (t, n, c)
has m (Stored c) = contains nat_eq m.stored c
has m (Touched c) = contains nat_eq m.touched c
has m Printed = m.printed

-- b says whether f passes for the key of the task of the stored step at this index
abbrev pub IsOfTask : List Entry → ℕ → (Key → Bool) → Bool → Type 0
IsOfTask entries p f b = (e : Entry) → e ≡ get_or entries p e → b ≡ f (Task e.event.task)

-- with each name, those above it are among these
abbrev pub IsUpward : (Name → Bool) → Type 0
IsUpward f = (q m : Name) → is_within q m ≡ true → f m ≡ true → f q ≡ true

-- these are the keys that some of the events gives
abbrev pub AreGiven : (Name → List AnItem) → History → Keys → Type 0
AreGiven I F m = (k : Key) → has m k ≡ list_any (λ u. gives I u k) F
