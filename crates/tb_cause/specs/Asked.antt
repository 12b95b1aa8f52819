-- Needs between events, asked from the later one: it asks for keys, and needs an earlier event that
-- gives one of them.
use Rattle.std.specs.Prelude.{◌≡◌, ◌<◌, ℕ, ◌+◌, List, [], ◌∷◌, map, reverse, Some, Bool, true, false, ◌&&◌, ◌||◌, nat_eq, length}
use Rattle.std.specs.List.{All, list_any}
use Rattle.tb_model.specs.declared.action.Action.{Action}
use Rattle.tb_model.specs.declared.action.Action.TheVariants.{Load, Store, Print, Spawn}
use Rattle.tb_model.specs.declared.event.Event.{Event}
use Rattle.tb_model.specs.declared.item.Item.{Item as AnItem}
use Rattle.tb_model.specs.declared.place.Place.{Place}
use Rattle.tb_model.specs.declared.place.Place.TheVariants.{Cell, All as Everywhere}
use Rattle.tb_model.specs.declared.step_id.StepId.{StepId}
use Rattle.tb_model.specs.Names.{Name, same_name}
use Rattle.tb_model.specs.Facts.{History, is_end}
use Rattle.tb_steps.specs.Entries.{Entry}
use Rattle.tb_steps.specs.Scans.{history_of, step_at}
use Rattle.tb_cause.specs.Chains.{causes_of, placed_at}
use Rattle.tb_cause.specs.Indexes.{items_told}
use Rattle.tb_cause.specs.Keys.{Key, Task, Ended, Parent, Within, Item, Stored, Touched, Printed, kind_number, item_any, takes_any}

-- the one key is the other
abbrev pub same_key : Key → Key → Bool
same_key (Task s) (Task t) = same_name s t
same_key (Ended s) (Ended t) = same_name s t
same_key (Parent s) (Parent t) = same_name s t
same_key (Within s) (Within t) = same_name s t
same_key (Item s n c) (Item t m d) = (same_name s t && nat_eq n m) && nat_eq c d
same_key (Stored c) (Stored d) = nat_eq c d
same_key (Touched c) (Touched d) = nat_eq c d
same_key Printed Printed = true
same_key _ _ = false

-- v asks for the key after H
abbrev pub asks : (Name → List AnItem) → History → Event → Key → Bool
asks I H v k = takes_any (λ a. same_key a k) I H v

-- the key is among those that the end of a group with these children takes
abbrev pub group_key : List Name → Key → Bool
group_key us (Within q) = list_any (λ c. same_name c q) us
group_key us _ = false

-- the key is among those that new items take of those of the children of p
abbrev pub new_items_key : Name → Bool → List AnItem → Key → Bool
new_items_key p starts items (Item q n c) = list_any (item_any (λ a. same_key a (Item q n c)) p starts) items
new_items_key p starts items _ = false

-- ---- some key passes the test

-- some key passes that an action gives
abbrev pub action_gives : (Key → Bool) → Action → Bool
action_gives f (Spawn s) = f (Task s.child)
action_gives f (Load r c x) = f (Touched c)
action_gives f (Store c x) = f (Stored c) || f (Touched c)
action_gives f (Print x) = f Printed
action_gives f _ = false

-- some key passes that the end of a task gives
abbrev pub parent_gives : (Key → Bool) → Name → Bool
parent_gives f [] = false
parent_gives f (n ∷ p) = f (Parent p)

-- the task or one above it passes
abbrev pub some_above : (Name → Bool) → Name → Bool
some_above p [] = p []
some_above p (n ∷ m) = p (n ∷ m) || some_above p m

abbrev pub over_gives : (Key → Bool) → Name → Bool
over_gives f w = f (Ended w) || (parent_gives f w || some_above (λ s. f (Within s)) w)

-- some key passes that an item of a child of p gives, of the kind with this code
abbrev pub place_gives : (Key → Bool) → Name → ℕ → Place → Bool
place_gives f p m (Cell c) = f (Item p m c) || f (Item p (m + 1) 0)
place_gives f p m Everywhere = f (Item p (m + 2) 0)

abbrev pub item_gives : (Key → Bool) → Name → AnItem → Bool
item_gives f p j = place_gives f p (kind_number j.kind) j.place

-- some key passes that the end of a task gives by its items
abbrev pub items_give : (Key → Bool) → Name → List AnItem → Bool
items_give f [] items = false
items_give f (n ∷ p) items = list_any (item_gives f p) items

-- some key passes that an event gives
abbrev pub gives_any : (Key → Bool) → (Name → List AnItem) → Event → Bool
gives_any f I u = f (Task u.task) || (action_gives f u.action || (is_end u.action && (over_gives f u.task || items_give f u.task (I u.task))))

-- ---- over stored steps

-- these are the keys that the events at these indexes ask for
abbrev pub AreAskedAt : List Entry → List ℕ → (Key → Bool) → Type 0
AreAskedAt entries places f = (k : Key) → f k ≡ list_any (λ r. asks (items_told entries) r.front r.event k) (placed_at entries places)

-- these are the indexes of the steps that the one at this index needs
pub record AreCausesAt (entries : List Entry) (at : ℕ) (places : List ℕ) : Type 0 where
  pub names : (step : StepId) → step_at entries at ≡ Some step → map (step_at entries) places ≡ map (λ (s : StepId). Some s) (reverse (causes_of step (history_of entries)))
  pub inside : All (λ p. p < length entries) places
