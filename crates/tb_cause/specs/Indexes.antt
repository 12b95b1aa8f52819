-- What is known of stored steps by index and by name.
use Rattle.std.specs.Prelude.{◌≡◌, ◌<◌, ◌+◌, if◌then◌else◌, ℕ, List, Option, Some, None, option_map, slice_get, get_or, length, unwrap_or}
use Rattle.indexmap.specs.IndexMap.{IndexMap, get}
use Rattle.tb_model.specs.declared.action.Action.{Action}
use Rattle.tb_model.specs.declared.item.Item.{Item}
use Rattle.tb_model.specs.declared.step_id.StepId.{StepId}
use Rattle.tb_model.specs.Names.{Name, same_name}
use Rattle.tb_model.specs.State.{spawn_of, items_in}
use Rattle.tb_steps.specs.Entries.{Entry}
use Rattle.tb_steps.specs.Scans.{history_of, step_at}

-- the action at an index, if there is one
abbrev pub placed_action : List Entry → Option ℕ → Option Action
placed_action entries None = None
placed_action entries (Some p) = option_map (λ (e : Entry). e.event.action) (slice_get entries p)

-- the items that each task's spawn names
abbrev pub items_told : List Entry → Name → List Item
items_told entries t = items_in (spawn_of t (history_of entries))

-- how often a task is counted, where what isn't noted counts nothing
abbrev pub count_in : (Name → Option ℕ) → Name → ℕ
count_in G t = unwrap_or (G t) 0

-- one step more of t
abbrev pub IsCounted : {S : Type 0} → IndexMap Name ℕ S → Name → IndexMap Name ℕ S → Type 0
IsCounted old t new = (u : Name) → count_in (get same_name new) u ≡ (if same_name t u then count_in (get same_name old) t + 1 else count_in (get same_name old) u)

-- of the stored steps up to this index, these are the ordinals of the steps
pub record AreNumbers (entries : List Entry) (at : ℕ) (numbers : List ℕ) : Type 0 where
  pub count : length numbers ≡ at
  pub told : (p : ℕ) (id : StepId) → p < at → step_at entries p ≡ Some id → get_or numbers p 0 ≡ id.k
