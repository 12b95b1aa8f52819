-- Histories that say the same of every task and cell: the state in few words. SameState has it part by part.
use Rattle.std.specs.Prelude.{◌≡◌, ℕ, Bool, ℤ}
use Rattle.std.specs.List.{list_any}
use Rattle.tb_model.specs.declared.item.Item.{Item}
use Rattle.tb_model.specs.declared.event.Event.{Event}
use Rattle.tb_model.specs.Names.{Name}
use Rattle.tb_model.specs.Facts.{History, own, last, items_of}
use Rattle.tb_model.specs.State.{printed, spawn_of}

-- each task has the same actions, each cell the same value, and events and items by any test,
-- output and spawns are the same; the order may differ
pub record Alike (G H : History) : Type 0 where
  pub acts : (t : Name) → own t G ≡ own t H
  pub number : (first : ℤ) (c : ℕ) → last first c G ≡ last first c H
  pub any : (p : Event → Bool) → list_any p G ≡ list_any p H
  pub items : (t : Name) (p : Item → Bool) → list_any p (items_of t G) ≡ list_any p (items_of t H)
  pub prints : printed G ≡ printed H
  pub spawn : (t : Name) → spawn_of t G ≡ spawn_of t H
