-- The least relation that contains the direct needs and is closed under chaining.
use Rattle.std.specs.Prelude.{◌∷◌, ◌++◌, IsTrue}
use Rattle.tb_model.specs.declared.event.Event.{Event}
use Rattle.tb_model.specs.Facts.{History}
use Rattle.tb_model.specs.Needs.{needs}

-- the newest event of the first history needs that of the second: an event is named by itself with all in front of it
pub data Needs : History → History → Type 0 where
  directly : (v u : Event) (between front : History) → IsTrue (needs (between ++ u ∷ front) v u) → Needs (v ∷ (between ++ u ∷ front)) (u ∷ front)
  by_way : {F G H : History} → Needs F G → Needs G H → Needs F H
