-- Histories after which every unended task wants to go on, and none may.
use Rattle.std.specs.Prelude.{◌≡◌, ℕ, ℤ, IsFalse}
use Rattle.std.specs.List.{list_any}
use Rattle.tb_model.specs.declared.action.Action.{Action}
use Rattle.tb_model.specs.declared.action.Action.TheVariants.{Load}
use Rattle.tb_model.specs.Names.{Name}
use Rattle.tb_model.specs.Facts.{History, IsSpawned, ends, own, last}
use Rattle.tb_model.specs.Legal.{Cells, first_number, Continues, MayFollow}

-- each task that hasn't ended wants to do something that fits its own actions, and none may do it
pub record IsStuck (cells : Cells) (H : History) (wants : Name → Action) : Type 0 where
  pub fits : (t : Name) → IsSpawned H t → IsFalse (list_any (ends t) H) → Continues cells t (own t H) (wants t)
  pub reads : (t : Name) (r c : ℕ) (x : ℤ) → wants t ≡ Load r c x → x ≡ last (first_number cells c) c H
  pub waits : (t : Name) → IsSpawned H t → IsFalse (list_any (ends t) H) → MayFollow cells H (record { task = t; action = wants t }) → ⊥
