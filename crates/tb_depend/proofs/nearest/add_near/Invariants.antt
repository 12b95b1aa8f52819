use Rattle.std.proofs.Common.{◌≡◌, ◌≤◌, ℕ, suc, Some, slice_get}
use Rattle.std.specs.Prelude.{IsTrue}
use Rattle.tb_model.specs.declared.item.Item.{Item}
use Rattle.tb_model.specs.Items.{is_before, meets}
use Rattle.tb_depend.proofs.NearestLemmas.{AddsFrom}
use Rattle.tb_depend.proofs.nearest.add_near.Given as goal

-- of the items from this index on
abbrev pub invariant-loop-at : goal.invariant-loop-at
invariant-loop-at l = record {
  within : l.at ≤ l.last;
  passes : (k : ℕ) (i : Item) → l.at ≡ suc k → slice_get l.chain.items k ≡ Some i → IsTrue (meets is_before l.new i);
  adds : AddsFrom l.ends l.chain.items l.new l.from l.initial.near.items l.near.items l.at;
}

abbrev pub decreases-loop-at : goal.decreases-loop-at
decreases-loop-at l = l.at
