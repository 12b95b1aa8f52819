use Rattle.std.proofs.Common.{◌≡◌, ◌<◌, ℕ, true, get_or}
use Rattle.tb_model.specs.declared.item.Item.{Item}
use Rattle.tb_depend.specs.Chains.{AreSameHeads, KeepsHeads, has_head}
use Rattle.tb_depend.proofs.heads.Heads.reserve.Given as goal

-- the items so far have their capacity
abbrev pub invariant-loop-item : goal.invariant-loop-item
invariant-loop-item l = record {
  same : AreSameHeads l.fn.self l.self;
  keeps : KeepsHeads l.fn.self l.self;
  done : (k : ℕ) (i : Item) → k < l.item-index → get_or l.items k i ≡ i → has_head l.self i.place ≡ true;
}
