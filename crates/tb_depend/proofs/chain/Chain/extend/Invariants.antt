use Rattle.std.proofs.Common.{◌≡◌, ◌+◌, ◌++◌, take}
use Rattle.tb_depend.specs.Chains.{KeepsNames}
use Rattle.tb_depend.proofs.chain.Chain.extend.Given as goal

-- the items so far, in the capacity that was there
abbrev pub invariant-loop-item : goal.invariant-loop-item
invariant-loop-item l = record {
  items : l.self.items ≡ l.fn.self.items ++ take l.item-index l.new;
  item_places : l.self.item_places + l.item-index ≡ l.fn.self.item_places;
  link_places : l.self.link_places + l.item-index ≡ l.fn.self.link_places;
  cells : KeepsNames l.fn.self.cells l.self.cells;
}
