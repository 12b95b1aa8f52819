use Rattle.std.proofs.Common.{◌≡◌, ◌+◌, ◌-◌, length, take}
use Rattle.tb_depend.specs.Chains.{KeepsNames}
use Rattle.tb_depend.proofs.chain.Chain.truncate.Given as goal

-- the items in front, never fewer than asked for
abbrev pub invariant-loop-self : goal.invariant-loop-self
invariant-loop-self l = record {
  rest : take l.len l.self.items ≡ take l.len l.fn.self.items;
  item_places : l.self.item_places + length l.self.items ≡ l.fn.self.item_places + length l.fn.self.items;
  link_places : l.self.link_places + length l.self.items ≡ l.fn.self.link_places + length l.fn.self.items;
  cells : KeepsNames l.fn.self.cells l.self.cells;
}

abbrev pub decreases-loop-self : goal.decreases-loop-self
decreases-loop-self l = length l.self.items - l.len
