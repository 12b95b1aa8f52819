use Rattle.std.proofs.lemmas.List.Sorted.{IsNonDecreasingBy-from_sort}
use Rattle.tb_order.proofs.WalkedLemmas.{walked}
use Rattle.tb_order.proofs.needing.in_order.Goals as goal

pub returns : goal.returns
returns c = walked c.args.found.items c.args.first c.in_ok-order.order.items c.sort_unstable.new.self.items c.in_ok-order.ensures c.sort_unstable.ensures.permutation (IsNonDecreasingBy-from_sort (λ x. x) c.sort_unstable.new.self.items c.sort_unstable.ensures.sorted)
