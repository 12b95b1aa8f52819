use Rattle.tb_wait.proofs.TreeLemmas.{links_room}
use Rattle.tb_wait.proofs.tree.Tree.reserve_child.Goals as goal

pub invariant_of-self : goal.invariant_of-self
invariant_of-self c = links_room c.self.inside.nodes.items c.reserve_child.new.nodes.items c.reserve_child.ensures.same c.self.invariant
