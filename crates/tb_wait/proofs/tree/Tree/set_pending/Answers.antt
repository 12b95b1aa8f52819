use Rattle.tb_wait.proofs.TreeLemmas.{flag_linked}
use Rattle.tb_wait.proofs.tree.Tree.set_pending.Goals as goal

pub tell_unended-requires-clause-linked : goal.tell_unended-requires-clause-linked
tell_unended-requires-clause-linked c =
    flag_linked c.self.inside.nodes.items c.flag.new.nodes.items c.self.invariant c.args.at c.flag.ensures.same c.flag.ensures.others
