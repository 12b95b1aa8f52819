use Rattle.std.proofs.Common.{◌∙◌}
use Rattle.tb_wait.proofs.WaitLemmas.{here_place}
use Rattle.tb_wait.proofs.wait.Wait.walk_elsewhere.Goals as goal

pub returns : goal.returns
returns c =
    c.find_below-found.ensures.index ∙ here_place c.args.self.now c.self.inside.names.keys c.self.inside.rows.items c.self.inside.tree.nodes c.self.inside.room c.self.view_is c.self.invariant.0 c.args.task.now
