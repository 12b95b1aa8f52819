use Rattle.std.proofs.Common.{◌∙◌}
use Rattle.tb_wait.proofs.WaitLemmas.{here_place}
use Rattle.tb_wait.proofs.wait.Wait.walk_place.Goals as goal

pub returns-then-stands_at : goal.returns-then-stands_at
returns-then-stands_at c =
    (c.stands_at.ensures.here c.if-stands_at.true).index ∙ here_place c.args.self.now c.self.inside.names.keys c.self.inside.rows.items c.self.inside.tree.nodes c.self.inside.room c.self.view_is c.self.invariant.0 c.args.task.now
