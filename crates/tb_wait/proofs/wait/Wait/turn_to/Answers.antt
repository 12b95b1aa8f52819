use Rattle.std.proofs.Common.{◌∙◌}
use Rattle.tb_wait.proofs.WaitLemmas.{here_place}
use Rattle.tb_wait.proofs.wait.Wait.turn_to.Goals as goal

pub returns-then-stands_at-clause-place : goal.returns-then-stands_at-clause-place
returns-then-stands_at-clause-place c =
    (c.stands_at.ensures.here c.if-stands_at.true).index ∙ here_place c.args.self.now c.self.inside.names.keys c.self.inside.rows.items c.self.inside.tree.nodes c.self.inside.room c.self.view_is c.self.invariant.0 c.args.task.now
