use Rattle.std.proofs.Common.{◌∙◌, sym}
use Rattle.tb_wait.proofs.WaitLemmas.{here_place}
use Rattle.tb_wait.proofs.wait.Wait.turn_elsewhere.Goals as goal

pub returns-clause-place : goal.returns-clause-place
returns-clause-place c =
    sym c.in_ok-own.was ∙ c.find_below.ensures.index ∙ here_place c.args.self.now c.self.inside.names.keys c.self.inside.rows.items c.self.inside.tree.nodes c.self.inside.room c.self.view_is c.self.invariant.0 c.args.task.now

pub returns-in_err-own-clause-place : goal.returns-in_err-own-clause-place
returns-in_err-own-clause-place c =
    c.from_residual.ensures ∙ sym c.in_err-own.was ∙ c.find_below.ensures.index ∙ here_place c.args.self.now c.self.inside.names.keys c.self.inside.rows.items c.self.inside.tree.nodes c.self.inside.room c.self.view_is c.self.invariant.0 c.args.task.now
