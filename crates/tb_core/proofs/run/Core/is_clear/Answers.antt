use Rattle.std.proofs.Common.{subst}
use Rattle.tb_model.specs.Legal.{Legal}
use Rattle.tb_undo.specs.State.{IsState}
use Rattle.tb_core.specs.Seen.{Held, history}
use Rattle.tb_core.proofs.RefusedLemmas.{unended}
use Rattle.tb_core.proofs.run.Core.is_clear.Goals as goal

pub returns : goal.returns
returns c =
    let s = c.args.self.now.run in
    let legal = subst (λ (h : Held). Legal h.run.cells (history h.run)) c.self.view_is c.self.invariant.0.legal in
    let state = subst (λ (h : Held). IsState h.run.cells h.run.root_line h.run.steps c.self.inside.tables) c.self.view_is c.self.invariant.0.state in
    let going = unended (history s) c.args.task.now c.requires.there c.requires.going in
    c.is_clear.ensures s.cells s.root_line s.steps legal state.of_tasks going
