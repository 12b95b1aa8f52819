use Rattle.std.proofs.Common.{option_map, ap, ◌∙◌, subst}
use Rattle.tb_model.specs.Legal.{Legal}
use Rattle.tb_undo.specs.State.{IsState}
use Rattle.tb_undo.specs.Obstacles.{hindrance_by}
use Rattle.tb_core.specs.Seen.{Held, history}
use Rattle.tb_core.proofs.RefusedLemmas.{numbered, unended}
use Rattle.tb_core.proofs.run.Core.hindrance.Goals as goal

pub named-requires : goal.named-requires
named-requires c =
    let s = c.args.self.now.run in
    let t = c.args.name.now in
    let legal = subst (λ (h : Held). Legal h.run.cells (history h.run)) c.self.view_is c.self.invariant.0.legal in
    let state = subst (λ (h : Held). IsState h.run.cells h.run.root_line h.run.steps c.self.inside.tables) c.self.view_is c.self.invariant.0.state in
    let going = unended (history s) t c.requires.there c.requires.going in
    let found = c.in_the_way.ensures s.cells s.root_line s.steps legal state.of_tasks going ∙ ap (option_map (hindrance_by t)) c.in-Some.is in
    numbered s.cells (history s) t legal c.args.action.now c.in-Some.obstacle found

pub returns-in-Some-clause-some : goal.returns-in-Some-clause-some
returns-in-Some-clause-some c =
    let s = c.args.self.now.run in
    let t = c.args.name.now in
    let legal = subst (λ (h : Held). Legal h.run.cells (history h.run)) c.self.view_is c.self.invariant.0.legal in
    let state = subst (λ (h : Held). IsState h.run.cells h.run.root_line h.run.steps c.self.inside.tables) c.self.view_is c.self.invariant.0.state in
    let going = unended (history s) t c.requires.there c.requires.going in
    record {
      hindrance = hindrance_by t c.in-Some.obstacle;
      found = c.in_the_way.ensures s.cells s.root_line s.steps legal state.of_tasks going ∙ ap (option_map (hindrance_by t)) c.in-Some.is;
      named = c.named.ensures;
    }

pub returns-clause-none : goal.returns-clause-none
returns-clause-none c =
    let s = c.args.self.now.run in
    let t = c.args.name.now in
    let legal = subst (λ (h : Held). Legal h.run.cells (history h.run)) c.self.view_is c.self.invariant.0.legal in
    let state = subst (λ (h : Held). IsState h.run.cells h.run.root_line h.run.steps c.self.inside.tables) c.self.view_is c.self.invariant.0.state in
    let going = unended (history s) t c.requires.there c.requires.going in
    c.in_the_way.ensures s.cells s.root_line s.steps legal state.of_tasks going ∙ ap (option_map (hindrance_by t)) c.in_default.is
