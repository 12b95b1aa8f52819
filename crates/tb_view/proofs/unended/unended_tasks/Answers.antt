use Rattle.std.proofs.Common.{◌∷◌, ◌++◌, ◌∙◌, [], IsTrue, None, ap, refl, rules, subst, sym}
use Rattle.tb_model.specs.Names.{Name}
use Rattle.tb_model.specs.State.{is_unended}
use Rattle.tb_core.specs.Seen.{history}
use Rattle.tb_core.proofs.WalkLemmas.{Gathered, fewer, gathered_one, none_gathered}
use Rattle.tb_view.proofs.unended.unended_tasks.Goals as goal

pub tasks-init : goal.tasks-init
tasks-init c =
    let P = λ (t : Name). IsTrue (is_unended (history c.args.core.now.run) t) in
    subst (Gathered P None) (sym c.new-tasks.ensures.items) (none_gathered P)

pub tasks-smaller : goal.tasks-smaller
tasks-smaller c = fewer (history c.args.core.now.run) _ c.in-Some.task.now (c.in-Some.ensures.found c.in-Some.task.now refl)

pub tasks-preserved : goal.tasks-preserved
tasks-preserved c =
    let H = history c.args.core.now.run in
    let t = c.in-Some.task.now in
    gathered_one H (λ u. IsTrue (is_unended H u)) (λ u h. h) _ c.tasks.tasks.items c.tasks.invariant t c.push.new.self.items c.in-Some.ensures (c.in-Some.ensures.found t refl).unended
    (c.in_ok-push.ensures.items ∙ ap (λ x. c.tasks.tasks.items ++ x ∷ []) (search rules))
