use Rattle.std.proofs.Common.{refl, sym, ap, ◌∙◌, Some, None, option_map}
use Rattle.std.proofs.lemmas.Bool.{false≢true}
use Rattle.tb_core.specs.Seen.{history}
use Rattle.tb_core.proofs.WalkLemmas.{fewer}
use Rattle.tb_model.specs.Hindrances.{Children}
use Rattle.tb_next.proofs.ReadyLemmas.{next_has, none_has, passed_by}
use Rattle.tb_next.proofs.UnevaluatedLemmas.{IsWaitedFor, bad_passes, least_waits}
use Rattle.tb_next.proofs.unevaluated.waits.Goals as goal

pub tasks-init : goal.tasks-init
tasks-init c u w = tt

pub tasks-smaller : goal.tasks-smaller
tasks-smaller c = fewer (history c.args.core.now.run) _ c.in-Some.child.now (c.in-Some.ensures.found c.in-Some.child.now refl)

pub tasks-preserved : goal.tasks-preserved
tasks-preserved c =
    let H = history c.args.core.now.run in
    passed_by H _ (IsWaitedFor c.args.program.now.cells H c.args.task.now c.args.regs.now c.args.clauses.now) (λ u w. w.1) c.tasks.invariant c.in-Some.child.now c.in-Some.ensures
    (λ w. false≢true (sym (sym c.is_named.ensures ∙ c.if-is_named.false) ∙ w.0))

pub returns-then-not-are_good-clause-none : goal.returns-then-not-are_good-clause-none
returns-then-not-are_good-clause-none c = bad_passes c.args.program.now.cells (history c.args.core.now.run) c.args.task.now c.args.regs.now c.args.clauses.now (sym c.are_good.ensures ∙ c.if-not-are_good.true)

pub returns-then-is_named-clause-some : goal.returns-then-is_named-clause-some
returns-then-is_named-clause-some c =
    let cells = c.args.program.now.cells in
    let H = history c.args.core.now.run in
    let t = c.args.task.now in
    let u = c.in-Some.child.now in
    let Q = IsWaitedFor cells H t c.args.regs.now c.args.clauses.now in
    let first = next_has H _ Q (λ u w. w.1) c.tasks.invariant u c.in-Some.ensures (sym c.is_named.ensures ∙ c.if-is_named.true, (c.in-Some.ensures.found u refl).unended) in
    record {
      hindrance = Children u;
      found = ap (option_map Children) (least_waits cells H t c.args.regs.now c.args.clauses.now (sym c.are_good.ensures ∙ c.if-not-are_good.false) (Some u) first);
      named = c.waits_for.ensures;
    }

pub returns-clause-none : goal.returns-clause-none
returns-clause-none c =
    let H = history c.args.core.now.run in
    let Q = IsWaitedFor c.args.program.now.cells H c.args.task.now c.args.regs.now c.args.clauses.now in
    least_waits c.args.program.now.cells H c.args.task.now c.args.regs.now c.args.clauses.now (sym c.are_good.ensures ∙ c.if-not-are_good.false) None (none_has H _ Q (λ u w. w.1) c.tasks.invariant c.in_default.ensures)
