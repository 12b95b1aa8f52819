use Rattle.std.proofs.Common.{IsTrue, arith, subst, sym}
use Rattle.std.specs.Prelude.{codes}
use Rattle.tb_model.specs.Names.{Name}
use Rattle.tb_model.specs.Hindrances.{refusal_of}
use Rattle.tb_model.specs.State.{is_unended}
use Rattle.tb_core.specs.Listed.{AreAll}
use Rattle.tb_live.specs.Session.{history}
use Rattle.tb_view.specs.Listing.{lines_of}
use Rattle.tb_view.specs.Waits.{wait_by}
use Rattle.tb_view.proofs.ListingLemmas.{told_more, counted_more, told_all, counted_all, listed_so}
use Rattle.tb_view.proofs.UnendedLemmas.{wait_lines}
use Rattle.tb_view.proofs.waits.waits_text.Goals as goal

pub tasks-preserved : goal.tasks-preserved
tasks-preserved c =
    let s = c.args.live.now.session in
    let f = λ (u : Name). wait_by u (refusal_of s.program (history s) u) in
    let tasks = c.deref-task-items.result.now in
    record {
      text = told_more f tasks c.tasks.task-index c.task-item.result c.tasks-test.true c.task-item.is _ _ _ c.tasks.invariant.text c.in_ok-count.ensures.text;
      count = counted_more f tasks c.tasks.task-index c.task-item.result c.tasks-test.true c.task-item.is _ _ _ c.tasks.invariant.count c.in_ok-count.ensures.count;
      few = omega (arith, c.tasks.invariant.few, c.in_ok-count.ensures.few);
    }

pub returns : goal.returns
returns c =
    let s = c.args.live.now.session in
    let H = history s in
    let f = λ (u : Name). wait_by u (refusal_of s.program H u) in
    let tasks = c.deref-task-items.result.now in
    let all = subst (AreAll (λ u. IsTrue (is_unended H u))) (sym c.deref-task-items.ensures.value) (subst (λ K. AreAll (λ u. IsTrue (is_unended K u)) c.in_ok-tasks.tasks.items) c.core.ensures.history c.in_ok-tasks.ensures) in
    listed_so (codes "waits") _ (lines_of f tasks) c.tasks.count c.tasks.text c.headed.result (wait_lines s.program H tasks all)
    (counted_all f tasks c.tasks.task-index c.tasks.count _ c.tasks-test.false c.tasks.invariant.count)
    (told_all f tasks c.tasks.task-index c.tasks.text _ c.tasks-test.false c.tasks.invariant.text) c.headed.ensures
