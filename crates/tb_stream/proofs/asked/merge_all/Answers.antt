use Rattle.std.proofs.Common.{sym, ◌∙◌, arith}
use Rattle.tb_stream.proofs.SeenLemmas.{id_at}
use Rattle.tb_stream.proofs.WaitLemmas.{all_held, all_unheld}
use Rattle.tb_stream.proofs.asked.merge_all.Goals as goal

pub returns-in_ok-merge_children : goal.returns-in_ok-merge_children
returns-in_ok-merge_children c r n lanes wait are =
    let first = c.in_ok-merge_waited.ensures r n lanes wait are in
    all_held r n lanes c.args.order.now c.args.waiter.now wait c.args.joined.now _ _ first (c.in_ok-merge_children.ensures r n lanes wait first.are)

pub returns-else-is_held : goal.returns-else-is_held
returns-else-is_held c r n lanes wait are =
    let id = id_at r n n c.args.waiter.now.step.task (omega arith) wait.past.clocks.within wait.now.task wait.now.within in
    all_unheld r n lanes c.args.order.now c.args.waiter.now wait (sym (c.is_held.ensures r.legal.cells _ _ wait.now.facts id) ∙ c.if-is_held.false) c.args.joined.now _ (c.in_ok-merge_waited.ensures r n lanes wait are)
