use Rattle.std.proofs.Common.{◌-◌, length, arith}
use Rattle.tb_view.proofs.CountLemmas.{counted, few, read_at}
use Rattle.tb_view.proofs.WalkLemmas.{newest_more, newest_all}
use Rattle.tb_view.proofs.steps.append_newest.Goals as goal

pub append_if-requires : goal.append_if-requires
append_if-requires c = few c.args.entries.now c.steps.at c.steps.counts _ (omega arith) c.requires.bound c.steps.invariant.counts

pub steps-preserved : goal.steps-preserved
steps-preserved c =
    let told = rw c.len.ensures at c.in_ok-append_if.ensures.text in
    let is = read_at c.args.entries.now c.steps.at c.task-task.result.now c.action-action.result.now (omega arith) c.task-task.ensures c.action-action.ensures in record {
      counts = counted c.args.entries.now c.steps.at _ _ _ is c.steps.invariant.counts c.in_ok-append_if.ensures.counts;
      text = newest_more c.args.program.now c.args.entries.now c.steps.at (length c.args.entries.now - c.args.count) _ c.steps.counts _ _ _
          is c.steps.invariant.counts c.steps.invariant.text told;
    }

pub returns : goal.returns
returns c = newest_all c.args.program.now c.args.entries.now c.steps.at c.args.count _ _ (omega arith) (omega arith) c.requires.few c.steps.invariant.text
