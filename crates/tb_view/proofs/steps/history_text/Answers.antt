use Rattle.std.proofs.Common.{◌++◌, length, codes, arith}
use Rattle.std.specs.Fmt.{decimal}
use Rattle.tb_view.specs.Lines.{line}
use Rattle.tb_view.proofs.CountLemmas.{counted, few, read_at}
use Rattle.tb_view.proofs.WalkLemmas.{told_more}
use Rattle.tb_view.proofs.steps.history_text.Goals as goal

pub append_next-requires : goal.append_next-requires
append_next-requires c = few c.args.entries.now c.steps.at c.steps.counts _ (omega arith) c.requires c.steps.invariant.counts

pub steps-preserved : goal.steps-preserved
steps-preserved c =
    let is = read_at c.args.entries.now c.steps.at c.task.result.now c.action.result.now (omega arith) c.task.ensures c.action.ensures in record {
      counts = counted c.args.entries.now c.steps.at _ _ _ is c.steps.invariant.counts c.in_ok-append_next.ensures.counts;
      text = told_more c.args.program.now c.args.entries.now c.steps.at _ c.steps.counts
          (line (codes "hist " ++ decimal (length c.args.entries.now))) _ _ is c.steps.invariant.counts c.steps.invariant.text c.in_ok-append_next.ensures.text;
    }
