use Rattle.std.proofs.Common.{◌∙◌}
use Rattle.tb_order.proofs.pending.settle_all.Goals as goal

pub loop-bound-preserved : goal.loop-bound-preserved
loop-bound-preserved c =
    let so_far = c.loop-bound.invariant in
    let more = c.settle.ensures in record {
      linked = more.linked;
      settled = record {
        until = more.same.until ∙ so_far.settled.until;
        lasts = more.same.lasts ∙ so_far.settled.lasts;
        nexts = more.same.nexts ∙ so_far.settled.nexts;
        count = more.same.count ∙ so_far.settled.count;
      };
      pending = λ tasks n lane are. more.pending tasks n lane (so_far.pending tasks n lane are);
    }
