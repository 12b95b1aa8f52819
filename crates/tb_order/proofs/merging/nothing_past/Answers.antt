use Rattle.std.proofs.Common.{ap, arith}
use Rattle.tb_lanes.specs.Clocks.{IsEnd}
use Rattle.tb_lanes.specs.Linking.{order_of}
use Rattle.tb_lanes.specs.Rows.{IsNoted, Named, row_of}
use Rattle.tb_lanes.proofs.EndLemmas.{row_none}
use Rattle.tb_lanes.proofs.RowLemmas.{rows_none}
use Rattle.tb_order.proofs.merging.nothing_past.Goals as goal

pub returns-clause-past : goal.returns-clause-past
returns-clause-past c entries tasks =
    let o = order_of c.args.exclusion in record {
      clocks = c.no_clocks.ensures.clocks o entries tasks;
      ends = row_none o entries (IsEnd entries 0) c.no_ends.result c.no_ends.ensures.places c.no_ends.ensures.skips (λ x e. absurd (omega (arith, e.0)));
      rows = rows_none o entries (IsNoted entries tasks 0) c.new.result.entries (λ k. ap (λ (es : Named). row_of es k) c.new.ensures.empty) (λ k x e. absurd (omega (arith, e.0.0)));
    }
