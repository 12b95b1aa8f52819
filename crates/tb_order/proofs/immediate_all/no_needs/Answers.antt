use Rattle.std.proofs.Common.{◌∙◌, sym, arith}
use Rattle.tb_races.specs.Orders.{AllNeeds}
use Rattle.tb_lanes.specs.Clocks.{lane, lanes_of}
use Rattle.tb_order.proofs.ClockMoreLemmas.{no_fewer}
use Rattle.tb_order.specs.Needed.{is_pending}
use Rattle.tb_order.proofs.immediate_all.no_needs.Goals as goal

pub returns : goal.returns
returns c entries are = record {
  past = c.nothing_past.ensures.past entries c.args.tasks.now;
  strict = c.nothing_past.ensures.same;
  clocks = no_fewer (is_pending entries c.args.tasks.now 0) AllNeeds entries c.args.tasks.now c.no_clocks.result (c.no_clocks.ensures.clocks AllNeeds entries c.args.tasks.now);
  shared = λ i.
      let k = c.nothing.ensures AllNeeds entries i in record {
        writes_in = λ j l. absurd (omega (arith, k.writes_in.low j l));
        loads_in = λ j l. absurd (omega (arith, k.loads_in.low j l));
        by_writes = λ x l. absurd (omega (arith, l));
        by_loads = λ x l. absurd (omega (arith, l));
        new_writes = λ j x l m k. absurd (omega (arith, k));
        new_loads = λ j x l m k. absurd (omega (arith, k));
      };
  linked = c.in_ok-pending.ensures.linked;
  listed = c.in_ok-pending.ensures.listed ∙ are.numbers_listed;
  pending = c.in_ok-pending.ensures.pending entries 0 (lane (lanes_of c.no_clocks.result)) are;
  counted = c.in_ok-pending.ensures.none ∙ sym c.no_clocks.ensures.none;
}
