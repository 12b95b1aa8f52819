use Rattle.std.proofs.Common.{ap, sym, arith}
use Rattle.tb_excl.proofs.SearchLemmas.{held_step}
use Rattle.tb_excl.proofs.holders.Holders.least_held.Goals as goal

pub cells-preserved-in-Some : goal.cells-preserved-in-Some
cells-preserved-in-Some c = record {
  within = omega (arith, c.cells.invariant.within);
  least = held_step c.args.self.now c.self.inside.cells c.cells.i c.in-Some.cell c.in-Some._holder c.held_by.result c.cells.least c.lesser-least.result
      (ap (λ v. v.cells) (sym c.self.view_is)) c.in-Some.ensures c.cells-test.true c.cells.invariant.least c.held_by.ensures c.lesser-least.ensures;
}
