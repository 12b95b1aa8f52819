use Rattle.std.proofs.Common.{ℕ, sym, subst, arith}
use Rattle.tb_stream.specs.Placing.{IsBegun}
use Rattle.tb_stream.proofs.PlaceLemmas.{begun_none, begun_some}
use Rattle.tb_stream.proofs.placing.begin.Goals as goal

pub returns-in-Some-clause-begun : goal.returns-in-Some-clause-begun
returns-in-Some-clause-begun c r n lanes are is w of =
    let b = c.in-Some.before in
    subst (λ (p : ℕ). IsBegun r n lanes c.args.clocks.now.rows.items (record { at = p; lane = b.lane; row = b.row; task = c.args.task })) (sym is) (begun_some r n lanes c.args.clocks.now are w c.args.task of b (c.in-Some.ensures r n lanes are w of))

pub returns-in-None-clause-begun : goal.returns-in-None-clause-begun
returns-in-None-clause-begun c r n lanes are is w of =
    subst (λ (p : ℕ). IsBegun r n lanes c.args.clocks.now.rows.items (record { at = p; lane = c.len.result; row = 0; task = c.args.task })) (sym is)
    (begun_none r n lanes c.args.clocks.now are w c.args.task of (c.in-None.ensures r n lanes are w of) c.len.result (omega (arith, c.len.ensures, c.args.clocks.now.lasts.ok)))
