use Rattle.std.proofs.Common.{ℕ, sym, ◌∙◌, arith}
use Rattle.tb_depend.specs.Nearness.{child_at}
use Rattle.tb_depend.proofs.NearLemmas.{over_alike}
use Rattle.tb_depend.proofs.near.alike_over.Goals as goal

pub returns-then-is_same : goal.returns-then-is_same
returns-then-is_same g c closed o =
    let over = λ (k : ℕ). g.T.Over.over c.args.over.now (child_at c.args.ends.now k) in
    over_alike c.args.chain.now.items over c.args.new c.item.result c.args.from closed (omega (arith, c.if-from-eq0.false)) c.item.ensures (c.is_same.ensures c.if-is_same.true) (sym c.is_over.ensures ∙ o)
