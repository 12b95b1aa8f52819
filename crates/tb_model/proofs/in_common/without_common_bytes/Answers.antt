use Rattle.std.proofs.Common.{arith, sym, ◌∙◌}
use Rattle.tb_model.proofs.InCommonLemmas.{name_cmp_without}
use Rattle.tb_model.proofs.in_common.without_common_bytes.Goals as goal

pub common-preserved : goal.common-preserved
common-preserved c = record {
  of_first = omega arith;
  of_second = omega arith;
  order = name_cmp_without c.args.a.now c.args.b.now _ c.common.m _ c.common.n (omega arith) (omega arith) (sym c.are_four_same.ensures ∙ c.if-not-are_four_same.false) ∙ c.common.invariant.order;
}
