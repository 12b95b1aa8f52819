use Rattle.std.proofs.Common.{◌-◌, sym, subst, ◌∙◌, arith}
use Rattle.tb_model.specs.Items.{is_before, meets}
use Rattle.tb_depend.specs.Chains.{IsLast}
use Rattle.tb_depend.proofs.ChainLemmas.{over_one, over_more, stops_at, one_item}
use Rattle.tb_depend.proofs.chain.Chain.last_before.Goals as goal

pub loop-at-preserved-then-is_place : goal.loop-at-preserved-then-is_place
loop-at-preserved-then-is_place c =
    let items = c.args.self.now.items in
    let next = c.before-at.result in
    let fails = sym c.is_before.ensures ∙ c.if-is_before.false in
    let same = one_item c.args.new c.item-old.result (sym c.is_place.ensures ∙ c.if-is_place.true) fails in
    let last : IsLast (meets is_before c.args.new) items (c.loop-at.at - 1) next =
    subst (λ i. IsLast (meets is_before i) items (c.loop-at.at - 1) next) same (c.before-at.ensures c.item-old.result c.item-old.ensures) in
    record {
      within = omega (arith, last.within, c.loop-at.invariant.within);
      none = over_more (meets is_before c.args.new) items c.args.from c.loop-at.at c.item-old.result next c.loop-at.invariant.none c.item-old.ensures fails last;
    }

pub loop-at-preserved : goal.loop-at-preserved
loop-at-preserved c = record {
  within = omega (arith, c.loop-at.invariant.within);
  none = over_one (meets is_before c.args.new) c.args.self.now.items c.args.from c.loop-at.at c.item-old.result c.loop-at.invariant.none
      c.item-old.ensures (sym c.is_before.ensures ∙ c.if-is_before.false);
}

pub returns-then-is_before : goal.returns-then-is_before
returns-then-is_before c =
    stops_at (meets is_before c.args.new) c.args.self.now.items c.args.from c.loop-at.at c.item-old.result c.loop-at.invariant.within c.loop-at.invariant.none
    c.item-old.ensures (sym c.is_before.ensures ∙ c.if-is_before.true)
