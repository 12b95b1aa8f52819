use Rattle.std.proofs.Common.{◌≡◌, ◌-◌, ◌<◌, ℕ, suc, length, refl, sym, ◌∙◌, subst, arith}
use Rattle.std.specs.Prelude.{IsTrue}
use Rattle.std.proofs.lemmas.Bool.{false≢true}
use Rattle.tb_model.specs.Items.{is_before, meets}
use Rattle.tb_depend.specs.Chains.{is_met, IsLast}
use Rattle.tb_depend.specs.Nearness.{child_at}
use Rattle.tb_depend.proofs.LastLemmas.{there}
use Rattle.tb_depend.proofs.NearLemmas.{over_last, over_next, over_one, over_run, over_met, not_over, of_run, met_of}
use Rattle.tb_depend.proofs.near.cell_over.Goals as goal
use Rattle.tb_depend.proofs.near.cell_over.Goals.{then-is_met+else-comes_behind+else-not-is_over-2, else-is_met}

pub returns-then-not-is_over : goal.returns-then-not-is_over
returns-then-not-is_over g c closed =
    let items = c.args.chain.now.items in
    let over = λ (k : ℕ). g.T.Over.over c.args.over.now (child_at c.args.ends.now k) in
    let last = c.last_before-at.result in
    let some : last ≡ suc (last - 1) = omega (arith, c.if-at-eq0.false) in
    let here : last - 1 < length items = omega (arith, some, c.last_before-at.ensures.within, c.requires.from) in
    let its = there items (last - 1) here in (
      λ f. absurd (false≢true f),
      λ all. absurd (not_over items over c.args.new c.args.from (last - 1) its.0 (omega (arith, some, c.last_before-at.ensures.within)) its.1
          (c.last_before-at.ensures.passes (last - 1) its.0 some its.1) (sym c.is_over.ensures ∙ c.if-not-is_over.true) all),
    )

pub loop-at-init : goal.loop-at-init
loop-at-init g c =
    let items = c.args.chain.now.items in
    let over = λ (k : ℕ). g.T.Over.over c.args.over.now (child_at c.args.ends.now k) in
    let last = c.last_before-at.result in
    let some : last ≡ suc (last - 1) = omega (arith, c.if-at-eq0.false) in
    let here : last - 1 < length items = omega (arith, some, c.last_before-at.ensures.within, c.requires.from) in
    let e = c.item-kind.ensures in
    let o : IsTrue (over (last - 1)) = sym c.is_over.ensures ∙ c.if-not-is_over.false in
    record {
      within = omega arith;
      over = over_met items over c.args.new c.args.from last c.next_met-at.result
          (over_next items over c.args.new c.args.from last c.item-kind.result (over_last items over c.args.new c.args.from last c.last_before-at.ensures) e (λ t. o))
          c.next_met-at.ensures.none;
    }

pub returns-then-not-is_over-2 : goal.returns-then-not-is_over-2
returns-then-not-is_over-2 g c closed =
    let items = c.args.chain.now.items in
    let over = λ (k : ℕ). g.T.Over.over c.args.over.now (child_at c.args.ends.now k) in
    let last = c.last_before-at.result in
    let at = c.loop-at.at - 1 in
    let some : last ≡ suc (last - 1) = omega (arith, c.if-at-eq0.false) in
    let here : last - 1 < length items = omega (arith, some, c.last_before-at.ensures.within, c.requires.from) in
    let front : at < c.args.from = omega (arith, c.loop-at-test.true, c.loop-at.invariant.within, c.next_met-at.ensures.within, c.last_before-at.ensures.within) in
    let e = c.item-kind.ensures in
    let f = c.item-old.ensures in
    let t = c.last_before-at.ensures.passes (last - 1) c.item-kind.result some e in
    let m : IsTrue (is_met c.args.new c.item-old.result) = sym c.is_met.ensures ∙ c.if-is_met.true in (
      λ x. absurd (false≢true x),
      λ all. absurd (not_over items over c.args.new c.args.from at c.item-old.result front f
          (of_run c.args.new c.item-kind.result c.item-old.result t m (sym c.comes_behind.ensures ∙ c.if-comes_behind.false))
          (sym c.is_over-then-is_met.ensures ∙ c.if-not-is_over-2.true) all),
    )

pub loop-at-preserved : goal.loop-at-preserved
loop-at-preserved g c =
    let items = c.args.chain.now.items in
    let over = λ (k : ℕ). g.T.Over.over c.args.over.now (child_at c.args.ends.now k) in
    let last = c.last_before-at.result in
    let at = c.loop-at.at - 1 in
    let front : at < length items = omega (arith, c.loop-at-test.true, c.loop-at.invariant.within, c.next_met-at.ensures.within, c.last_before-at.ensures.within, c.requires.from) in
    let f = c.item-old.ensures in
    let is : IsTrue (meets is_before c.args.new c.item-old.result) → IsTrue (over at) =
    λ t. elim c.if-is_met.branch [
      | then-is_met+else-comes_behind+else-not-is_over-2 w ↦ sym w.is_over-then-is_met.ensures ∙ w.if-not-is_over-2.false
      | else-is_met w ↦ absurd (false≢true (sym w.if-is_met.false ∙ c.is_met.ensures ∙ met_of c.args.new c.item-old.result t))
    ] in
    record {
      within = omega (arith, c.loop-at.invariant.within, c.next_met-at-in-loop-at.ensures.within);
      over = over_met items over c.args.new c.args.from c.loop-at.at c.next_met-at-in-loop-at.result
          (over_next items over c.args.new c.args.from c.loop-at.at c.item-old.result c.loop-at.invariant.over f is) c.next_met-at-in-loop-at.ensures.none;
    }

pub returns-then-comes_behind : goal.returns-then-comes_behind
returns-then-comes_behind g c closed =
    let items = c.args.chain.now.items in
    let over = λ (k : ℕ). g.T.Over.over c.args.over.now (child_at c.args.ends.now k) in
    let last = c.last_before-at.result in
    let at = c.loop-at.at - 1 in
    let some : last ≡ suc (last - 1) = omega (arith, c.if-at-eq0.false) in
    let here : last - 1 < length items = omega (arith, some, c.last_before-at.ensures.within, c.requires.from) in
    let few : at < last - 1 = omega (arith, c.loop-at-test.true, c.loop-at.invariant.within, c.next_met-at.ensures.within) in
    let e = c.item-kind.ensures in
    let f = c.item-old.ensures in
    let t = c.last_before-at.ensures.passes (last - 1) c.item-kind.result some e in
    let o : IsTrue (over (last - 1)) = sym c.is_over.ensures ∙ c.if-not-is_over.false in (
      λ x. over_run items over c.args.new c.args.from closed c.requires.a_cell.0 c.requires.a_cell.1 (last - 1) c.loop-at.at c.item-kind.result c.item-old.result
          e (met_of c.args.new c.item-kind.result t) o few (omega (arith, c.loop-at-test.true)) f (sym c.is_met.ensures ∙ c.if-is_met.true) (sym c.comes_behind.ensures ∙ c.if-comes_behind.true) c.loop-at.invariant.over,
      λ x. refl,
    )

pub returns-then-comes_behind_all : goal.returns-then-comes_behind_all
returns-then-comes_behind_all g c closed =
    let items = c.args.chain.now.items in
    let over = λ (k : ℕ). g.T.Over.over c.args.over.now (child_at c.args.ends.now k) in
    let last = c.last_before-at.result in
    let some : last ≡ suc (last - 1) = omega (arith, c.if-at-eq0.false) in
    let here : last - 1 < length items = omega (arith, some, c.last_before-at.ensures.within, c.requires.from) in
    let e = c.item-kind.ensures in
    let l = subst (IsLast (meets is_before c.args.new) items c.args.from) some c.last_before-at.ensures in
    let o : IsTrue (over (last - 1)) = sym c.is_over.ensures ∙ c.if-not-is_over.false in
    (λ t. over_one items over c.args.new c.args.from closed c.requires.a_cell.0 c.requires.a_cell.1 (last - 1) c.item-kind.result l e (sym c.comes_behind_all.ensures ∙ c.if-comes_behind_all.true) o, λ x. refl)
