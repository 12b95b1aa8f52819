use Rattle.std.proofs.Common.{◌≡◌, ◌-◌, ◌<◌, ℕ, length, refl, sym, ◌∙◌, arith}
use Rattle.std.specs.Prelude.{IsTrue}
use Rattle.std.proofs.lemmas.Bool.{false≢true}
use Rattle.tb_model.specs.declared.place.Place.TheVariants.{All}
use Rattle.tb_depend.specs.Nearness.{child_at}
use Rattle.tb_depend.proofs.NearLemmas.{over_next, over_all}
use Rattle.tb_depend.proofs.near.all_over.Goals as goal
use Rattle.tb_depend.proofs.near.all_over.Goals.{in-All, in_default}

pub returns-then-comes_behind_all : goal.returns-then-comes_behind_all
returns-then-comes_behind_all g c closed =
    let items = c.args.chain.now.items in
    let over = λ (k : ℕ). g.T.Over.over c.args.over.now (child_at c.args.ends.now k) in
    let at = c.loop-at.at - 1 in
    let here : at < length items = omega (arith, c.loop-at-test.true, c.loop-at.invariant.within, c.requires.from) in
    let e = c.item-old.ensures in
    let o : IsTrue (over at) = sym c.is_over.ensures ∙ c.if-not-is_over.false in
    let all = over_next items over c.args.new c.args.from c.loop-at.at c.item-old.result c.loop-at.invariant.over e (λ t. o) in
    let all_memory : c.item-old.result.place ≡ All = elim c.match-matches.branch [
      | in-All w ↦ w.in-All.is
      | in_default w ↦ absurd (false≢true (sym w.matches-is ∙ c.if-matches.true))
    ] in
    (λ t. over_all items over c.args.new c.args.from closed at c.item-old.result all e all_memory (sym c.comes_behind_all.ensures ∙ c.if-comes_behind_all.true) o, λ x. refl)

pub loop-at-preserved : goal.loop-at-preserved
loop-at-preserved g c =
    let items = c.args.chain.now.items in
    let over = λ (k : ℕ). g.T.Over.over c.args.over.now (child_at c.args.ends.now k) in
    let at = c.loop-at.at - 1 in
    let here : at < length items = omega (arith, c.loop-at-test.true, c.loop-at.invariant.within, c.requires.from) in
    let e = c.item-old.ensures in
    record {
      within = omega (arith, c.loop-at.invariant.within);
      over = over_next items over c.args.new c.args.from c.loop-at.at c.item-old.result c.loop-at.invariant.over e (λ t. absurd (false≢true (sym c.if-is_before.false ∙ c.is_before.ensures ∙ t)));
    }
