use Rattle.std.proofs.Common.{◌≡◌, ◌-◌, ◌<◌, ◌≤◌, suc, [], ◌∷◌, ◌++◌, length, subst, arith, rules}
use Rattle.tb_depend.specs.Nearness.{child_at}
use Rattle.tb_depend.proofs.LastLemmas.{there}
use Rattle.tb_depend.proofs.NearestLemmas.{AddsFrom, adds_all, adds_none, added_on, passed_on}
use Rattle.tb_depend.proofs.nearest.add_near.Goals as goal
use Rattle.tb_depend.proofs.nearest.add_near.Goals.{then-not-is_passed+in_ok-push, else-not-is_passed}

pub loop-at-init : goal.loop-at-init
loop-at-init c = record {
  within = omega arith;
  passes = c.last_before-last.ensures.passes;
  adds = adds_none c.args.ends.now c.args.chain.now.items c.args.new c.args.from c.args.near.now.items c.last_before-last.result c.last_before-last.ensures;
}

pub loop-at-preserved : goal.loop-at-preserved
loop-at-preserved c =
    let ends = c.args.ends.now in
    let items = c.args.chain.now.items in
    let new = c.args.new in
    let from = c.args.from in
    let before = c.args.near.now.items in
    let at = c.loop-at.at in
    let next = c.last_before-at in
    let some : 0 < at = omega (arith, c.loop-at-test.true) in
    let within = c.last_before-last.ensures.within in
    let full : c.last_before-last.result ≤ length items = omega (arith, within, c.requires.from) in
    let high : at ≤ from = omega (arith, within, c.loop-at.invariant.within) in
    let here = there items (at - 1) (omega (arith, some, c.loop-at.invariant.within, c.requires.from)) in
    let last : at ≡ suc (at - 1) = omega (arith, some) in
    record {
      within = omega (arith, next.ensures.within, c.loop-at.invariant.within);
      passes = next.ensures.passes;
      adds = elim c.if-not-is_passed.branch [
        | then-not-is_passed+in_ok-push w ↦
            let added = added_on ends items new from before c.loop-at.near.items at next.result here.0 some high here.1 (c.loop-at.invariant.passes (at - 1) here.0 last here.1) next.ensures c.loop-at.invariant.adds in
            let now : c.loop-at.near.items ++ child_at ends (at - 1) ∷ [] ≡ c.if-not-is_passed.near.items = search rules in
            subst (λ l. AddsFrom ends items new from before l next.result) now added
        | else-not-is_passed w ↦
            let passed = passed_on ends items new from before c.loop-at.near.items at c.last_before-last.result next.result here.0 some c.loop-at.invariant.within within full c.last_before-last.ensures.passes here.1 (c.is_passed.ensures w.if-not-is_passed.false) next.ensures c.loop-at.invariant.adds in
            let now : c.loop-at.near.items ≡ c.if-not-is_passed.near.items = search rules in
            subst (λ l. AddsFrom ends items new from before l next.result) now passed
      ];
    }

pub returns : goal.returns
returns c =
    adds_all c.args.ends.now c.args.chain.now.items c.args.new c.args.from c.args.near.now.items c.loop-at.near.items c.loop-at.at (omega (arith, c.loop-at-test.false)) c.loop-at.invariant.adds
