use Rattle.std.proofs.Common.{◌≡◌, ◌∙◌, ap, sym, map, length, reverse, arith, suc, ◌-◌, subst, replicate, add-one}
use Rattle.std.proofs.lemmas.List.{length-map}
use Rattle.tb_read.specs.Flow.{turn_of}
use Rattle.tb_read.specs.Shown.{shown_line}
use Rattle.tb_read.proofs.FollowLemmas.{WaysFrom, ways_none, ways_up, ways_all}
use Rattle.tb_read.proofs.follow.ways.Goals as goal

pub loop-at-init : goal.loop-at-init
loop-at-init c =
    let lines = map shown_line c.args.lines.now in
    let count : length c.args.lines.now ≡ length lines = simp length-map in
    let filled = c.in_ok-arrivals.ensures.items_if_clones_equal (λ y same. same) in
    let blank = c.in_ok-turns.ensures.items_if_clones_equal (λ y same. same) in
    record {
      within = omega arith;
      count = c.in_ok-arrivals.ensures.len;
      turn_count = c.in_ok-turns.ensures.len;
      found = subst (λ n. WaysFrom lines n c.in_ok-arrivals.arrivals.items c.in_ok-turns.turns.items (reverse c.new-levels.result.items)) (sym count)
          (ways_none lines _ _ _ (filled ∙ rw add-one (ap (λ n. replicate (suc n) n) count)) (blank ∙ ap (λ n. replicate n 0) count) (ap reverse c.new-levels.ensures.items));
    }

pub loop-at-preserved : goal.loop-at-preserved
loop-at-preserved c =
    let lines = map shown_line c.args.lines.now in
    let count : length c.args.lines.now ≡ length lines = simp length-map in
    let at = c.loop-at.at - 1 in
    let up : suc at ≡ c.loop-at.at = omega (arith, c.loop-at-test.true) in
    let from = subst (λ n. WaysFrom lines n c.loop-at.arrivals.items c.loop-at.turns.items (reverse c.loop-at.levels.items)) (sym up) c.loop-at.invariant.found in
    record {
      within = omega (arith, c.loop-at.invariant.within);
      count = c.loop-at.invariant.count;
      turn_count = c.loop-at.invariant.turn_count;
      found = ways_up lines at _ _ _ from _ c.line_at.ensures (omega (arith, c.loop-at.invariant.within, up, count)) _ _ _ c.arrival-stands.ensures (c.turn_of.ensures ∙ ap (λ s. turn_of at (reverse s)) c.deref-in-loop-at-2.ensures.value) c.in_ok-pass.ensures;
    }

pub returns : goal.returns
returns c =
    let first : c.loop-at.at ≡ 0 = omega (arith, c.loop-at-test.false) in
    ways_all _ _ _ (subst (λ n. WaysFrom (map shown_line c.args.lines.now) n c.loop-at.arrivals.items c.loop-at.turns.items (reverse c.loop-at.levels.items)) first c.loop-at.invariant.found)
