use Rattle.std.proofs.Common.{◌-◌, ◌∙◌, sym, arith}
use Rattle.tb_cause.specs.Keys.{has}
use Rattle.tb_cause.proofs.NearestPassLemmas.{passed_first, passed_met, passed_unmet, told_below, told_answered}
use Rattle.tb_cause.proofs.nearest.pass.Goals as goal

pub back-init : goal.back-init
back-init c =
    passed_first c.args.indexed.now c.history_is_legal.ensures.legal c.args.at c.requires.within c.reach_of-bottom.result.0 c.reach_of-bottom.result.1 c.reach_of-bottom.ensures.top c.reach_of-bottom.ensures.reach c.new-found.result.items c.new-places.result.items
    c.new-found.ensures.items c.new-places.ensures.items (has c.args.keys.now) c.requires.none

pub returns-then-is_answered_at : goal.returns-then-is_answered_at
returns-then-is_answered_at c =
    let l = c.back in
    told_answered c.args.indexed.now c.history_is_legal.ensures.legal c.args.at c.requires.within (l.left - 1) c.enter.new.places.items c.meet.new.places.items c.turned.result.items (has c.enter.new.keys)
    (passed_met c.args.indexed.now c.history_is_legal.ensures.legal c.args.at c.requires.within (has c.args.own.now) c.requires.own l.left l.found.items l.places.items (has l.keys) l.invariant
    (omega (arith, c.back-test.true)) c.meet.new.places.items c.in_ok-meet.ensures.places _ c.in_ok-meet.ensures.met c.if-branch.true c.enter.new.places.items c.in_ok-enter.ensures.places
    (has c.enter.new.keys) c.in_ok-enter.ensures.keys)
    (λ v isv. sym (c.is_answered_at.ensures v isv) ∙ c.if-is_answered_at.true)
    c.turned.ensures

pub back-preserved-else-is_answered_at : goal.back-preserved-else-is_answered_at
back-preserved-else-is_answered_at c =
    let l = c.back in
    passed_met c.args.indexed.now c.history_is_legal.ensures.legal c.args.at c.requires.within (has c.args.own.now) c.requires.own l.left l.found.items l.places.items (has l.keys) l.invariant
    (omega (arith, c.back-test.true)) c.meet.new.places.items c.in_ok-meet.ensures.places _ c.in_ok-meet.ensures.met c.if-branch.true c.enter.new.places.items c.in_ok-enter.ensures.places
    (has c.enter.new.keys) c.in_ok-enter.ensures.keys

pub back-preserved : goal.back-preserved
back-preserved c =
    let l = c.back in
    passed_unmet c.args.indexed.now c.history_is_legal.ensures.legal c.args.at c.requires.within (has c.args.own.now) c.requires.own l.left l.found.items l.places.items (has l.keys) l.invariant
    (omega (arith, c.back-test.true)) c.meet.new.places.items c.in_ok-meet.ensures.places _ c.in_ok-meet.ensures.met c.if-branch.false

pub returns : goal.returns
returns c =
    let l = c.back in
    told_below c.args.indexed.now c.history_is_legal.ensures.legal c.args.at c.requires.within c.reach_of-bottom.result.0 c.reach_of-bottom.result.1 l.left l.found.items l.places.items c.turned-2.result.items (has l.keys) l.invariant
    (omega (arith, c.back-test.false)) c.reach_of-bottom.ensures.reach c.turned-2.ensures
