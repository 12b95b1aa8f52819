use Rattle.std.proofs.Common.{◌<◌, length, sym, ◌∙◌, arith}
use Rattle.tb_roll.proofs.MatchingLemmas.{next_found, own_same}
use Rattle.tb_roll.proofs.matching.next_of.Goals as goal
use Rattle.tb_steps.proofs.FirstLemmas.{there}

pub returns-then-is_of-clause-step : goal.returns-then-is_of-clause-step
returns-then-is_of-clause-step c =
    let entries = c.args.entries.now in
    let at = c.loop-at.at in
    let within : at < length entries = omega (arith, c.loop-at-test.true, c.len-at-end.ensures) in
    let e = there entries at within in
    next_found entries at c.args.begin c.args.task.now e.0 within e.1 (sym (c.is_of.ensures e.0 e.1) ∙ c.if-is_of.true) c.loop-at.invariant

pub loop-at-preserved : goal.loop-at-preserved
loop-at-preserved c =
    let entries = c.args.entries.now in
    let at = c.loop-at.at in
    let within : at < length entries = omega (arith, c.loop-at-test.true, c.len-at-end.ensures) in
    let e = there entries at within in
    own_same c.args.task.now entries at e.0 within e.1 (sym (c.is_of.ensures e.0 e.1) ∙ c.if-is_of.false) ∙ c.loop-at.invariant
