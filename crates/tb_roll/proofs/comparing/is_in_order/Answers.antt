use Rattle.std.proofs.Common.{◌<◌, length, sym, ◌∙◌, take, arith}
use Rattle.tb_model.specs.Needs.{step_of}
use Rattle.tb_steps.specs.Scans.{history_of}
use Rattle.tb_steps.proofs.FirstLemmas.{step_read, there}
use Rattle.tb_roll.proofs.OrderLemmas.{ordered_more, ordered_no_more}
use Rattle.tb_roll.proofs.comparing.is_in_order.Goals as goal

pub returns-then-not-comes_behind : goal.returns-then-not-comes_behind
returns-then-not-comes_behind c others matched =
    let entries = c.args.entries.now in
    let later = c.loop-later.later in
    let within : later < length entries = omega (arith, c.loop-later-test.true, c.len-later-end.ensures) in
    let e = there entries later within in
    let i = step_of (history_of (take later entries)) e.0.event in
    let asked = sym (c.comes_behind.ensures others i e.0 matched (step_read entries later e.0 within e.1) e.1) in
    sym (ordered_no_more entries others later e.0 within e.1 (asked ∙ c.if-not-comes_behind.true))

pub loop-later-preserved : goal.loop-later-preserved
loop-later-preserved c others matched =
    let entries = c.args.entries.now in
    let later = c.loop-later.later in
    let within : later < length entries = omega (arith, c.loop-later-test.true, c.len-later-end.ensures) in
    let e = there entries later within in
    let i = step_of (history_of (take later entries)) e.0.event in
    let asked = sym (c.comes_behind.ensures others i e.0 matched (step_read entries later e.0 within e.1) e.1) in
    ordered_more entries others later e.0 within e.1 (asked ∙ c.if-not-comes_behind.false) (c.loop-later.invariant others matched)
