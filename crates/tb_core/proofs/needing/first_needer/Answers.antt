use Rattle.std.proofs.Common.{◌<◌, ◌+◌, length, arith}
use Rattle.tb_steps.proofs.FirstLemmas.{there, none_yet, none_next, found_first}
use Rattle.tb_core.proofs.NeedingLemmas.{none_until}
use Rattle.tb_core.proofs.needing.first_needer.Goals as goal

pub forth-init : goal.forth-init
forth-init c =
    let es = c.args.entries.now in
    let at = c.args.at in
    let next = c.next_chance-later in
    record {
      behind = omega (arith, next.ensures.from);
      within = next.ensures.within;
      none = λ id legal step. none_until es at (at + 1) next.result id legal step (omega arith) next.ensures.from next.ensures.within next.ensures.none (none_yet es at id c.requires step);
    }

pub forth-preserved : goal.forth-preserved
forth-preserved c =
    let es = c.args.entries.now in
    let at = c.args.at in
    let later = c.forth.later in
    let next = c.next_chance-later-in-forth in
    let behind = c.forth.invariant.behind in
    let within : later < length es = omega (arith, c.forth-test.true, c.len-end.ensures) in
    let w = there es later within in
    let u = there es at c.requires in
    record {
      behind = omega (arith, behind, next.ensures.from);
      within = next.ensures.within;
      none = λ id legal step.
          none_until es at (later + 1) next.result id legal step (omega (arith, behind)) next.ensures.from next.ensures.within next.ensures.none
          (none_next es at later u.0 w.0 id behind within u.1 w.1 step (c.forth.invariant.none id legal step) c.needs.result legal c.needs.ensures c.if-needs.false);
    }

pub returns-then-needs-clause-needer : goal.returns-then-needs-clause-needer
returns-then-needs-clause-needer c id legal step =
    let es = c.args.entries.now in
    let at = c.args.at in
    let later = c.forth.later in
    let within : later < length es = omega (arith, c.forth-test.true, c.len-end.ensures) in
    let w = there es later within in
    let u = there es at c.requires in
    found_first es at later u.0 w.0 id c.forth.invariant.behind within u.1 w.1 step (c.forth.invariant.none id legal step) c.needs.result legal c.needs.ensures c.if-needs.true
