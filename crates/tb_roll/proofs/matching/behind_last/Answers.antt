use Rattle.std.proofs.Common.{◌≡◌, ◌<◌, ◌+◌, ◌-◌, length, sym, ap, ◌∙◌, take, arith}
use Rattle.tb_model.specs.Facts.{own}
use Rattle.tb_steps.specs.Scans.{history_of}
use Rattle.tb_roll.proofs.MatchingLemmas.{behind_within, behind_counted, own_same}
use Rattle.tb_roll.proofs.matching.behind_last.Goals as goal
use Rattle.tb_steps.proofs.FirstLemmas.{there}

pub returns-then-is_of-clause-count : goal.returns-then-is_of-clause-count
returns-then-is_of-clause-count c others matched =
    let l = c.back in
    let entries = c.args.entries.now in
    let within : l.left - 1 < length entries = omega (arith, l.invariant.within, c.requires.within, c.back-test.true) in
    let e = there entries (l.left - 1) within in
    let known : l.left - 1 < length c.args.places.now = omega (arith, l.invariant.within, c.requires.count, c.back-test.true) in
    let next : l.left ≡ (l.left - 1) + 1 = omega (arith, c.back-test.true) in
    behind_counted entries others c.args.places.now c.args.at (l.left - 1) c.args.task.now e.0 matched within e.1 known (sym (c.is_of.ensures e.0 e.1) ∙ c.if-is_of.true)
    (ap (λ n. own c.args.task.now (history_of (take n entries))) (sym next) ∙ l.invariant.same)

pub returns-then-is_of-clause-within : goal.returns-then-is_of-clause-within
returns-then-is_of-clause-within c others matched =
    let l = c.back in
    let entries = c.args.entries.now in
    let within : l.left - 1 < length entries = omega (arith, l.invariant.within, c.requires.within, c.back-test.true) in
    let e = there entries (l.left - 1) within in
    let known : l.left - 1 < length c.args.places.now = omega (arith, l.invariant.within, c.requires.count, c.back-test.true) in
    let next : l.left ≡ (l.left - 1) + 1 = omega (arith, c.back-test.true) in
    behind_within entries others c.args.places.now c.args.at (l.left - 1) c.args.task.now e.0 matched within e.1 known (sym (c.is_of.ensures e.0 e.1) ∙ c.if-is_of.true)
    (ap (λ n. own c.args.task.now (history_of (take n entries))) (sym next) ∙ l.invariant.same)

pub back-preserved : goal.back-preserved
back-preserved c =
    let l = c.back in
    let entries = c.args.entries.now in
    let within : l.left - 1 < length entries = omega (arith, l.invariant.within, c.requires.within, c.back-test.true) in
    let next : l.left ≡ (l.left - 1) + 1 = omega (arith, c.back-test.true) in
    let e = there entries (l.left - 1) within in
    record {
      within = omega (arith, l.invariant.within);
      same =
          sym (own_same c.args.task.now entries (l.left - 1) e.0 within e.1 (sym (c.is_of.ensures e.0 e.1) ∙ c.if-is_of.false))
          ∙ ap (λ n. own c.args.task.now (history_of (take n entries))) (sym next) ∙ l.invariant.same;
    }
