use Rattle.std.proofs.Common.{◌≡◌, ◌-◌, ◌<◌, ◌∙◌, false, length, arith, subst}
use Rattle.tb_lanes.specs.Clocks.{both_at, of_one}
use Rattle.tb_lanes.proofs.NumberLemmas.{own_tested}
use Rattle.tb_order.proofs.numbering.is_own.Goals as goal
use Rattle.tb_steps.proofs.FirstLemmas.{there}

pub returns-then-previous-gt0-clause-own : goal.returns-then-previous-gt0-clause-own
returns-then-previous-gt0-clause-own c h =
    let entries = c.args.entries.now in
    let inside : c.args.previous - 1 < length entries = omega (arith, c.requires.at, c.requires.previous, c.if-previous-gt0.true) in
    let x = there entries c.args.at c.requires.at in
    let y = there entries (c.args.previous - 1) inside in (
      c.args.previous - 1,
      omega (arith, c.if-previous-gt0.true),
      own_tested entries c.args.at c.requires.at x.0 x.1 (c.args.previous - 1) inside y.0 y.1 c.are_of_one.result (c.are_of_one.ensures x.0 y.0 x.1 y.1) ∙ h,
    )

pub returns-then-previous-gt0-clause-other : goal.returns-then-previous-gt0-clause-other
returns-then-previous-gt0-clause-other c h b is =
    let entries = c.args.entries.now in
    let inside : c.args.previous - 1 < length entries = omega (arith, c.requires.at, c.requires.previous, c.if-previous-gt0.true) in
    let x = there entries c.args.at c.requires.at in
    let y = there entries (c.args.previous - 1) inside in
    let same : c.args.previous - 1 ≡ b = omega (arith, is) in
    subst (λ m. both_at of_one entries c.args.at m ≡ false) same
    (own_tested entries c.args.at c.requires.at x.0 x.1 (c.args.previous - 1) inside y.0 y.1 c.are_of_one.result (c.are_of_one.ensures x.0 y.0 x.1 y.1) ∙ h)
