use Rattle.std.proofs.Common.{◌≡◌, false, sym, ap, ◌∙◌, arith, ⊎_elim}
use Rattle.std.proofs.lemmas.Bool.{cases_eq}
use Rattle.tb_races.specs.Orders.{AllNeeds}
use Rattle.tb_lanes.specs.Clocks.{reaches}
use Rattle.tb_lanes.specs.Needing.{place_at}
use Rattle.tb_order.proofs.needing.is_reached.Goals as goal

pub returns-then-reaches-clause-yes : goal.returns-then-reaches-clause-yes
returns-then-reaches-clause-yes c t asked entries n are told full =
    let i = c.loop-late.late-index in
    let inside = c.loop-late-test.true in
    (i, inside, (c.reaches.ensures asked AllNeeds entries n are told (omega (arith, full, c.requires.late i inside))).0 c.if-reaches.true)

pub loop-late-preserved : goal.loop-late-preserved
loop-late-preserved c asked entries n are told full a i l =
    let k = c.loop-late.late-index in
    let none : reaches AllNeeds entries (place_at c.args.places.now k) c.args.early ≡ false =
    sym ((c.reaches.ensures asked AllNeeds entries n are told (omega (arith, full, c.requires.late k c.loop-late-test.true))).1 a) ∙ c.if-reaches.false in
    ⊎_elim (λ e. ap (λ j. reaches AllNeeds entries (place_at c.args.places.now j) c.args.early) e ∙ none) (λ d. c.loop-late.invariant asked entries n are told full a i (omega (arith, l, d))) (cases_eq i k)

pub returns-clause-no : goal.returns-clause-no
returns-clause-no c f asked entries n are told full a i l = c.loop-late.invariant asked entries n are told full a i (omega (arith, l, c.loop-late-test.false))
