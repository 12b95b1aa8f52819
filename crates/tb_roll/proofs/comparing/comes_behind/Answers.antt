use Rattle.std.proofs.Common.{◌<◌, length, sym, ◌∙◌, get_or, arith}
use Rattle.std.proofs.lemmas.Bool.{false≢true}
use Rattle.std.proofs.lemmas.Option.{slice_get-get_or}
use Rattle.tb_roll.proofs.OrderLemmas.{passes, fails}
use Rattle.tb_roll.proofs.comparing.comes_behind.Goals.{else-place-places-via-then-place-places+else-needs, else-place-places-via-else-place-places}
use Rattle.tb_roll.proofs.comparing.comes_behind.Goals as goal
use Rattle.tb_steps.proofs.FirstLemmas.{there}

pub returns-then-needs : goal.returns-then-needs
returns-then-needs c others i v matched step here =
    let at = c.loop-earlier.earlier in
    let entries = c.args.entries.now in
    let places = c.args.places.now in
    let later = c.args.later in
    let known : later < length places = omega (arith, c.requires.within, c.requires.count) in
    let e = there entries at (omega (arith, c.requires.within, c.loop-earlier-test.true)) in
    let told = sym (c.needs.ensures v e.0 here e.1) ∙ c.if-needs.true in
    sym
    (fails entries others places matched later at (get_or places later 0) (get_or places at 0) v.event i e.0 c.loop-earlier-test.true c.requires.within e.1
    (slice_get-get_or places later 0 known) (slice_get-get_or places at 0 (omega (arith, known, c.loop-earlier-test.true))) step told c.if-place-places.true)

pub loop-earlier-preserved : goal.loop-earlier-preserved
loop-earlier-preserved c others i v matched step here =
    let at = c.loop-earlier.earlier in
    let entries = c.args.entries.now in
    let places = c.args.places.now in
    let later = c.args.later in
    let known : later < length places = omega (arith, c.requires.within, c.requires.count) in
    let e = there entries at (omega (arith, c.requires.within, c.loop-earlier-test.true)) in
    passes entries others places matched later at (get_or places later 0) (get_or places at 0) v.event i e.0 c.loop-earlier-test.true c.requires.within e.1
    (slice_get-get_or places later 0 known) (slice_get-get_or places at 0 (omega (arith, known, c.loop-earlier-test.true))) step
    (λ n. elim c.else-place-places.branch [
      | else-place-places-via-then-place-places+else-needs w ↦ absurd (false≢true (sym w.if-needs.false ∙ w.needs.ensures v e.0 here e.1 ∙ n))
      | else-place-places-via-else-place-places w ↦ omega (arith, w.if-place-places.false)
    ])
    (c.loop-earlier.invariant others i v matched step here)
