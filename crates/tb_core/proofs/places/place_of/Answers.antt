use Rattle.std.proofs.Common.{◌<◌, ◌∙◌, arith, length, refl, sym}
use Rattle.tb_core.proofs.RenumberLemmas.{some_entry}
use Rattle.tb_steps.proofs.ScanLemmas.{found_stands, found_step_at, not_of_other, not_of_number}
use Rattle.tb_core.proofs.places.place_of.Goals.{then-is_of+else-count-id, else-is_of}
use Rattle.tb_core.proofs.places.place_of.Goals as goal

pub returns-then-count-id-clause-there : goal.returns-then-count-id-clause-there
returns-then-count-id-clause-there c =
    let es = c.args.entries.now in
    let within : c.loop-at.at < length es = omega (arith, c.loop-at-test.true, c.len-at-end.ensures) in
    let w = some_entry es c.loop-at.at within in (
      λ h. found_stands es c.loop-at.at w.0 c.args.id.now c.loop-at.count within w.1 (sym (c.is_of.ensures w.0 w.1) ∙ c.if-is_of.true) c.loop-at.invariant.counted c.if-count-id.true,
      λ h. refl,
    )

pub returns-then-count-id-clause-step : goal.returns-then-count-id-clause-step
returns-then-count-id-clause-step c =
    let es = c.args.entries.now in
    let within : c.loop-at.at < length es = omega (arith, c.loop-at-test.true, c.len-at-end.ensures) in
    let w = some_entry es c.loop-at.at within in
    found_step_at es c.loop-at.at w.0 c.args.id.now c.loop-at.count within w.1 (sym (c.is_of.ensures w.0 w.1) ∙ c.if-is_of.true) c.loop-at.invariant.counted c.if-count-id.true

pub loop-at-preserved : goal.loop-at-preserved
loop-at-preserved c =
    let es = c.args.entries.now in
    let within : c.loop-at.at < length es = omega (arith, c.loop-at-test.true, c.len-at-end.ensures) in
    let w = some_entry es c.loop-at.at within in
    elim c.if-is_of.branch [
      | then-is_of+else-count-id b ↦ rw (b.count-is) (not_of_number c.args.id.now es c.loop-at.at c.loop-at.count w.0 within w.1 c.loop-at.invariant (sym (c.is_of.ensures w.0 w.1) ∙ b.if-is_of.true) b.if-count-id.false)
      | else-is_of b ↦ rw (b.count-is) (not_of_other c.args.id.now es c.loop-at.at c.loop-at.count w.0 within w.1 c.loop-at.invariant (sym (c.is_of.ensures w.0 w.1) ∙ b.if-is_of.false))
    ]
