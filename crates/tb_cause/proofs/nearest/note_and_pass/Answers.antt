use Rattle.std.proofs.Common.{◌∷◌, [], refl}
use Rattle.tb_cause.specs.Keys.{has}
use Rattle.tb_cause.proofs.AskedNeedLemmas.{asked_more}
use Rattle.tb_cause.proofs.nearest.note_and_pass.Goals as goal
use Rattle.tb_steps.proofs.FirstLemmas.{there}

pub pass-requires-clause-own : goal.pass-requires-clause-own
pass-requires-clause-own c =
    let entries = c.args.indexed.now in
    let at = c.args.at in
    let w = there entries at c.requires.within in
    asked_more entries [] (at ∷ []) at w.0 c.requires.within w.1 (has c.args.own.now) (has c.note_at.new.keys) c.requires.none (λ k. c.in_ok-note_at.ensures k w.0 w.1) refl
