use Rattle.std.proofs.Common.{◌++◌, ◌∷◌, [], sym, ap, ◌∙◌}
use Rattle.std.proofs.lemmas.Bool.{false≢true}
use Rattle.tb_cause.specs.Keys.{Within, has}
use Rattle.tb_cause.proofs.KeyedLemmas.{given_more}
use Rattle.tb_cause.proofs.finding.enter_and_pass.Goals as goal
use Rattle.tb_steps.proofs.FirstLemmas.{there}

pub enter-requires-clause-upward : goal.enter-requires-clause-upward
enter-requires-clause-upward c q m w h = absurd (false≢true (sym (c.requires.none (Within m)) ∙ h))

pub pass-requires-clause-first : goal.pass-requires-clause-first
pass-requires-clause-first c = c.in_ok-enter.ensures.places ∙ ap (λ xs. xs ++ c.args.at ∷ []) c.new-places.ensures.items

pub pass-requires-clause-given : goal.pass-requires-clause-given
pass-requires-clause-given c =
    let entries = c.args.indexed.now in
    let w = there entries c.args.at c.requires.within in
    given_more entries [] c.enter.new.places.items c.args.at w.0 c.requires.within w.1 (has c.args.keys.now) (has c.enter.new.keys) c.requires.none (λ k. c.in_ok-enter.ensures.keys k w.0 w.1)
    (c.in_ok-enter.ensures.places ∙ ap (λ xs. xs ++ c.args.at ∷ []) c.new-places.ensures.items)
