use Rattle.std.proofs.Common.{sym, ◌∙◌}
use Rattle.tb_model.specs.Facts.{is_print}
use Rattle.tb_next.proofs.NewestLemmas.{last_within, last_found, none_of_all}
use Rattle.tb_next.proofs.newest.newest_print.Goals as goal

pub step_at-requires-clause-within : goal.step_at-requires-clause-within
step_at-requires-clause-within c =
    last_within (λ v. is_print v.action) is_print c.args.entries.now (λ v no. no) c.args.places.now c.requires.places c.in-Some.at.now c.in-Some.ensures.value

pub returns-in_ok-step_at-in-Some : goal.returns-in_ok-step_at-in-Some
returns-in_ok-step_at-in-Some c =
    sym c.in_ok-step_at-in-Some.ensures
    ∙ last_found (λ v. is_print v.action) is_print c.args.entries.now (λ v no. no) c.args.places.now c.requires.places c.in-Some.at.now c.in-Some.ensures.value (λ v yes. yes)

pub returns-in-None : goal.returns-in-None
returns-in-None c = none_of_all (λ v. is_print v.action) is_print c.args.entries.now (λ v no. no) c.args.places.now c.requires.places c.in-None.ensures.value
