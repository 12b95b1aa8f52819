use Rattle.std.proofs.Common.{◌≡◌, List, Some, reverse, subst, sym}
use Rattle.tb_model.specs.declared.step_id.StepId.{StepId}
use Rattle.tb_steps.specs.Entries.{Entry}
use Rattle.tb_steps.specs.Scans.{AreLegal, history_of, step_at}
use Rattle.tb_cause.specs.Chains.{causes_of}
use Rattle.tb_cause.proofs.CauseLemmas.{causes_in_front}
use Rattle.tb_cause.proofs.KeyedLemmas.{legal_so_far}
use Rattle.tb_cause.proofs.causes.causes_of.Goals as goal
use Rattle.tb_steps.proofs.FirstLemmas.{there}

pub causes_among-requires-clause-legal : goal.causes_among-requires-clause-legal
causes_among-requires-clause-legal c =
    let w = there c.args.entries.now c.args.at c.requires.within in
    subst AreLegal (sym c.front.ensures) (legal_so_far c.args.entries.now c.args.at w.0 c.requires.within w.1 c.requires.legal)

pub returns : goal.returns
returns c =
    causes_in_front c.args.entries.now c.args.at c.in_ok-steps.steps.items c.requires.within
    (subst (λ (es : List Entry). (step : StepId) → step_at es c.args.at ≡ Some step → c.in_ok-steps.steps.items ≡ reverse (causes_of step (history_of es))) c.front.ensures c.in_ok-steps.ensures)
