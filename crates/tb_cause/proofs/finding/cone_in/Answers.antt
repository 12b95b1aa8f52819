use Rattle.std.proofs.Common.{◌∙◌, ap, map}
use Rattle.tb_steps.specs.Scans.{step_at}
use Rattle.tb_cause.proofs.ConeLemmas.{named_cone}
use Rattle.tb_cause.proofs.finding.cone_in.Goals as goal

pub returns-clause-cone : goal.returns-clause-cone
returns-clause-cone c =
    named_cone c.args.step.now c.args.entries.now _ c.in_ok-places.ensures.found (c.in_ok-steps.ensures ∙ ap (map (step_at c.args.entries.now)) c.deref.ensures.value)
