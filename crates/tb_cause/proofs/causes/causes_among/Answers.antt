use Rattle.std.proofs.Common.{map, ap, ◌∙◌}
use Rattle.tb_steps.specs.Scans.{step_at}
use Rattle.tb_cause.proofs.CauseLemmas.{causes_named}
use Rattle.tb_cause.proofs.causes.causes_among.Goals as goal

pub returns : goal.returns
returns c =
    let entries = c.args.entries.now in
    causes_named entries c.args.at c.in_ok-places.places.items c.in_ok-steps.steps.items c.in_ok-places.ensures (c.in_ok-steps.ensures ∙ ap (map (step_at entries)) c.deref.ensures.value)
