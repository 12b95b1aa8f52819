use Rattle.std.proofs.Common.{◌∙◌, subst}
use Rattle.tb_verdict.specs.Held.{IsBehind}
use Rattle.tb_verdict.proofs.HeldLemmas.{heading_count, running_count}
use Rattle.tb_verdict.proofs.judge.Judge.events.Goals as goal

pub returns-in-Heading : goal.returns-in-Heading
returns-in-Heading c s behind =
    c.heading_events.ensures ∙ heading_count c.in-Heading.stage c.in-Heading.firsts.entries c.in-Heading.root s (subst (λ j. IsBehind j s) c.in-Heading.is behind)

pub returns-in-Running : goal.returns-in-Running
returns-in-Running c s behind = running_count c.in-Running.count c.in-Running.state s (subst (λ j. IsBehind j s) c.in-Running.is behind)
