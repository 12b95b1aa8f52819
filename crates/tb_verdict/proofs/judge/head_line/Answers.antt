use Rattle.std.proofs.Common.{Ok, ap, ◌∙◌}
use Rattle.tb_verdict.proofs.HeldLemmas.{said_allowed}
use Rattle.tb_verdict.proofs.judge.head_line.Goals as goal

pub head_said-requires : goal.head_said-requires
head_said-requires c =
    said_allowed c.args.stage.now c.args.firsts.now.entries c.args.line.now c.in-Ok-Some.said (c.in-Ok-Some.ensures.ok ∙ ap Ok c.in-Ok-Some.field-0-is)
