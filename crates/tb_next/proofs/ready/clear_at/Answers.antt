use Rattle.std.proofs.Common.{◌∙◌}
use Rattle.tb_next.proofs.ComingLemmas.{can_by_coming}
use Rattle.tb_next.proofs.ready.clear_at.Goals as goal

pub returns-then-is_clear_at-clause-can : goal.returns-then-is_clear_at-clause-can
returns-then-is_clear_at-clause-can c =
    can_by_coming c.args.program.now c.args.core.now.run c.args.task.now c.in_ok-coming.coming c.in_ok-coming.ensures c.is_clear_at.result c.requires.fits c.is_clear_at.ensures ∙ c.if-is_clear_at.true

pub returns-else-is_clear_at-clause-can : goal.returns-else-is_clear_at-clause-can
returns-else-is_clear_at-clause-can c =
    can_by_coming c.args.program.now c.args.core.now.run c.args.task.now c.in_ok-coming.coming c.in_ok-coming.ensures c.is_clear_at.result c.requires.fits c.is_clear_at.ensures ∙ c.if-is_clear_at.false
