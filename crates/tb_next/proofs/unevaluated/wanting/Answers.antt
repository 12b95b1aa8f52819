use Rattle.std.proofs.Common.{sym, subst}
use Rattle.tb_core.specs.declared.step_refusal.StepRefusal.TheVariants.{Memory, Full}
use Rattle.tb_next.specs.Unevaluated.{IsWanting}
use Rattle.tb_next.proofs.UnevaluatedLemmas.{full_clear, wanting_clear, wanting_kept}
use Rattle.tb_next.proofs.unevaluated.wanting.Goals as goal

pub returns-in-Some-kept_from : goal.returns-in-Some-kept_from
returns-in-Some-kept_from c = wanting_kept c.args.program.now c.args.core.now.run c.args.task.now c.args.full c.in-Some-kept_from.refusal c.in-Some-kept_from.ensures.some

pub returns-then-full : goal.returns-then-full
returns-then-full c =
    subst (λ b. IsWanting c.args.program.now c.args.core.now.run b c.args.task.now Full) (sym c.if-full.true) (full_clear c.args.program.now c.args.core.now.run c.args.task.now c.in-None.ensures.none)

pub returns-else-full : goal.returns-else-full
returns-else-full c =
    subst (λ b. IsWanting c.args.program.now c.args.core.now.run b c.args.task.now Memory) (sym c.if-full.false) (wanting_clear c.args.program.now c.args.core.now.run c.args.task.now c.in-None.ensures.none)
