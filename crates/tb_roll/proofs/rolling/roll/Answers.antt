use Rattle.std.proofs.Common.{ap, ◌∙◌, reverse}
use Rattle.tb_core.specs.Rolled.{removals}
use Rattle.tb_core.specs.Seen.{history}
use Rattle.tb_roll.proofs.RollLemmas.{tells_first}
use Rattle.tb_roll.proofs.rolling.roll.Goals as goal

pub returns-in-Ok-clause-first : goal.returns-in-Ok-clause-first
returns-in-Ok-clause-first c =
    tells_first c.args.core.now.run c.args.step.now c.finish.result.items c.in-Ok.ensures.stands
    (c.finish.ensures.gone ∙ ap (λ i. reverse (removals i (history c.args.core.now.run))) c.in-Ok.ensures.step)
