use Rattle.std.proofs.Common.{[], ◌++◌, ◌∙◌, ap}
use Rattle.tb_model.proofs.NumberTextLemmas.{levels_more}
use Rattle.tb_model.proofs.level_text.spelled.Goals as goal

pub levels-preserved : goal.levels-preserved
levels-preserved c =
    levels_more [] c.args.numbers.now c.levels.rest.now c.levels.text.items _ c.in-Some.at c.levels.invariant
    (c.in-Ok.ensures.ok ∙ ap (λ x. c.levels.text.items ++ x) c.digit_levels-levels.ensures)
