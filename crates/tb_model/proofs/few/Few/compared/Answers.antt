use Rattle.std.proofs.Common.{◌∙◌, sym}
use Rattle.tb_model.proofs.BlockOrderLemmas.{none_left, some_left}
use Rattle.tb_model.proofs.few.Few.compared.Goals as goal

pub returns-in_default-others : goal.returns-in_default-others
returns-in_default-others c =
    some_left c.levels.own.now c.levels.others.now c.in-len1-up.len_at_least c.in_default-others.len_below ∙ sym c.levels.invariant

pub returns : goal.returns
returns c = c.cmp-2.ensures ∙ none_left c.levels.own.now c.levels.others.now c.in_default.len_below ∙ sym c.levels.invariant
