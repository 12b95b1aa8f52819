use Rattle.std.proofs.Common.{ap, ◌∙◌, unwrap_or}
use Rattle.tb_depend.proofs.LayoutLemmas.{end_of_last}
use Rattle.tb_depend.proofs.layout.end_of.Goals as goal

pub returns-in-Some : goal.returns-in-Some
returns-in-Some c = ap (λ o. unwrap_or o 0) c.in-Some.ensures.value ∙ end_of_last 0 c.args.ends.now

pub returns-in-None : goal.returns-in-None
returns-in-None c = ap (λ o. unwrap_or o 0) c.in-None.ensures.value ∙ end_of_last 0 c.args.ends.now
