use Rattle.std.proofs.Common.{Some, sym, ap, ◌∙◌}
use Rattle.tb_model.proofs.TestLemmas.{same_true}
use Rattle.tb_wait.proofs.NearLemmas.{here_found}
use Rattle.tb_wait.proofs.near.stands_at.Goals as goal

pub returns-in-Some-clause-here : goal.returns-in-Some-clause-here
returns-in-Some-clause-here c h =
    let same = same_true c.in-Some.key.now c.args.name.now (sym c.eq.ensures ∙ h) in
    here_found c.args.name.now c.args.names.now.keys c.args.at c.in-Some.ensures.distinct (sym c.in-Some.ensures.key ∙ ap Some same)
