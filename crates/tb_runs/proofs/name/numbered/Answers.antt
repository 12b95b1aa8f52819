use Rattle.std.proofs.Common.{◌≡◌, drop, suc, Some, None, sym, ◌∙◌}
use Rattle.tb_runs.specs.Names.{ordinal_of, last_step}
use Rattle.tb_runs.proofs.NameLemmas.{numbered_some, numbered_none}
use Rattle.tb_runs.proofs.name.numbered.Goals as goal

pub returns-in-Some-ordinal-clause-ok : goal.returns-in-Some-ordinal-clause-ok
returns-in-Some-ordinal-clause-ok c =
    let step : ordinal_of last_step (drop (suc c.args.at) c.args.word.now) ≡ Some c.in-Some-ordinal.k = rw (← c.behind.ensures) (sym c.ordinal.ensures.number ∙ c.in-Some-ordinal.is) in
    numbered_some c.args.word.now c.args.at c.in-Some.task c.in-Some-ordinal.k c.requires.at (sym c.in_ok-task.ensures.ok ∙ c.in-Some.is) step

pub returns-in-None-clause-ok : goal.returns-in-None-clause-ok
returns-in-None-clause-ok c =
    let step : ordinal_of last_step (drop (suc c.args.at) c.args.word.now) ≡ None = rw (← c.behind.ensures) (sym c.ordinal.ensures.number ∙ c.in-None.is) in
    numbered_none c.args.word.now c.args.at c.in-Some.task c.requires.at (sym c.in_ok-task.ensures.ok ∙ c.in-Some.is) step
