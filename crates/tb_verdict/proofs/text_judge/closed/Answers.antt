use Rattle.std.proofs.Common.{sym, ◌∙◌}
use Rattle.tb_verdict.proofs.WholeLemmas.{is_run}
use Rattle.tb_verdict.proofs.text_judge.closed.Goals as goal

pub returns-in-Some : goal.returns-in-Some
returns-in-Some c lines s taken behind =
    is_run lines s c.args.judge c.in-Some.events taken behind (sym (c.events.ensures s behind) ∙ c.in-Some.is)
