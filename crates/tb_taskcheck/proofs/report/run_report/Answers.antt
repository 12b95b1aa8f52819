use Rattle.tb_taskcheck.proofs.LegalLemmas.{text_report}
use Rattle.tb_taskcheck.proofs.report.run_report.Goals as goal

pub returns-in-Ok : goal.returns-in-Ok
returns-in-Ok c lines legal found = text_report lines c.args.events c.args.judge.now c.args.found _ _ legal found c.in-Ok.ensures
