use Rattle.tb_taskcheck.proofs.ReportLemmas.{one_report}
use Rattle.tb_taskcheck.proofs.laws.one_report.Goals as goal

pub returns : goal.returns
returns c lines o p out more a b = one_report lines o p out more a b
