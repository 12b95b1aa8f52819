use Rattle.tb_runs.proofs.LineLemmas.{line_allowed}
use Rattle.tb_runs.proofs.laws.in_range.Goals as goal

pub returns : goal.returns
returns c = line_allowed
