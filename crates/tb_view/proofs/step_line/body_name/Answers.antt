use Rattle.std.proofs.Common.{sym}
use Rattle.tb_view.proofs.NameLemmas.{found_is}
use Rattle.tb_view.proofs.step_line.body_name.Goals as goal

pub returns-in-Some : goal.returns-in-Some
returns-in-Some c = sym (found_is c.args.program.now c.args.begins _ c.in-Some.ensures)

pub returns-in-None : goal.returns-in-None
returns-in-None c = sym (found_is c.args.program.now c.args.begins _ c.in-None.ensures)
