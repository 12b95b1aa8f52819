use Rattle.std.proofs.Common.{rules}
use Rattle.tb_model.proofs.TextLemmas.{can_cut}
use Rattle.tb_model.proofs.step_id.StepId.print.Goals as goal

pub truncate-requires : goal.truncate-requires
truncate-requires c within = can_cut c.args.text.now c.append_step_id-printed.new.text c.append_step_id-printed.ensures.begins c.len-len.result (search rules)
