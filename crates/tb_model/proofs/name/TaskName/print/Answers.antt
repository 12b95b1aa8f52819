use Rattle.std.proofs.Common.{rules}
use Rattle.tb_model.proofs.TextLemmas.{can_cut}
use Rattle.tb_model.proofs.name.TaskName.print.Goals as goal

pub truncate-requires : goal.truncate-requires
truncate-requires c within = can_cut c.args.text.now c.append_name-printed.new.text c.append_name-printed.ensures.begins c.len-len.result (search rules)
