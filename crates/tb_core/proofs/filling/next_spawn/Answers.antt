use Rattle.std.proofs.Common.{arith}
use Rattle.tb_core.proofs.FillingLemmas.{few, next_made}
use Rattle.tb_core.proofs.filling.next_spawn.Goals as goal

pub overflow_add-n : goal.overflow_add-n
overflow_add-n c =
    let bound = few c.args.tables.now c.args.task.now c.children.result c.unwrap_or-n.result c.children.ensures c.unwrap_or-n.ensures c.requires in
    omega (arith, bound)

pub returns : goal.returns
returns c =
    next_made c.args.tables.now c.args.task.now c.children.result c.unwrap_or-n.result c.children.ensures c.unwrap_or-n.ensures c.args.spawned c.with_nth_child.result c.with_nth_child.ensures
