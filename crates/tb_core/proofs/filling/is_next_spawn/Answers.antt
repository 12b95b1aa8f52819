use Rattle.std.proofs.Common.{arith}
use Rattle.tb_core.proofs.FillingLemmas.{few, next_found, next_is}
use Rattle.tb_core.proofs.filling.is_next_spawn.Goals as goal

pub overflow_add-n : goal.overflow_add-n
overflow_add-n c =
    let bound = few c.args.tables.now c.args.task.now c.children.result c.unwrap_or-n.result c.children.ensures c.unwrap_or-n.ensures c.requires in
    omega (arith, bound)

pub returns : goal.returns
returns c = (
  λ h. next_found c.args.tables.now c.args.task.now c.children.result c.unwrap_or-n.result c.children.ensures c.unwrap_or-n.ensures c.args.spawned.now c.args.spare.now (c.is_nth_spawn.ensures.0 h),
  λ next. c.is_nth_spawn.ensures.1 (next_is c.args.tables.now c.args.task.now c.children.result c.unwrap_or-n.result c.children.ensures c.unwrap_or-n.ensures c.args.spawned.now c.args.spare.now c.requires next),
)
