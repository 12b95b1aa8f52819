use Rattle.std.proofs.Common.{arith}
use Rattle.std.specs.Option.{option_copied}
use Rattle.tb_ready.proofs.NextLemmas.{next_some, next_none}
use Rattle.tb_ready.proofs.order.next_marked.Goals as goal

pub returns-then-place-len : goal.returns-then-place-len
returns-then-place-len c =
    next_some c.args.names.now.tasks c.args.order.now.items c.requires (option_copied c.args.after) c.place_behind-place.result c.place_behind-place.ensures c.marked.ensures.unique (omega arith) c.marked.result.now c.marked.ensures.name

pub returns-else-place-len : goal.returns-else-place-len
returns-else-place-len c =
    next_none c.args.names.now.tasks c.args.order.now.items c.requires (option_copied c.args.after) c.place_behind-place.result c.place_behind-place.ensures (omega arith)
