use Rattle.std.proofs.Common.{sym, ◌∙◌}
use Rattle.tb_verdict.proofs.RefusalLemmas.{other_child, unnumbered}
use Rattle.tb_verdict.proofs.unfit.is_next_child.Goals as goal

pub returns-else-from : goal.returns-else-from
returns-else-from c = other_child c.args.task.now c.args.name.now c.in-Some.n c.from.result c.from-in-Some.result c.args.children (sym c.ordinal.ensures ∙ c.in-Some.is) c.from.ensures c.from-in-Some.ensures c.if-from.false

pub returns-in-None : goal.returns-in-None
returns-in-None c = unnumbered c.args.task.now c.args.name.now c.args.children (sym c.ordinal.ensures ∙ c.in-None.is)
