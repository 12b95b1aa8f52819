use Rattle.std.proofs.Common.{◌∙◌, sym}
use Rattle.tb_core.proofs.FillingLemmas.{nth_child}
use Rattle.tb_core.proofs.filling.is_nth_child.Goals as goal

pub returns-then-m-n : goal.returns-then-m-n
returns-then-m-n c =
    nth_child c.args.name.now c.args.parent.now c.args.n c.in-Some.m c.is_parent_of.result (sym c.ordinal.ensures ∙ c.in-Some.is) c.if-m-n.true c.is_parent_of.ensures
