use Rattle.std.proofs.Common.{sym, ◌∙◌}
use Rattle.tb_depend.specs.Relations.{depends}
use Rattle.tb_undo.proofs.WalkLemmas.{none_next, none_behind, later_free}
use Rattle.tb_undo.proofs.walks.next_before.Goals as goal

pub returns-then-m-n : goal.returns-then-m-n
returns-then-m-n c closed =
    let children = c.args.siblings.now.siblings in
    none_behind c.args.waits.now.tasks c.args.parent.now (depends children c.args.n) c.walk.low c.walk.invariant c.in-Some.m c.args.n c.in-Some.ensures c.if-m-n.true (later_free children c.args.n)

pub walk-preserved : goal.walk-preserved
walk-preserved c =
    none_next c.args.waits.now.tasks c.args.parent.now (depends c.args.siblings.now.siblings c.args.n) c.walk.low c.walk.invariant c.in-Some.m c.in-Some.ensures (sym c.is_before.ensures ∙ c.if-is_before.false)
