use Rattle.std.proofs.Common.{sym, subst, ◌∙◌}
use Rattle.tb_next.specs.Floor.{IsKeptBelow}
use Rattle.tb_next.proofs.FloorStepLemmas.{below_task, below_floor}
use Rattle.tb_next.proofs.floor.Floor.keep_below.Goals as goal

pub returns-then-is_gt : goal.returns-then-is_gt
returns-then-is_gt c =
    subst (IsKeptBelow c.args.task c.args.self.now) (sym c.set.ensures)
    (below_task c.args.task c.in-Some.floor c.args.self.now c.cmp.result c.is_gt.result (sym c.self.view_is ∙ c.in-Some.is) c.cmp.ensures c.is_gt.ensures c.if-is_gt.true)

pub returns-else-is_gt : goal.returns-else-is_gt
returns-else-is_gt c =
    below_floor c.args.task c.in-Some.floor c.args.self.now c.cmp.result c.is_gt.result (sym c.self.view_is ∙ c.in-Some.is) c.cmp.ensures c.is_gt.ensures c.if-is_gt.false
