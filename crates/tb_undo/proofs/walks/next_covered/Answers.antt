use Rattle.std.proofs.Common.{◌≡◌, false, sym, subst, ◌∙◌}
use Rattle.tb_model.specs.Items.{has_no_items}
use Rattle.tb_depend.specs.Relations.{is_covered}
use Rattle.tb_undo.proofs.WalkLemmas.{none_next, none_left}
use Rattle.tb_undo.proofs.OverLemmas.{none_counted, none_covered}
use Rattle.tb_wait.specs.Kin.{IsNextUnended}
use Rattle.tb_undo.proofs.walks.next_covered.Goals as goal

pub walk-preserved : goal.walk-preserved
walk-preserved c =
    none_next c.args.waits.now.tasks c.args.task.now (is_covered c.args.children.now.siblings c.args.items.now) c.walk.low c.walk.invariant c.in-Some.m c.in-Some.ensures (sym c.covers.ensures ∙ c.if-covers.false)

pub returns-then-are_over_for : goal.returns-then-are_over_for
returns-then-are_over_for c closed =
    let some : has_no_items c.args.items.now ≡ false = none_counted c.args.items.now ∙ sym c.is_empty.ensures ∙ c.if-not-is_empty.true in
    none_covered c.args.waits.now.tasks c.args.task.now c.args.children.now.siblings c.args.items.now some ((c.are_over_for.ensures closed).0 c.if-are_over_for.true)

pub returns : goal.returns
returns c closed =
    none_left c.args.waits.now.tasks c.args.task.now (is_covered c.args.children.now.siblings c.args.items.now) c.walk.low c.walk.invariant
    (subst (IsNextUnended c.args.waits.now.tasks c.args.task.now c.walk.low) c.in_default.is c.next_unended.ensures)
