use Rattle.std.proofs.Common.{◌≡◌, ◌∙◌, ap}
use Rattle.tb_undo.specs.Obstacles.{is_child_over}
use Rattle.tb_undo.proofs.OverLemmas.{known_over}
use Rattle.tb_undo.proofs.over.ChildrenOverOver.is_over.Goals as goal

pub returns-in-Ok : goal.returns-in-Ok
returns-in-Ok c =
    let tasks = c.args.self.now.waits.now.tasks in
    let parent = c.args.self.now.parent.now in
    let same : c.in-Ok.number ≡ c.args.child = c.in-Ok.ensures.1 in
    known_over tasks parent c.in-Ok.number c.if-number-gt0.true c.is_child_unended.result c.is_child_unended.ensures.unended c.is_child_unended.ensures.over ∙ ap (is_child_over tasks parent) same
