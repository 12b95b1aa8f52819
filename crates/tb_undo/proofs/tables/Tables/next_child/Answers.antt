use Rattle.std.proofs.Common.{sym, subst}
use Rattle.tb_model.specs.Lines.{events_of}
use Rattle.tb_undo.specs.State.{IsTaskState}
use Rattle.tb_undo.proofs.ReadingLemmas.{next_child_told}
use Rattle.tb_undo.proofs.tables.Tables.next_child.Goals as goal

pub returns : goal.returns
returns c root_line D state =
    let s = subst (IsTaskState root_line D) (sym c.self.view_is) state in
    next_child_told (events_of D) c.self.inside.waits.tasks c.args.name.now c.args.low c.next_unended.result s.waiting c.next_unended.ensures
