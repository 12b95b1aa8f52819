use Rattle.std.proofs.Common.{sym, ◌∙◌, subst}
use Rattle.tb_model.specs.Lines.{events_of}
use Rattle.tb_undo.specs.State.{IsTaskState}
use Rattle.tb_undo.proofs.ReadingLemmas.{children_told}
use Rattle.tb_undo.proofs.tables.Tables.children.Goals as goal

pub returns : goal.returns
returns c root_line D state =
    let s = subst (IsTaskState root_line D) (sym c.self.view_is) state in
    c.children.ensures ∙ children_told (events_of D) c.self.inside.waits.tasks c.args.name.now s.waiting
