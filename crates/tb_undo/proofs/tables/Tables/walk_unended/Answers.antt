use Rattle.std.proofs.Common.{sym, subst}
use Rattle.std.specs.Option.{option_copied}
use Rattle.tb_model.specs.Lines.{events_of}
use Rattle.tb_undo.specs.State.{IsTaskState}
use Rattle.tb_undo.proofs.ReadingLemmas.{next_told}
use Rattle.tb_undo.proofs.tables.Tables.walk_unended.Goals as goal

pub returns : goal.returns
returns c root_line D state =
    let s = subst (IsTaskState root_line D) (sym c.self.view_is) state in
    next_told (events_of D) c.self.inside.marks.tasks (option_copied c.args.after) (option_copied c.walk_marked-found.result) s.marked c.walk_marked-found.ensures
