use Rattle.std.proofs.Common.{length, sym, ap, ◌∙◌, subst}
use Rattle.tb_model.specs.Lines.{events_of}
use Rattle.tb_undo.specs.State.{IsTaskState}
use Rattle.tb_undo.proofs.ReadingLemmas.{groups_told}
use Rattle.tb_undo.proofs.tables.Tables.groups.Goals as goal

pub returns : goal.returns
returns c first root_line D legal state =
    let s = subst (IsTaskState root_line D) (sym c.self.view_is) state in
    ap length c.groups.ensures ∙ groups_told (events_of D) c.self.inside.waits.tasks c.args.name.now s.waiting first legal
