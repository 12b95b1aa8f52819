use Rattle.std.proofs.Common.{unwrap_or, false, sym, ap, ◌∙◌, subst}
use Rattle.tb_model.specs.Lines.{events_of}
use Rattle.tb_undo.specs.State.{IsTaskState}
use Rattle.tb_undo.proofs.ReadingLemmas.{ended_told}
use Rattle.tb_undo.proofs.tables.Tables.has_ended_at.Goals as goal

pub returns : goal.returns
returns c first root_line D legal state =
    let s = subst (IsTaskState root_line D) (sym c.self.view_is) state in
    c.unwrap_or.ensures ∙ ap (λ o. unwrap_or o false) c.is_over_near.ensures ∙ ended_told (events_of D) c.self.inside.waits.tasks c.args.name.now s.waiting first legal
