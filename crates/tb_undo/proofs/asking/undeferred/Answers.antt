use Rattle.std.proofs.Common.{sym, ◌∙◌, subst}
use Rattle.tb_wait.specs.Kin.{IsNextUnended}
use Rattle.tb_undo.specs.Tasks.{seen_row}
use Rattle.tb_undo.proofs.UndeferredLemmas.{undeferred_least, counted}
use Rattle.tb_undo.proofs.asking.undeferred.Goals as goal

pub returns : goal.returns
returns c cells H legal are spawned known =
    let waits = c.args.waits.now.tasks in
    let name = c.args.name.now in
    let last = c.in_ok-last.last in
    undeferred_least cells H waits name legal are (seen_row c.args.row.now) known (sym c.is_held.ensures ∙ c.if-not-is_held.false) last (counted cells H waits name legal are last (sym c.in_ok-last.was ∙ c.children.ensures)) c.next_unended.result
    (subst (λ low. IsNextUnended waits name low c.next_unended.result) c.saturating_sub.ensures c.next_unended.ensures)
