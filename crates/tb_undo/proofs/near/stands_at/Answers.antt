use Rattle.std.proofs.Common.{sym, ◌∙◌}
use Rattle.tb_model.proofs.TestLemmas.{same_true}
use Rattle.tb_undo.proofs.near.stands_at.Goals as goal

pub returns-in-Some : goal.returns-in-Some
returns-in-Some c h =
    let own = same_true c.name.result.now c.args.name.now (sym c.eq.ensures ∙ h) in
    (c.in-Some.row.now, sym c.in-Some.ensures, sym c.name.ensures ∙ own)
