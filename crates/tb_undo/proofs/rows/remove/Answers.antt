use Rattle.std.proofs.Common.{sym, ◌∙◌, None}
use Rattle.tb_undo.specs.Places.{rows_in}
use Rattle.tb_undo.proofs.PlacesLemmas.{no_row, changes}
use Rattle.tb_undo.proofs.ComingLemmas.{goes, none_goes}
use Rattle.tb_undo.proofs.rows.remove.Goals as goal

pub returns-in-Some-clause-goes : goal.returns-in-Some-clause-goes
returns-in-Some-clause-goes c =
    goes (rows_in c.args.rows.now.items) _ c.args.name.now
    (changes c.args.waits.now.tasks c.args.rows.now.items c.requires c.args.name.now c.in-Some.at (sym c.find.ensures ∙ c.in-Some.is) None (λ q e. absurd (cc)))

pub returns-in_default-clause-goes : goal.returns-in_default-clause-goes
returns-in_default-clause-goes c =
    none_goes (rows_in c.args.rows.now.items) c.args.name.now (no_row c.args.waits.now.tasks c.args.rows.now.items c.requires c.args.name.now (sym c.find.ensures ∙ c.in_default.is))
