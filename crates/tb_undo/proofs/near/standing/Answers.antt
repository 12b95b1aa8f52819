use Rattle.std.proofs.Common.{Some, sym, ap, ◌∙◌}
use Rattle.std.specs.Option.{option_map, option_copied}
use Rattle.tb_undo.specs.Standings.{standing_of}
use Rattle.tb_undo.specs.Tasks.{seen_row}
use Rattle.tb_undo.proofs.PlacesLemmas.{no_row, row_here}
use Rattle.tb_undo.proofs.near.standing.Goals as goal

pub returns-in_err-at : goal.returns-in_err-at
returns-in_err-at c =
    c.from_residual.ensures ∙ sym (ap (option_map (λ r. standing_of (seen_row r))) (no_row c.args.waits.now.tasks c.args.rows.now.items c.requires c.args.name.now (sym c.find.ensures ∙ c.in_err-at.was)))

pub returns-in_err-row : goal.returns-in_err-row
returns-in_err-row c =
    c.from_residual-in_err-row.ensures
    ∙ ap (option_map (λ r. standing_of (seen_row r))) (ap option_copied (sym c.in_err-row.was) ∙ c.row_at.ensures ∙ sym (row_here c.args.waits.now.tasks c.args.rows.now.items c.requires c.args.name.now c.in_ok-at.at (sym c.find.ensures ∙ c.in_ok-at.was)))

pub returns : goal.returns
returns c =
    ap Some c.of.ensures
    ∙ ap (option_map (λ r. standing_of (seen_row r))) (ap option_copied (sym c.in_ok-row.was) ∙ c.row_at.ensures ∙ sym (row_here c.args.waits.now.tasks c.args.rows.now.items c.requires c.args.name.now c.in_ok-at.at (sym c.find.ensures ∙ c.in_ok-at.was)))
