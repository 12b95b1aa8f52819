use Rattle.std.proofs.Common.{sym, ap, ◌∙◌}
use Rattle.std.specs.Option.{option_copied}
use Rattle.tb_undo.proofs.PlacesLemmas.{no_row, row_here}
use Rattle.tb_undo.proofs.near.get.Goals as goal

pub returns-in_err-at : goal.returns-in_err-at
returns-in_err-at c = record {
  value = ap option_copied c.from_residual.ensures ∙ sym (no_row c.args.waits.now.tasks c.args.rows.now.items c.requires c.args.name.now (sym c.find.ensures ∙ c.in_err-at.was));
}

pub returns : goal.returns
returns c = record { value = c.row_at.ensures ∙ sym (row_here c.args.waits.now.tasks c.args.rows.now.items c.requires c.args.name.now c.in_ok-at.at (sym c.find.ensures ∙ c.in_ok-at.was)) }
