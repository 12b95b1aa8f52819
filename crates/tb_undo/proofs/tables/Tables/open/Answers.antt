use Rattle.tb_undo.proofs.StateLemmas.{first_state}
use Rattle.tb_undo.proofs.tables.Tables.open.Goals as goal

pub returns : goal.returns
returns c =
    first_state c.args.cells.now c.args.root_line _ c.in_ok-open.ensures.cells c.in_ok-open.ensures.output c.in_ok-open-2.ensures.kin c.in_ok-root_mark.ensures c.in_ok-root_row.ensures.comes
