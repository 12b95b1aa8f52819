use Rattle.std.proofs.Common.{sym, ◌∙◌}
use Rattle.tb_undo.specs.Places.{rows_in}
use Rattle.tb_undo.proofs.SetsLemmas.{from_one}
use Rattle.tb_undo.proofs.rows.place_of.Goals as goal

pub returns-clause-from_one : goal.returns-clause-from_one
returns-clause-from_one c =
    let first = sym c.ordinal.ensures ∙ c.in_ok-n.was in
    from_one (rows_in c.args.rows.now.items) c.args.name.now c.in_ok-n.n c.requires.linked first
