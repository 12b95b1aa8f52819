use Rattle.std.proofs.Common.{sym, ap, ◌∙◌}
use Rattle.tb_undo.specs.Places.{rows_in}
use Rattle.tb_undo.specs.Tasks.{seen_row, retreated}
use Rattle.tb_undo.proofs.PlacesLemmas.{stays, steps, holds_as_before, steps_nowhere, no_row}
use Rattle.tb_undo.proofs.RowsLemmas.{absent}
use Rattle.tb_undo.proofs.rows.retreat.Goals as goal

pub returns-in-Some-index_mut-clause-placed : goal.returns-in-Some-index_mut-clause-placed
returns-in-Some-index_mut-clause-placed c =
    stays c.args.waits.now.tasks c.args.rows.now.items c.requires.placed c.args.name.now c.in-Some.at (sym c.find.ensures ∙ c.in-Some.is) c.index_mut.result.now c.index_mut.ensures.value
    c.in-Some-index_mut.row c.retreat.new.self c.in-Some-index_mut.is (ap (λ h. h.parent) c.retreat.ensures.holders)

pub returns-in-Some-index_mut-clause-tasks : goal.returns-in-Some-index_mut-clause-tasks
returns-in-Some-index_mut-clause-tasks c =
    steps c.args.waits.now.tasks c.args.rows.now.items c.requires.placed c.args.name.now c.in-Some.at (sym c.find.ensures ∙ c.in-Some.is) c.index_mut.result.now c.index_mut.ensures.value
    c.in-Some-index_mut.row c.retreat.new.self c.in-Some-index_mut.is (retreated c.args.action.now c.args.replaced.number c.args.replaced.at) c.retreat.ensures.task c.retreat.ensures.holders

pub returns-in-Some-index_mut-clause-holders : goal.returns-in-Some-index_mut-clause-holders
returns-in-Some-index_mut-clause-holders c =
    holds_as_before c.args.waits.now.tasks c.args.rows.now.items c.requires.placed c.args.name.now c.in-Some.at (sym c.find.ensures ∙ c.in-Some.is) c.index_mut.result.now c.index_mut.ensures.value
    c.in-Some-index_mut.row c.retreat.new.self c.in-Some-index_mut.is (retreated c.args.action.now c.args.replaced.number c.args.replaced.at) c.retreat.ensures.task c.retreat.ensures.holders

pub returns-in_default-index_mut-clause-tasks : goal.returns-in_default-index_mut-clause-tasks
returns-in_default-index_mut-clause-tasks c =
    steps_nowhere c.args.waits.now.tasks c.args.rows.now.items c.requires.placed c.args.name.now c.in-Some.at (sym c.find.ensures ∙ c.in-Some.is) c.index_mut.result.now c.index_mut.ensures.value
    (retreated c.args.action.now c.args.replaced.number c.args.replaced.at) c.in_default-index_mut.is

pub returns-in_default-clause-tasks : goal.returns-in_default-clause-tasks
returns-in_default-clause-tasks c =
    absent (rows_in c.args.rows.now.items) c.args.name.now seen_row (retreated c.args.action.now c.args.replaced.number c.args.replaced.at) (no_row c.args.waits.now.tasks c.args.rows.now.items c.requires.placed c.args.name.now (sym c.find.ensures ∙ c.in_default.is))
