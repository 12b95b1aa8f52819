use Rattle.std.proofs.Common.{◌≡◌, unwrap_or, option_map, sym, ap, ◌∙◌}
use Rattle.tb_undo.specs.Places.{rows_in}
use Rattle.tb_undo.specs.Tasks.{seen_row, advanced, register_over}
use Rattle.tb_undo.proofs.PlacesLemmas.{found, missing, stays, steps, holds_as_before, steps_nowhere, no_row}
use Rattle.tb_undo.proofs.RowsLemmas.{absent}
use Rattle.tb_undo.proofs.rows.advance.Goals as goal

pub returns-in-Some-index_mut-clause-placed : goal.returns-in-Some-index_mut-clause-placed
returns-in-Some-index_mut-clause-placed c =
    stays c.args.waits.now.tasks c.args.rows.now.items c.requires.placed c.args.name.now c.in-Some.at (sym c.find.ensures ∙ c.in-Some.is) c.index_mut.result.now c.index_mut.ensures.value
    c.in-Some-index_mut.row c.advance.new.self c.in-Some-index_mut.is (ap (λ h. h.parent) c.advance.ensures.holders)

pub returns-in-Some-index_mut-clause-tasks : goal.returns-in-Some-index_mut-clause-tasks
returns-in-Some-index_mut-clause-tasks c =
    steps c.args.waits.now.tasks c.args.rows.now.items c.requires.placed c.args.name.now c.in-Some.at (sym c.find.ensures ∙ c.in-Some.is) c.index_mut.result.now c.index_mut.ensures.value
    c.in-Some-index_mut.row c.advance.new.self c.in-Some-index_mut.is (advanced c.args.action.now c.args.to) c.advance.ensures.task c.advance.ensures.holders

pub returns-in-Some-index_mut-clause-holders : goal.returns-in-Some-index_mut-clause-holders
returns-in-Some-index_mut-clause-holders c =
    holds_as_before c.args.waits.now.tasks c.args.rows.now.items c.requires.placed c.args.name.now c.in-Some.at (sym c.find.ensures ∙ c.in-Some.is) c.index_mut.result.now c.index_mut.ensures.value
    c.in-Some-index_mut.row c.advance.new.self c.in-Some-index_mut.is (advanced c.args.action.now c.args.to) c.advance.ensures.task c.advance.ensures.holders

pub returns-in_default-index_mut-clause-tasks : goal.returns-in_default-index_mut-clause-tasks
returns-in_default-index_mut-clause-tasks c =
    steps_nowhere c.args.waits.now.tasks c.args.rows.now.items c.requires.placed c.args.name.now c.in-Some.at (sym c.find.ensures ∙ c.in-Some.is) c.index_mut.result.now c.index_mut.ensures.value
    (advanced c.args.action.now c.args.to) c.in_default-index_mut.is

pub returns-in_default-clause-tasks : goal.returns-in_default-clause-tasks
returns-in_default-clause-tasks c =
    absent (rows_in c.args.rows.now.items) c.args.name.now seen_row (advanced c.args.action.now c.args.to) (no_row c.args.waits.now.tasks c.args.rows.now.items c.requires.placed c.args.name.now (sym c.find.ensures ∙ c.in_default.is))

pub advance-requires-clause-few : goal.advance-requires-clause-few
advance-requires-clause-few c =
    c.requires.few (seen_row c.in-Some-index_mut.row)
    (ap (option_map seen_row) (found c.args.waits.now.tasks c.args.rows.now.items c.requires.placed c.args.name.now c.in-Some.at (sym c.find.ensures ∙ c.in-Some.is) c.index_mut.result.now c.index_mut.ensures.value c.in-Some-index_mut.row c.in-Some-index_mut.is))

pub advance-requires-clause-room : goal.advance-requires-clause-room
advance-requires-clause-room c =
    c.requires.room c.in-Some-index_mut.row
    (found c.args.waits.now.tasks c.args.rows.now.items c.requires.placed c.args.name.now c.in-Some.at (sym c.find.ensures ∙ c.in-Some.is) c.index_mut.result.now c.index_mut.ensures.value c.in-Some-index_mut.row c.in-Some-index_mut.is)

pub returns-in-Some-index_mut-clause-replaced : goal.returns-in-Some-index_mut-clause-replaced
returns-in-Some-index_mut-clause-replaced c k h =
    let row = c.in-Some-index_mut.row in
    let mine = found c.args.waits.now.tasks c.args.rows.now.items c.requires.placed c.args.name.now c.in-Some.at (sym c.find.ensures ∙ c.in-Some.is) c.index_mut.result.now c.index_mut.ensures.value row c.in-Some-index_mut.is in
    let same : seen_row row ≡ k = ap (λ o. unwrap_or o k) (sym (ap (option_map seen_row) mine) ∙ h) in
    (c.over.ensures ∙ ap (λ k. register_over c.args.action.now k.regs) same, ap (λ k. k.at) same)

pub returns-in_default-index_mut-clause-replaced : goal.returns-in_default-index_mut-clause-replaced
returns-in_default-index_mut-clause-replaced c k h =
    let none = ap (option_map seen_row) (missing c.args.waits.now.tasks c.args.rows.now.items c.requires.placed c.args.name.now c.in-Some.at (sym c.find.ensures ∙ c.in-Some.is) c.index_mut.result.now c.index_mut.ensures.value c.in_default-index_mut.is) in
    absurd (cc)

pub returns-in_default-clause-replaced : goal.returns-in_default-clause-replaced
returns-in_default-clause-replaced c k h =
    let none = ap (option_map seen_row) (no_row c.args.waits.now.tasks c.args.rows.now.items c.requires.placed c.args.name.now (sym c.find.ensures ∙ c.in_default.is)) in
    absurd (cc)
