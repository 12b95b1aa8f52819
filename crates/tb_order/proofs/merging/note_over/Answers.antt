use Rattle.std.proofs.Common.{◌≡◌, ◌+◌, true, false, sym, ap, ◌∙◌, arith}
use Rattle.tb_model.specs.Facts.{is_end}
use Rattle.tb_lanes.specs.Clocks.{IsEnd, is_end_at}
use Rattle.tb_lanes.specs.Linking.{order_of}
use Rattle.tb_lanes.specs.Rows.{IsNoted}
use Rattle.tb_lanes.proofs.EndLemmas.{end_here, row_same}
use Rattle.tb_lanes.proofs.RowLemmas.{ends_more, end_back, end_there, rows_fit, rows_same, step_back, step_there}
use Rattle.tb_order.proofs.merging.note_over.Goals as goal
use Rattle.tb_steps.proofs.FirstLemmas.{there}

pub note_rows-requires-clause-over : goal.note_rows-requires-clause-over
note_rows-requires-clause-over c =
    let x = there c.args.entries.now c.args.at c.requires.at in
    end_here c.args.entries.now c.args.at x.0 c.requires.at x.1 true (sym c.if-is_end.true ∙ c.is_end.ensures ∙ ap is_end (c.action.ensures x.0 x.1))

pub note_rows-requires-clause-fit : goal.note_rows-requires-clause-fit
note_rows-requires-clause-fit c = rows_fit (order_of c.args.past.now.exclusion) c.args.entries.now (IsNoted c.args.entries.now c.args.tasks.now c.args.at) c.args.at c.args.past.now.rows.entries (λ k y h. omega (arith, h.0.0)) c.requires.rows

pub note_end-requires-clause-low : goal.note_end-requires-clause-low
note_end-requires-clause-low c i h = omega (arith, (c.requires.ends.each i h).0)

pub returns-in_ok-note_rows-clause-past : goal.returns-in_ok-note_rows-clause-past
returns-in_ok-note_rows-clause-past c =
    let o = order_of c.args.past.now.exclusion in
    let entries = c.args.entries.now in
    let tasks = c.args.tasks.now in
    let at = c.args.at in
    let x = there entries at c.requires.at in
    let over : is_end_at entries at ≡ true = end_here entries at x.0 c.requires.at x.1 true (sym c.if-is_end.true ∙ c.is_end.ensures ∙ ap is_end (c.action.ensures x.0 x.1)) in record {
      clocks = c.requires.clocks;
      ends = ends_more o entries tasks c.requires.tasks c.args.past.now.clocks at c.requires.clocks c.args.past.now.ends c.note_end.new.ends c.requires.ends c.in_ok-note_end.ensures.more over;
      rows = c.in_ok-note_rows.ensures o c.requires.clocks c.requires.rows;
    }

pub returns-else-is_end-clause-past : goal.returns-else-is_end-clause-past
returns-else-is_end-clause-past c =
    let o = order_of c.args.past.now.exclusion in
    let entries = c.args.entries.now in
    let tasks = c.args.tasks.now in
    let at = c.args.at in
    let x = there entries at c.requires.at in
    let none : is_end_at entries at ≡ false = end_here entries at x.0 c.requires.at x.1 false (sym c.if-is_end.false ∙ c.is_end.ensures ∙ ap is_end (c.action.ensures x.0 x.1)) in record {
      clocks = c.requires.clocks;
      ends = row_same o entries (IsEnd entries at) (IsEnd entries (at + 1)) c.args.past.now.ends (end_there entries tasks at) (end_back entries tasks at none) c.requires.ends;
      rows = rows_same o entries (IsNoted entries tasks at) (IsNoted entries tasks (at + 1)) c.args.past.now.rows.entries (step_there entries tasks at) (step_back entries tasks at none) c.requires.rows;
    }
