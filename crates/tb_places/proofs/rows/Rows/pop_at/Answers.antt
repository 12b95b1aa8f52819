use Rattle.std.proofs.Common.{◌∙◌}
use Rattle.tb_places.proofs.RowLemmas.{rows_popped, rows_popped_none}
use Rattle.tb_places.proofs.rows.Rows.pop_at.Goals as goal

pub returns-in-Some-clause-popped : goal.returns-in-Some-clause-popped
returns-in-Some-clause-popped c number events e rows has =
    rows_popped number events e c.args.self.now c.pop.new.self c.in-Some.n (has ∙ c.in-Some.is) c.pop.ensures.others c.pop.ensures.row rows

pub returns-in-None-clause-popped : goal.returns-in-None-clause-popped
returns-in-None-clause-popped c number events e rows has = rows_popped_none number events e c.args.self.now (has ∙ c.in-None.is) rows
