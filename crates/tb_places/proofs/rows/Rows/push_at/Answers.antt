use Rattle.std.proofs.Common.{◌∙◌}
use Rattle.tb_places.proofs.RowLemmas.{rows_pushed, rows_pushed_none}
use Rattle.tb_places.proofs.rows.Rows.push_at.Goals as goal

pub returns-in-Some-clause-pushed : goal.returns-in-Some-clause-pushed
returns-in-Some-clause-pushed c number events e rows has is =
    rows_pushed number events e c.args.self.now c.push_reserved.new.self c.in-Some.n (has ∙ c.in-Some.is) c.push_reserved.ensures.others c.args.place is c.push_reserved.ensures.row rows

pub returns-in-None-clause-pushed : goal.returns-in-None-clause-pushed
returns-in-None-clause-pushed c number events e rows has is = rows_pushed_none number events e c.args.self.now (has ∙ c.in-None.is) rows
