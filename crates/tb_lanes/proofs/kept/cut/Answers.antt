use Rattle.std.proofs.Common.{ap, ◌∙◌, take}
use Rattle.tb_lanes.proofs.KeptLemmas.{kept_here, kept_other, kept_read}
use Rattle.tb_lanes.proofs.kept.cut.Goals as goal

pub returns-clause-row : goal.returns-clause-row
returns-clause-row c =
    let rows = c.args.rows.now.items in
    kept_here rows c.args.slot c.truncate.new.self c.requires.slot ∙ c.truncate.ensures.items
    ∙ ap (take c.args.count) (kept_read rows c.args.slot c.index_mut.result.now c.requires.slot c.index_mut.ensures.value)

pub returns-clause-others : goal.returns-clause-others
returns-clause-others c k d = kept_other c.args.rows.now.items c.args.slot k c.truncate.new.self d
