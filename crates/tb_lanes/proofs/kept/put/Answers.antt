use Rattle.std.proofs.Common.{◌<◌, ◌∷◌, ◌++◌, [], length, ap, ◌∙◌, arith}
use Rattle.tb_lanes.proofs.KeptLemmas.{kept_here, kept_other, kept_read}
use Rattle.tb_lanes.proofs.kept.put.Goals as goal

pub returns-in_err-push-clause-others : goal.returns-in_err-push-clause-others
returns-in_err-push-clause-others c k d = kept_other c.cut.new.rows.items c.args.slot k c.push.new.self d ∙ c.cut.ensures.others k d

pub returns-clause-row : goal.returns-clause-row
returns-clause-row c =
    let rows = c.cut.new.rows.items in
    let slot = c.args.slot in
    let inside : slot < length rows = omega (arith, c.requires.slot, c.cut.ensures.same) in
    kept_here rows slot c.push.new.self inside ∙ c.in_ok-push.ensures.items
    ∙ ap (λ xs. xs ++ c.args.at ∷ []) (kept_read rows slot c.index_mut.result.now inside c.index_mut.ensures.value ∙ c.cut.ensures.row)

pub returns-clause-others : goal.returns-clause-others
returns-clause-others c k d = kept_other c.cut.new.rows.items c.args.slot k c.push.new.self d ∙ c.cut.ensures.others k d
