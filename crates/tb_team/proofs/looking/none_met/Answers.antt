use Rattle.std.proofs.Common.{arith, sym, ◌∙◌}
use Rattle.tb_core.proofs.RenumberLemmas.{some_entry}
use Rattle.tb_team.proofs.Records.{none_there, none_behind, none_left}
use Rattle.tb_team.proofs.looking.none_met.Goals as goal

pub returns-then-is_met : goal.returns-then-is_met
returns-then-is_met c =
    let steps = c.args.steps.now in
    let w = some_entry steps c.loop-at.at (omega arith) in
    none_there c.args.points.now steps c.loop-at.at c.args.to w.0 (omega arith) (omega arith) w.1 (sym (c.is_met.ensures w.0 w.1) ∙ c.if-is_met.true) ∙ c.loop-at.invariant

pub loop-at-preserved : goal.loop-at-preserved
loop-at-preserved c =
    let steps = c.args.steps.now in
    let w = some_entry steps c.loop-at.at (omega arith) in
    none_behind c.args.points.now steps c.loop-at.at c.args.to w.0 (omega arith) (omega arith) w.1 (sym (c.is_met.ensures w.0 w.1) ∙ c.if-is_met.false) ∙ c.loop-at.invariant

pub returns : goal.returns
returns c = none_left c.args.points.now c.args.steps.now c.loop-at.at c.args.to (omega arith) ∙ c.loop-at.invariant
