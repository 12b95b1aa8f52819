use Rattle.std.proofs.Common.{[], ◌∷◌, ◌++◌, sym, subst}
use Rattle.tb_verdict.specs.Held.{Judges}
use Rattle.tb_verdict.specs.Texts.{start}
use Rattle.tb_verdict.specs.Whole.{IsJudged}
use Rattle.tb_verdict.proofs.WholeLemmas.{adds, adds_none, adds_nothing, ended_append, ends_there, goes_on}
use Rattle.tb_verdict.proofs.text_judge.TextJudge.take_line.Goals as goal

pub returns-in_default-clause-ok : goal.returns-in_default-clause-ok
returns-in_default-clause-ok c lines judged =
    let over = subst (λ j. IsJudged j lines) c.in_default.is judged in
    subst (λ j. IsJudged j (lines ++ c.args.line.now ∷ [])) (sym c.in_default.is) (ended_append 1 start lines (c.args.line.now ∷ []) (c.in_default.field-0, c.in_default.field-1) over)

pub returns-in-Ends-clause-ok : goal.returns-in-Ends-clause-ok
returns-in-Ends-clause-ok c lines judged =
    let has = subst (λ j. IsJudged j lines) c.in-Open.is judged in
    let judges = subst (Judges has.sofar c.args.line.now c.take_line.new.self) c.in-Ends.is (c.in_ok-verdict.ensures.ok has.sofar has.behind) in
    subst (λ j. IsJudged j (lines ++ c.args.line.now ∷ [])) (sym c.end.ensures) (ends_there c.in-Open.lines c.in-Open.judge c.take_line.new.self lines c.args.line.now has c.in-Ends.ending judges)

pub returns-in-Taken-clause-ok : goal.returns-in-Taken-clause-ok
returns-in-Taken-clause-ok c lines judged =
    let has = subst (λ j. IsJudged j lines) c.in-Open.is judged in
    let judges = subst (Judges has.sofar c.args.line.now c.take_line.new.self) c.in-Taken.is (c.in_ok-verdict.ensures.ok has.sofar has.behind) in
    goes_on c.in-Open.lines c.in-Open.judge c.take_line.new.self lines c.args.line.now has c.in-Taken.event judges

pub returns-in_default-clause-event : goal.returns-in_default-clause-event
returns-in_default-clause-event c lines judged =
    adds_nothing lines c.args.line.now (c.in_default.field-0, c.in_default.field-1) (subst (λ j. IsJudged j lines) c.in_default.is judged)

pub returns-in-Taken-clause-event : goal.returns-in-Taken-clause-event
returns-in-Taken-clause-event c lines judged =
    let has = subst (λ j. IsJudged j lines) c.in-Open.is judged in
    let judges = subst (Judges has.sofar c.args.line.now c.take_line.new.self) c.in-Taken.is (c.in_ok-verdict.ensures.ok has.sofar has.behind) in
    adds c.in-Open.lines c.in-Open.judge c.take_line.new.self lines c.args.line.now has c.in-Taken.event judges

pub returns-in-Ends-clause-event : goal.returns-in-Ends-clause-event
returns-in-Ends-clause-event c lines judged =
    let has = subst (λ j. IsJudged j lines) c.in-Open.is judged in
    let judges = subst (Judges has.sofar c.args.line.now c.take_line.new.self) c.in-Ends.is (c.in_ok-verdict.ensures.ok has.sofar has.behind) in
    adds_none c.in-Open.lines c.in-Open.judge c.take_line.new.self lines c.args.line.now has c.in-Ends.ending judges
