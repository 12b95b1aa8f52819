use Rattle.std.proofs.Common.{[], ◌∷◌, ◌++◌, append-nil, cond, sym, ◌∙◌, subst}
use Rattle.tb_taskcheck.specs.Races.{FoundAt}
use Rattle.tb_taskcheck.proofs.FoundLemmas.{found_more}
use Rattle.tb_taskcheck.proofs.ReadLemmas.{any_ok, then_ok}
use Rattle.tb_verdict.specs.Whole.{IsJudged}
use Rattle.tb_taskcheck.proofs.reading.take_line.Goals as goal

pub returns-clause-judged : goal.returns-clause-judged
returns-clause-judged c =
    any_ok c.add_event.result
    (λ lines judged.
    subst (λ b. IsJudged c.take_line.new.self (lines ++ cond b (c.args.line.now ∷ []) [])) (sym (sym c.is_line.ensures ∙ c.if-not-is_line.false))
    (c.in_ok-event.ensures.ok lines judged))

pub returns-clause-found : goal.returns-clause-found
returns-clause-found c =
    then_ok c.add_event.result
    (λ adds lines judged found.
    subst (λ b. FoundAt (lines ++ cond b (c.args.line.now ∷ []) []) c.add_event.new.self) (sym (sym c.is_line.ensures ∙ c.if-not-is_line.false))
    (found_more _ _ _ adds lines (c.args.line.now ∷ []) (c.in_ok-event.ensures.event lines judged) found))
    c.add_event.ensures

pub returns-then-not-is_line-clause-found : goal.returns-then-not-is_line-clause-found
returns-then-not-is_line-clause-found c lines judged found =
    subst (λ b. FoundAt (lines ++ cond b (c.args.line.now ∷ []) []) c.args.found.now) (sym (sym c.is_line.ensures ∙ c.if-not-is_line.true))
    (subst (λ l. FoundAt l c.args.found.now) (sym (append-nil lines)) found)
