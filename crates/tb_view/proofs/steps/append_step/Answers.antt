use Rattle.std.proofs.Common.{◌≡◌, ◌++◌, ◌∙◌, List, OnOk, ap, subst}
use Rattle.tb_steps.proofs.FirstLemmas.{there}
use Rattle.tb_view.specs.Lines.{event_line}
use Rattle.tb_view.proofs.ChosenLemmas.{read_as, line_at}
use Rattle.tb_view.proofs.steps.append_step.Goals as goal

pub returns : goal.returns
returns c =
    let entries = c.args.entries.now in
    let at = c.in-Some.at in
    let w = there entries at c.in-Some.ensures.within in
    let event = read_as entries at w.0 c.args.step.now c.action.result.now c.in-Some.ensures.within w.1 c.in-Some.ensures.step (c.action.ensures w.0 w.1) in
    let told = ap (event_line c.args.program.now c.args.step.now) event ∙ line_at c.args.program.now entries at w.0 c.args.step.now c.in-Some.ensures.within w.1 c.in-Some.ensures.step in
    subst (λ l. OnOk c.append_line.result (c.append_line.new.text ≡ c.args.text.now ++ l)) told c.append_line.ensures
