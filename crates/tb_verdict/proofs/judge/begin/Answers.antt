use Rattle.std.proofs.Common.{[], sym, ap, ◌∙◌, subst}
use Rattle.tb_plan.specs.Plans.{names_allowed}
use Rattle.tb_runs.specs.Lines.{cells_at}
use Rattle.tb_verdict.specs.Held.{Holds, Counts}
use Rattle.tb_verdict.specs.Texts.{first_numbers}
use Rattle.tb_verdict.proofs.HeldLemmas.{begins_ending, holds_none}
use Rattle.tb_verdict.proofs.ValueLemmas.{firsts_count}
use Rattle.tb_verdict.proofs.judge.begin.Goals as goal

pub count_event-requires-clause-run : goal.count_event-requires-clause-run
count_event-requires-clause-run c = (first_numbers c.cells_at.result c.args.firsts.now.entries, [], holds_none _ c.in_ok-state.state c.in_ok-state.ensures)

pub count_event-requires-clause-allowed : goal.count_event-requires-clause-allowed
count_event-requires-clause-allowed c =
    ap (λ n. names_allowed n c.args.event.action) (c.in_ok-state.ensures.cells ∙ firsts_count c.args.firsts.now.entries c.cells_at.result ∙ c.cells_at.ensures) ∙ c.requires

pub returns-in-Taken : goal.returns-in-Taken
returns-in-Taken c =
    let first = first_numbers (cells_at c.args.stage) c.args.firsts.now.entries in
    let holds = subst (λ n. Holds (first_numbers n c.args.firsts.now.entries) [] 0 c.in_ok-state.state) c.cells_at.ensures (holds_none _ c.in_ok-state.state c.in_ok-state.ensures) in
    subst (λ o. Counts first [] c.args.step c.args.event o c.count_event.new.count c.count_event.new.state) c.in-Taken.is (c.in_ok-event.ensures.ok first [] holds)

pub returns-in-Ends : goal.returns-in-Ends
returns-in-Ends c =
    let first = first_numbers (cells_at c.args.stage) c.args.firsts.now.entries in
    let holds = subst (λ n. Holds (first_numbers n c.args.firsts.now.entries) [] 0 c.in_ok-state.state) c.cells_at.ensures (holds_none _ c.in_ok-state.state c.in_ok-state.ensures) in
    let counts = subst (λ o. Counts first [] c.args.step c.args.event o c.count_event.new.count c.count_event.new.state) c.in-Ends.is (c.in_ok-event.ensures.ok first [] holds) in
    begins_ending first c.args.step c.args.event c.count_event.new.count c.count_event.new.state c.in-Ends.ending counts
