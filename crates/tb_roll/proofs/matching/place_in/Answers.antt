use Rattle.std.proofs.Common.{sym, ◌∙◌}
use Rattle.std.proofs.lemmas.Bool.{false≢true}
use Rattle.tb_roll.proofs.MatchingLemmas.{none_left, found_same, found_other}
use Rattle.tb_roll.proofs.matching.place_in.Goals as goal
use Rattle.tb_steps.proofs.FirstLemmas.{there}

pub returns-in_default-clause-absent : goal.returns-in_default-clause-absent
returns-in_default-clause-absent c =
    let entries = c.args.entries.now in
    let others = c.args.others.now in
    let e = there entries c.args.at c.requires.within in
    none_left entries others c.args.at c.behind_last-begin.result e.0 c.task-task.result.now c.requires.within e.1 (c.task-task.ensures e.0 e.1) (c.behind_last-begin.ensures.count others c.requires.matched)
    c.in_default.ensures.none

pub returns-then-is_same_action-clause-same : goal.returns-then-is_same_action-clause-same
returns-then-is_same_action-clause-same c =
    let entries = c.args.entries.now in
    let others = c.args.others.now in
    let e = there entries c.args.at c.requires.within in
    let q = c.in-Some.place in
    let w = there others q c.in-Some.ensures.within in
    found_same entries others c.args.at c.behind_last-begin.result e.0 c.task-task.result.now c.requires.within e.1 (c.task-task.ensures e.0 e.1) (c.behind_last-begin.ensures.count others c.requires.matched)
    q w.0 c.in-Some.ensures.within w.1 c.in-Some.ensures.step (sym (c.action.ensures w.0 w.1) ∙ c.is_same_action.ensures.0 c.if-is_same_action.true ∙ c.action-2.ensures e.0 e.1)

pub returns-else-is_same_action-clause-absent : goal.returns-else-is_same_action-clause-absent
returns-else-is_same_action-clause-absent c =
    let entries = c.args.entries.now in
    let others = c.args.others.now in
    let e = there entries c.args.at c.requires.within in
    let q = c.in-Some.place in
    let w = there others q c.in-Some.ensures.within in
    found_other entries others c.args.at c.behind_last-begin.result e.0 c.task-task.result.now c.requires.within e.1 (c.task-task.ensures e.0 e.1) (c.behind_last-begin.ensures.count others c.requires.matched)
    q w.0 c.in-Some.ensures.within w.1 c.in-Some.ensures.step
    (λ same. false≢true (sym c.if-is_same_action.false ∙ c.is_same_action.ensures.1 (c.action.ensures w.0 w.1 ∙ same ∙ sym (c.action-2.ensures e.0 e.1))))
