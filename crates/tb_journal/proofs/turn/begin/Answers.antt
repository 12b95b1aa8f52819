use Rattle.std.proofs.Common.{[], subst, sym, unwrap_or}
use Rattle.tb_journal.specs.Turns.{Begins, task_at}
use Rattle.tb_journal.proofs.TurnLemmas.{begun, stays}
use Rattle.tb_journal.proofs.turn.begin.Goals as goal

pub returns-in-Some-clause-begun : goal.returns-in-Some-clause-begun
returns-in-Some-clause-begun c =
    let turns = c.args.turns.now.items in
    let pushed = subst (Begins c.args.at c.in-Some.task turns) (sym c.push_reserved.ensures.items) (begun turns c.args.at c.in-Some.task c.requires.rises) in
    subst (λ new. Begins c.args.at (unwrap_or new (task_at [] turns c.args.at)) turns c.push_reserved.new.self.items) (sym c.in-Some.is) pushed

pub returns-in-None-clause-begun : goal.returns-in-None-clause-begun
returns-in-None-clause-begun c =
    let turns = c.args.turns.now.items in
    subst (λ new. Begins c.args.at (unwrap_or new (task_at [] turns c.args.at)) turns turns) (sym c.in-None.is) (stays turns c.args.at c.requires.rises)
