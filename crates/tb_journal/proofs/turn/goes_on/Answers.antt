use Rattle.std.proofs.Common.{[], ◌∙◌, sym}
use Rattle.tb_model.proofs.TestLemmas.{same_true}
use Rattle.tb_journal.proofs.TurnLemmas.{last_goes_on}
use Rattle.tb_journal.proofs.turn.goes_on.Goals as goal

pub returns-in-Some : goal.returns-in-Some
returns-in-Some c = λ yes at rises. last_goes_on [] c.args.turns.now 0 at c.in-Some.turn.now rises (sym c.in-Some.ensures.value)
    ∙ same_true c.in-Some.turn.now.task c.args.task.now (sym c.eq.ensures ∙ yes)
