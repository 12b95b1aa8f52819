use Rattle.tb_clocks.proofs.StepLemmas.{no_row_there, row_there}
use Rattle.tb_clocks.proofs.tasks.Tasks.parent.Goals as goal

pub returns-in-Some : goal.returns-in-Some
returns-in-Some c cells H t a id =
    let item = c.in-Some.ensures.lookup in
    (row_there cells H c.args.self.now t c.args.task a id c.deref.result.now c.deref.ensures.value c.in-Some.row.now item.3.0 item.1).parent

pub returns-in-None : goal.returns-in-None
returns-in-None c cells H t a id = absurd (no_row_there cells H c.args.self.now t c.args.task a id c.deref.result.now c.deref.ensures.value c.in-None.ensures.lookup.3)
