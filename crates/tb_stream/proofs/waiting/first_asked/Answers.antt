use Rattle.std.proofs.Common.{sym, ◌∙◌, arith}
use Rattle.tb_stream.proofs.AskLemmas.{close_asked}
use Rattle.tb_stream.proofs.SeenLemmas.{action_here, id_at}
use Rattle.tb_stream.proofs.waiting.first_asked.Goals as goal

pub returns-in-Close : goal.returns-in-Close
returns-in-Close c r n now x end link =
    let id = id_at r n n c.args.task (omega arith) (omega (arith, now.within)) now.task now.within in
    close_asked r n now.within (sym (action_here r n now.within c.args.action.now now.action) ∙ c.in-Close.is) c.opened.result (λ m s. c.opened.ensures r.legal.cells _ _ m now.facts id s) x end link
