use Rattle.std.proofs.Common.{reverse, ap, ◌∙◌}
use Rattle.tb_clocks.specs.Tree.{first_of}
use Rattle.tb_clocks.proofs.StepLemmas.{no_row_there, row_there}
use Rattle.tb_clocks.proofs.tasks.Tasks.innermost.Goals as goal

pub returns-in-Some : goal.returns-in-Some
returns-in-Some c cells H t a id =
    let item = c.in-Some.ensures.lookup in
    let row = row_there cells H c.args.self.now t c.args.task a id c.deref.result.now c.deref.ensures.value c.in-Some.row.now item.3.0 item.1 in
    c.last.ensures ∙ ap (λ gs. first_of (reverse gs)) c.deref-in-Some.ensures.value ∙ ap (λ k. first_of k.groups) row.known_is

pub returns-in-None : goal.returns-in-None
returns-in-None c cells H t a id = absurd (no_row_there cells H c.args.self.now t c.args.task a id c.deref.result.now c.deref.ensures.value c.in-None.ensures.lookup.3)
