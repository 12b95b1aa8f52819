use Rattle.std.proofs.Common.{sym, ◌∙◌}
use Rattle.tb_clocks.proofs.OpenedLemmas.{none_at_all, none_before}
use Rattle.tb_clocks.proofs.tasks.Tasks.opened.Goals as goal

pub returns-in-Some : goal.returns-in-Some
returns-in-Some c cells H t m a id s = none_before cells H t m c.in-Some.group a.legal (sym (c.innermost.ensures cells H t a id) ∙ c.in-Some.is) s

pub returns-in-None : goal.returns-in-None
returns-in-None c cells H t m a id s = none_at_all cells H t m 0 a.legal (sym (c.innermost.ensures cells H t a id) ∙ c.in-None.is) s
