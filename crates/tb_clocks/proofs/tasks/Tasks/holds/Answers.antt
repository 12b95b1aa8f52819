use Rattle.std.proofs.Common.{◌&&◌, ◌==◌, ap₂, ◌∙◌}
use Rattle.tb_clocks.proofs.HoldLemmas.{held, not_root}
use Rattle.tb_clocks.proofs.tasks.Tasks.holds.Goals as goal

pub returns-in-Some : goal.returns-in-Some
returns-in-Some c cells H t u a id other =
    c.is_newest.ensures
    ∙ ap₂ (λ b n. b && ((c.in-Some.parent == c.args.task) && (c.in-Some.ordinal == n))) (c.is_held.ensures cells H t a id) (c.children.ensures cells H t a id)
    ∙ held cells H t c.args.task a.legal id c.in-Some.parent c.in-Some.ordinal u (c.in-Some.ensures.up cells H u a other)

pub returns-in-None : goal.returns-in-None
returns-in-None c cells H t u a id other = not_root cells H t u a.legal (c.in-None.ensures.up cells H u a other)
