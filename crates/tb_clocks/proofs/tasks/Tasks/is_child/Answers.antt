use Rattle.tb_clocks.proofs.SiblingLemmas.{child_is, child_none}
use Rattle.tb_clocks.proofs.tasks.Tasks.is_child.Goals as goal

pub returns-in-Some : goal.returns-in-Some
returns-in-Some c cells H t u a id other =
    child_is cells H a.legal c.args.task c.args.child c.in-Some.parent c.in-Some.field-0-1 t u id other (c.in-Some.ensures.up cells H u a other) c.in-Some.ensures.lower

pub returns-in-None : goal.returns-in-None
returns-in-None c cells H t u a id other = child_none cells H a.legal t u (c.in-None.ensures.up cells H u a other)
