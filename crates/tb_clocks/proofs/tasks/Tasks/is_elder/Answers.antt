use Rattle.std.proofs.Common.{◌∙◌}
use Rattle.tb_clocks.proofs.SiblingLemmas.{elder_first, elder_is, elder_last}
use Rattle.tb_clocks.proofs.tasks.Tasks.is_elder.Goals as goal

pub returns-in_default : goal.returns-in_default
returns-in_default c cells H u t a id other = elder_first cells H a.legal u t (c.in_default.ensures.up cells H u a id)

pub returns-in_default-above : goal.returns-in_default-above
returns-in_default-above c cells H u t a id other = elder_last cells H a.legal u t (c.in_default-above.ensures.up cells H t a other)

pub returns : goal.returns
returns c cells H u t a id other =
    c.comes_first.ensures
    ∙ elder_is cells H a.legal c.args.elder c.args.task c.in-Some.above.0 c.in-Some.above.1 c.in-Some-above.its.0 c.in-Some-above.its.1 u t id other (c.in-Some.ensures.up cells H u a id) (c.in-Some-above.ensures.up cells H t a other) c.in-Some.ensures.lower c.in-Some-above.ensures.lower
