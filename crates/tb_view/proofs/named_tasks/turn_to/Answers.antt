use Rattle.std.proofs.Common.{◌∙◌}
use Rattle.tb_view.proofs.NamedLemmas.{turned}
use Rattle.tb_view.proofs.named_tasks.turn_to.Goals as goal

pub returns-in_err-pass-2 : goal.returns-in_err-pass-2
returns-in_err-pass-2 c = turned c.pass-in-on.new.from.items c.pass-in-on.new.to.items c.on.back.items c.on.front.items c.pass-in-on.ensures ∙ c.on.invariant

pub on-preserved : goal.on-preserved
on-preserved c = turned c.pass-in-on.new.from.items c.pass-in-on.new.to.items c.on.back.items c.on.front.items c.pass-in-on.ensures ∙ c.on.invariant
