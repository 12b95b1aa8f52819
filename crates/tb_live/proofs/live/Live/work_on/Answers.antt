use Rattle.std.proofs.Common.{subst}
use Rattle.tb_read.specs.Strips.{IsStripOf}
use Rattle.tb_live.specs.Session.{Held}
use Rattle.tb_live.proofs.live.Live.work_on.Goals as goal

-- the program is that of what is seen
pub returns-clause-strip : goal.returns-clause-strip
returns-clause-strip c = subst (λ (h : Held). IsStripOf h.session.program c.args.task.config.at c.strip_at-strip.result) c.self.view_is c.strip_at-strip.ensures
