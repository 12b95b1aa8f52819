use Rattle.std.proofs.Common.{subst, ap}
use Rattle.tb_control.specs.Claims.{AreLawful}
use Rattle.tb_live.specs.Session.{Session, history, Held}
use Rattle.tb_live.proofs.live.Live.claim_of.Goals as goal

pub returns-clause-lawful : goal.returns-clause-lawful
returns-clause-lawful c = subst (λ (s : Session). AreLawful (history s) s.control.claims) (ap (λ (h : Held). h.session) c.self.view_is) c.self.invariant.1
