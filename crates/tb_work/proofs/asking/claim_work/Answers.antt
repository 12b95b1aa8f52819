use Rattle.tb_work.proofs.Claims.{keeps_claim, claim_is, session_kept}
use Rattle.tb_work.proofs.asking.claim_work.Goals as goal

pub returns-clause-kept : goal.returns-clause-kept
returns-clause-kept c = keeps_claim c.args.live.now.session _ c.args.seat c.claim.result c.claim.ensures.ok (session_kept _ _ c.claim.result c.claim.ensures.err)

pub returns-clause-work : goal.returns-clause-work
returns-clause-work c = claim_is c.args.live.now.session _ c.args.seat c.claim.result c.claim.ensures.ok
