use Rattle.tb_work.proofs.Claims.{keeps_offer, offer_is, offer_kept}
use Rattle.tb_work.proofs.asking.claim_offer.Goals as goal

pub returns-clause-kept : goal.returns-clause-kept
returns-clause-kept c = keeps_offer c.args.live.now.session _ c.args.seat c.offer.result c.offer.ensures.ok (offer_kept _ _ c.offer.result c.offer.ensures.err)

pub returns-clause-task : goal.returns-clause-task
returns-clause-task c = offer_is c.args.live.now.session _ c.args.seat c.offer.result c.offer.ensures.ok
