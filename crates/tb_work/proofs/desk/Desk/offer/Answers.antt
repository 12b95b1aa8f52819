use Rattle.std.proofs.Common.{rules, ℕ, ◌≡◌, subst, IfOk}
use Rattle.tb_live.specs.Working.{IsOffered}
use Rattle.tb_work.proofs.Answered.{offered_by}
use Rattle.tb_work.proofs.desk.Desk.offer.Goals as goal

pub returns-clause-offered : goal.returns-clause-offered
returns-clause-offered g c =
    let named : c.number.result ≡ c.args.seat.now.number = search rules in
    subst (λ (n : ℕ). IfOk c.claim_offer.result (IsOffered c.args.self.now.live.session n c.claim_offer.new.live.session)) named c.claim_offer.ensures.offered

pub returns-clause-answer : goal.returns-clause-answer
returns-clause-answer g c =
    let d = c.args.self.now.live.session in
    let new = c.claim_offer.new.live.session in
    record { old = d; new = new; team = c.is_of_team.ensures; right = offered_by d new c.args.seat.now.number c.claim_offer.result (returns-clause-offered g c) c.claim_offer.ensures.err }
