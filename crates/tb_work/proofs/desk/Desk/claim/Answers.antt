use Rattle.std.proofs.Common.{rules, ℕ, ◌≡◌, subst, IfOk}
use Rattle.tb_live.specs.Working.{ClaimsWork}
use Rattle.tb_work.proofs.Answered.{claimed_by}
use Rattle.tb_work.proofs.desk.Desk.claim.Goals as goal

pub returns-clause-claimed : goal.returns-clause-claimed
returns-clause-claimed g c =
    let named : c.number.result ≡ c.args.seat.now.number = search rules in
    subst (λ (n : ℕ). IfOk c.claim_work.result (ClaimsWork c.args.self.now.live.session n c.claim_work.new.live.session)) named c.claim_work.ensures.claimed

pub returns-clause-answer : goal.returns-clause-answer
returns-clause-answer g c =
    let d = c.args.self.now.live.session in
    let new = c.claim_work.new.live.session in
    record { old = d; new = new; team = c.is_of_team.ensures; right = claimed_by d new c.args.seat.now.number c.claim_work.result (returns-clause-claimed g c) c.claim_work.ensures.err }
