use Rattle.std.proofs.Common.{rules, ℕ, ◌≡◌, subst}
use Rattle.tb_live.specs.Working.{ClaimsTask}
use Rattle.tb_work.proofs.desk.Desk.claim_task.Goals as goal

pub returns-clause-claimed : goal.returns-clause-claimed
returns-clause-claimed g c =
    let named : c.number.result ≡ c.args.seat.now.number = search rules in
    subst (λ (n : ℕ). ClaimsTask c.args.self.now.live.session n c.args.task.now c.claim_one.new.live.session c.claim_one.result) named c.claim_one.ensures.claimed

pub returns-clause-answer : goal.returns-clause-answer
returns-clause-answer g c =
    record { old = c.args.self.now.live.session; new = c.claim_one.new.live.session; team = c.is_of_team.ensures; right = returns-clause-claimed g c }
