use Rattle.std.proofs.Common.{rules, ℕ, ◌≡◌, ap, ◌∙◌, None}
use Rattle.tb_live.specs.Session.{with_seat}
use Rattle.tb_work.proofs.desk.Desk.let_go.Goals as goal

pub returns-clause-left : goal.returns-clause-left
returns-clause-left g c =
    let named : c.number.result ≡ c.args.seat.now.number = search rules in
    c.leave.ensures.left ∙ ap (λ (n : ℕ). with_seat c.args.self.now.live.session n None) named

pub returns-clause-answer : goal.returns-clause-answer
returns-clause-answer g c =
    record { old = c.args.self.now.live.session; new = c.leave.new.live.session; team = c.is_of_team.ensures; right = returns-clause-left g c }
