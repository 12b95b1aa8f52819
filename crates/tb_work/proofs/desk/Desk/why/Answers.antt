use Rattle.std.proofs.Common.{refl}
use Rattle.tb_work.proofs.desk.Desk.why.Goals as goal

pub returns-clause-answer : goal.returns-clause-answer
returns-clause-answer g c =
    let d = c.args.self.now.live.session in
    record { old = d; new = d; team = c.is_of_team.ensures; right = (refl, c.why_of.ensures) }
