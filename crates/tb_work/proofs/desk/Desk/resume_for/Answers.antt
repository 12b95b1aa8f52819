use Rattle.tb_work.proofs.desk.Desk.resume_for.Goals as goal

pub returns-clause-answer : goal.returns-clause-answer
returns-clause-answer g c =
    record { old = c.args.self.now.live.session; new = c.resume_for.new.live.session; team = c.is_of_team.ensures; right = c.resume_for.ensures.mode }
