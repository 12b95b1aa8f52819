use Rattle.tb_work.proofs.desk.Desk.pause.Goals as goal

pub returns-clause-answer : goal.returns-clause-answer
returns-clause-answer g c =
    record { old = c.args.self.now.live.session; new = c.pause.new.live.session; team = c.is_of_team.ensures; right = c.pause.ensures.mode }
