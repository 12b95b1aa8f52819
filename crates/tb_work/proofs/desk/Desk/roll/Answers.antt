use Rattle.tb_work.proofs.Answered.{rolled_by}
use Rattle.tb_work.proofs.desk.Desk.roll.Goals as goal

pub returns-clause-run : goal.returns-clause-run
returns-clause-run g c =
    rolled_by c.args.self.now.live.session c.roll_now.new.self.live.session c.args.id.now c.roll_now.result c.args.seat.now c.roll_now.new.seat
    c.roll_now.ensures.rolled c.roll_now.ensures.takes c.roll_now.ensures.stays c.roll_now.ensures.err c.roll_now.ensures.refused

pub returns-clause-answer : goal.returns-clause-answer
returns-clause-answer g c =
    record { old = c.args.self.now.live.session; new = c.roll_now.new.self.live.session; team = c.is_of_team.ensures; right = returns-clause-run g c }
