use Rattle.tb_work.proofs.Answered.{undone_by}
use Rattle.tb_work.proofs.desk.Desk.undo.Goals as goal

pub returns-clause-run : goal.returns-clause-run
returns-clause-run g c =
    undone_by c.args.self.now.live.session c.undo_now.new.self.live.session c.args.id.now c.undo_now.result c.args.seat.now c.undo_now.new.seat
    c.undo_now.ensures.undone c.undo_now.ensures.takes c.undo_now.ensures.stays c.undo_now.ensures.err c.undo_now.ensures.refused

pub returns-clause-answer : goal.returns-clause-answer
returns-clause-answer g c =
    record { old = c.args.self.now.live.session; new = c.undo_now.new.self.live.session; team = c.is_of_team.ensures; right = returns-clause-run g c }
