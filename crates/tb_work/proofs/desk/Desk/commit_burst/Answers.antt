use Rattle.std.proofs.Common.{ℕ, length, ap, ◌∙◌, None}
use Rattle.tb_live.specs.Session.{with_seat}
use Rattle.tb_work.proofs.Bursting.{grew_each}
use Rattle.tb_work.proofs.desk.Desk.commit_burst.Goals as goal

pub returns-clause-seat : goal.returns-clause-seat
returns-clause-seat g c = record {
  place = length c.args.self.now.live.session.journal;
  each = c.commit_each-burst.ensures.each;
  whole = c.commit_each-burst.ensures.whole;
}

-- the claim that ends is the seat's
pub returns-clause-run : goal.returns-clause-run
returns-clause-run g c =
    let first = length c.args.self.now.live.session.journal in
    let each = c.commit_each-burst.ensures.each in
    let grew = grew_each g.N.Team.program c.commit_each-burst.result.taken first c.args.plans.items c.args.seat.now c.commit_each-burst.new.seat each in
    record {
      takes = record {
        last = c.commit_each-burst.new.self.live.session;
        each = c.commit_each-burst.ensures.run;
        ended = c.let_go.ensures.left ∙ ap (λ (n : ℕ). with_seat c.commit_each-burst.new.self.live.session n None) grew.number;
      };
      each = each;
    }

pub returns-clause-answer : goal.returns-clause-answer
returns-clause-answer g c =
    record { old = c.args.self.now.live.session; new = c.let_go.new.self.live.session; team = c.is_of_team.ensures; right = returns-clause-run g c }
