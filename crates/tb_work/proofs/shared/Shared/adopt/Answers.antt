use Rattle.std.proofs.Common.{rules, ◌≤◌, length, arith}
use Rattle.tb_work.specs.Changes.{entries}
use Rattle.tb_work.proofs.Desks.{all_begun}
use Rattle.tb_work.proofs.shared.Shared.adopt.Goals as goal

pub invariant_of-new : goal.invariant_of-new
invariant_of-new g c =
    let told = c.in-Ok-tell_run.ensures in
    let live = c.requires.live in
    let room = c.in-Ok.ensures in
    let within : length c.args.live.session.journal ≤ c.args.live.session.limit = c.is_within.ensures.within in
    record {
      program = live.0;
      limit = live.1;
      breakpoints = live.2;
      seats = live.3;
      begins = all_begun (entries c.args.live.session) g.N.Team.begun c.requires.begun;
      none_spare = search rules;
      room_for_all = (room.none, omega (arith, within, room.room, c.limit.ensures), omega (arith, live.1, room.room, c.limit.ensures));
      some = search rules;
      counted = told.total;
      cells = told.cells;
      known = told.known;
    }
