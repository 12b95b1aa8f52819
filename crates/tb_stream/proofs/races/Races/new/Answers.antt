use Rattle.std.proofs.Common.{refl}
use Rattle.tb_stream.proofs.races.Races.new.Goals as goal

pub returns : goal.returns
returns c cells = record {
  legal = tt;
  ids = c.in_ok-new.ensures cells;
  tasks = c.in_ok-new-2.ensures cells;
  count = refl;
  halves = c.in_ok-new-3.ensures;
}
