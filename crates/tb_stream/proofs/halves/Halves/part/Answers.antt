use Rattle.std.proofs.Common.{rules}
use Rattle.tb_stream.proofs.ExclusionLemmas.{loose_none}
use Rattle.tb_stream.proofs.halves.Halves.part.Goals as goal

pub returns-in_ok-half-clause-halves : goal.returns-in_ok-half-clause-halves
returns-in_ok-half-clause-halves c H are = record {
  strict = are.strict;
  loose = c.in_ok-half.ensures H (loose_none H c.args.self.now.loose are.loose (search rules)) are.strict;
}
