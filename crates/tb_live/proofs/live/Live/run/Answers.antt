use Rattle.std.proofs.Common.{rules}
use Rattle.tb_live.specs.Runs.{unclaimed}
use Rattle.tb_live.proofs.RunsLemmas.{so_ends}
use Rattle.tb_live.proofs.live.Live.run.Goals as goal

pub returns-clause-ok : goal.returns-clause-ok
returns-clause-ok c =
    so_ends c.args.moves.now (unclaimed c.args.self.now.session) c.loop-one.self.session c.loop-one.answers.items c.loop-one.one-index (search rules) c.loop-one.invariant.so_far
