use Rattle.std.proofs.Common.{[], ◌∷◌, ◌++◌}
use Rattle.tb_verdict_tests.proofs.whole.adds.Goals as goal

pub returns-in-Ok : goal.returns-in-Ok
returns-in-Ok c = (c.requires.0 ++ c.args.line.now ∷ [], c.in-Ok.ensures.ok c.requires.0 c.requires.1)

pub returns-in-Err : goal.returns-in-Err
returns-in-Err c = (c.requires.0, c.in-Err.ensures.err c.requires.0 c.requires.1)
