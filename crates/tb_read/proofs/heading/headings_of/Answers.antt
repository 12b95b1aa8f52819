use Rattle.tb_read.proofs.HeadingLemmas.{heading_step}
use Rattle.tb_read.proofs.heading.headings_of.Goals as goal

pub loop-line-preserved : goal.loop-line-preserved
loop-line-preserved c =
    heading_step c.args.lines.now c.loop-line.headings c.add.new.self c.loop-line.line _ _ c.loop-line-test.true c.in_ok-add.ensures c.loop-line.invariant
