use Rattle.std.proofs.Common.{◌+◌, ◌∙◌, arith, length-set}
use Rattle.tb_read.specs.Strips.{private_at}
use Rattle.tb_read.proofs.StripLemmas.{lines_start, lines_more, none_count}
use Rattle.tb_read.proofs.strip.lines_from.Goals as goal

pub loop-at-init : goal.loop-at-init
loop-at-init c = record {
  count = none_count 127;
  lines = λ k. lines_start (λ n. private_at c.args.program.now (c.args.first + n)) 127 k;
}

pub loop-at-preserved : goal.loop-at-preserved
loop-at-preserved c = record {
  count = length-set c.loop-at.lines c.loop-at.at c.private_at.result ∙ c.loop-at.invariant.count;
  lines = lines_more (λ k. private_at c.args.program.now (c.args.first + k)) c.loop-at.lines c.loop-at.at c.private_at.result (omega (arith, c.loop-at.invariant.count, c.requires.few, c.loop-at-test.true)) c.private_at.ensures c.loop-at.invariant.lines;
}
