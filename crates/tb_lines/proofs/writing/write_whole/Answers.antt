use Rattle.std.proofs.Common.{rules}
use Rattle.tb_lines.proofs.KnownLemmas.{appends_more}
use Rattle.tb_lines.proofs.writing.write_whole.Goals as goal

pub loop-done-preserved : goal.loop-done-preserved
loop-done-preserved g c = record {
  within = search rules;
  taken = appends_more _ _ _ c.loop-done.done c.in_ok-done.field-0 c.args.bytes.now c.loop-done.invariant.taken c.in_ok-done.ensures.bytes;
  failures = search rules;
}
