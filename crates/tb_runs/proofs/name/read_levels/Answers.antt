use Rattle.std.proofs.Common.{length, sym, ◌∙◌, arith}
use Rattle.tb_runs.proofs.NameLemmas.{level_dots, level_led}
use Rattle.tb_runs.proofs.name.read_levels.Goals as goal

pub loop-left-preserved : goal.loop-left-preserved
loop-left-preserved c = record {
  led = rw (c.in_ok-name.ensures.child, c.from-left.ensures)
      (level_led c.loop-left.name c.loop-left.left.now c.behind-digits.result.now c.level_len-at.result c.in-Some.n _ (omega arith) (omega arith) c.behind-digits.ensures c.level_len-at.ensures.len (sym c.child_number.ensures.number ∙ c.in-Some.is) c.loop-left.invariant.led);
  dots = rw (c.in_ok-name.ensures.child, c.from-left.ensures)
      (level_dots c.loop-left.left.now c.behind-digits.result.now c.level_len-at.result (length c.loop-left.name) _ (omega arith) (omega arith) c.behind-digits.ensures c.level_len-at.ensures.len c.loop-left.invariant.dots);
}
