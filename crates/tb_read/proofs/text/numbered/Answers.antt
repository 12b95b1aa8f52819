use Rattle.std.proofs.Common.{ap, arith, length, false-eqb}
use Rattle.std.proofs.lemmas.List.{map-append}
use Rattle.tb_read.specs.Text.{is_line_feed}
use Rattle.tb_read.proofs.PieceLemmas.{piece_found}
use Rattle.tb_read.proofs.text.numbered.Goals as goal

pub loop-rest-preserved : goal.loop-rest-preserved
loop-rest-preserved c = rw (c.behind-rest.ensures, c.in_ok-push-2.ensures.items) (simp map-append (piece_found is_line_feed _ c.loop-rest.rest.now _ c.line_len-at.result (λ e. omega (arith, ap length e, false-eqb _ 0 c.loop-rest-test.ensures)) c.line_len-at.ensures.len c.loop-rest.invariant))
