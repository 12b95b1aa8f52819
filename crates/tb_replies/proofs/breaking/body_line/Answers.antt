use Rattle.std.proofs.Common.{rules, sym, ◌∙◌}
use Rattle.tb_replies.proofs.BodyLemmas.{passed_over}
use Rattle.tb_replies.proofs.breaking.body_line.Goals as goal

pub lines-preserved : goal.lines-preserved
lines-preserved c = record {
  within = search rules;
  rest = passed_over c.line_count-count.result c.lines.line _ _ _ c.lines-test.true (sym c.begins.ensures ∙ c.if-begins.false) c.lines.invariant.rest;
}
