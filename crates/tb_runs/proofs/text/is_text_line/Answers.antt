use Rattle.std.proofs.Common.{sym, ◌∙◌}
use Rattle.tb_runs.proofs.TextLemmas.{text_before}
use Rattle.tb_runs.proofs.text.is_text_line.Goals as goal

pub returns-then-are_text : goal.returns-then-are_text
returns-then-are_text c = c.if-are_text.true ∙ sym (text_before c.args.line.now (sym c.are_text.ensures ∙ c.if-are_text.true))
