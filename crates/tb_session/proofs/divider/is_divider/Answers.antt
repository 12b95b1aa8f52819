use Rattle.std.proofs.Common.{sym}
use Rattle.tb_session.proofs.DividerLemmas.{no_divider}
use Rattle.tb_session.proofs.divider.is_divider.Goals as goal

pub returns-then-not-begins_with : goal.returns-then-not-begins_with
returns-then-not-begins_with c = no_divider c.args.line.now (sym c.if-not-begins_with.ensures)
