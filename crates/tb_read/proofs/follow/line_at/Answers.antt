use Rattle.std.proofs.Common.{sym}
use Rattle.tb_read.specs.Shown.{shown_line}
use Rattle.tb_read.proofs.ListLemmas.{get_map, get_or_some}
use Rattle.tb_read.proofs.follow.line_at.Goals as goal

pub returns : goal.returns
returns c = get_map shown_line c.args.lines.now c.args.at _ (get_or_some _ _ _ c.requires (sym c.index-lines-at.is))
