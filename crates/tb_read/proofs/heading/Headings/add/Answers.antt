use Rattle.std.proofs.Common.{sym}
use Rattle.tb_read.proofs.BeginningLemmas.{nothing_added}
use Rattle.tb_read.proofs.heading.Headings.add.Goals as goal

pub returns-then-not-begins_with : goal.returns-then-not-begins_with
returns-then-not-begins_with c = nothing_added c.args.self.now c.args.line c.args.text.now (sym c.if-not-begins_with.ensures)
