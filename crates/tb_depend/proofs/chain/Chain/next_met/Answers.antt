use Rattle.std.proofs.Common.{sym, ◌∙◌}
use Rattle.tb_depend.proofs.ChainLemmas.{next_of}
use Rattle.tb_depend.proofs.chain.Chain.next_met.Goals as goal

pub returns-then-is_met-clause-none : goal.returns-then-is_met-clause-none
returns-then-is_met-clause-none c =
    next_of c.args.self.now.items c.args.new c.item.result c.requires.a_cell.0 c.args.at c.meeting.result
    c.requires.a_cell.1 (sym c.is_met.ensures ∙ c.if-is_met.true) (c.meeting.ensures c.item.result c.item.ensures)
