use Rattle.std.proofs.Common.{unwrap_or}
use Rattle.tb_journal.proofs.journal.Journal.push_short.Goals as goal

pub returns-clause-items : goal.returns-clause-items
returns-clause-items c = c.put.ensures.items _ (c.short_action.ensures.stands (unwrap_or c.args.new c.args.self.now.turn))
