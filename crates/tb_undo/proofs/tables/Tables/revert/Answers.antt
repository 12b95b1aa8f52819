use Rattle.tb_undo.proofs.StateLemmas.{stands_can, is_without}
use Rattle.tb_undo.proofs.tables.Tables.revert.Goals as goal

pub change_back-requires : goal.change_back-requires
change_back-requires c = stands_can c.args.self.now c.args.event.now c.args.replaced c.requires

pub returns-clause-without : goal.returns-clause-without
returns-clause-without c = is_without c.args.self.now c.change_back.new.self c.args.event.now c.args.replaced c.change_back.ensures.changed
