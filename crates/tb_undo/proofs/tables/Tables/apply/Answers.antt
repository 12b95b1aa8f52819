use Rattle.tb_undo.proofs.StateLemmas.{ahead_same, behind, is_record}
use Rattle.tb_undo.proofs.tables.Tables.apply.Goals as goal

pub change-requires-clause-can : goal.change-requires-clause-can
change-requires-clause-can c = ahead_same c.args.self.now c.reserve_apply.new.self c.args.event.now c.reserve_apply.ensures.same c.requires

pub returns-clause-applied : goal.returns-clause-applied
returns-clause-applied c = behind c.args.self.now c.reserve_apply.new.self c.change.new.self c.args.event.now c.args.to c.reserve_apply.ensures.same c.change.ensures.changed

pub returns-clause-replaced : goal.returns-clause-replaced
returns-clause-replaced c = is_record c.args.self.now c.reserve_apply.new.self c.args.event.now c.change.result c.reserve_apply.ensures.same c.change.ensures.replaced
