use Rattle.std.proofs.Common.{sym, ◌∙◌}
use Rattle.tb_model.specs.Lines.{events_of}
use Rattle.tb_undo.proofs.ReadingLemmas.{items_told}
use Rattle.tb_undo.proofs.tables.Tables.items.Goals as goal

pub returns-in-Some : goal.returns-in-Some
returns-in-Some c first root_line D legal state =
    c.items.ensures ∙ items_told first (events_of D) c.args.name.now legal c.in-Some.n c.in-Some.parent.now.children.siblings (c.in-Some.ensures.some first root_line D legal state)

pub returns-in-None : goal.returns-in-None
returns-in-None c first root_line D legal state = sym (c.family.ensures.none c.in-None.is first root_line D legal state)
