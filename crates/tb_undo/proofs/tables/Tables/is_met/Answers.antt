use Rattle.tb_model.specs.Lines.{events_of}
use Rattle.tb_undo.proofs.MetLemmas.{no_start_waits, none_waits}
use Rattle.tb_undo.proofs.tables.Tables.is_met.Goals as goal

pub returns-in-Some : goal.returns-in-Some
returns-in-Some c first root_line D legal state free t =
    no_start_waits first (events_of D) legal c.args.name.now c.in-Some.n c.in-Some.parent.now.children.siblings (c.in-Some.ensures.some first root_line D legal state) (c.is_met.ensures free) t

pub returns-in-None : goal.returns-in-None
returns-in-None c first root_line D legal state free t = none_waits (events_of D) t c.args.name.now (c.family.ensures.none c.in-None.is first root_line D legal state)
