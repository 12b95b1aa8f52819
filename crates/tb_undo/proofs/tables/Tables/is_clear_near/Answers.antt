use Rattle.std.proofs.Common.{not, sym, ap, ◌∙◌}
use Rattle.std.proofs.lemmas.Bool.{false≢true}
use Rattle.tb_model.specs.Lines.{events_of}
use Rattle.tb_model.specs.Hindrances.{in_the_way}
use Rattle.tb_undo.specs.Obstacles.{hindrance_by}
use Rattle.tb_undo.proofs.ReasonLemmas.{clear_by}
use Rattle.tb_undo.proofs.tables.Tables.is_clear_near.Goals as goal

pub returns-then-not-is_excluded : goal.returns-then-not-is_excluded
returns-then-not-is_excluded c first root_line D legal state unended =
    clear_by (hindrance_by c.args.name.now) c.in_the_way_near.result c.is_none.result (in_the_way (events_of D) c.args.name.now c.args.action.now) c.is_none.ensures
    (c.in_the_way_near.ensures first root_line D legal state unended)

pub returns-else-not-is_excluded : goal.returns-else-not-is_excluded
returns-else-not-is_excluded c first root_line D legal state unended =
    (λ clear. absurd (false≢true (sym (ap not c.if-not-is_excluded.false) ∙ clear)), λ none. absurd (c.is_excluded.ensures first root_line D legal state unended c.if-not-is_excluded.false none))
