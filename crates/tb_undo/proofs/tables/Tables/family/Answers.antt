use Rattle.std.proofs.Common.{sym, ap, ◌∙◌, subst}
use Rattle.std.specs.Option.{option_copied}
use Rattle.tb_model.specs.Lines.{events_of}
use Rattle.tb_undo.specs.State.{IsTaskState}
use Rattle.tb_undo.proofs.ReadingLemmas.{no_root_items, no_row_items, parent_there, is_nth}
use Rattle.tb_undo.proofs.tables.Tables.family.Goals as goal

pub returns-in_err-n-clause-none : goal.returns-in_err-n-clause-none
returns-in_err-n-clause-none c none first root_line D legal state =
    let number = sym c.ordinal.ensures ∙ c.in_err-n.was in
    no_root_items first (events_of D) c.args.name.now legal number

pub returns-in_err-row-clause-none : goal.returns-in_err-row-clause-none
returns-in_err-row-clause-none c none first root_line D legal state =
    let number = sym c.ordinal.ensures ∙ c.in_ok-n.was in
    let s = subst (IsTaskState root_line D) (sym c.self.view_is) state in
    no_row_items first root_line D _ legal s c.args.name.now c.in_ok-n.n number (sym c.get.ensures.value ∙ ap option_copied c.in_err-row.was)

pub returns-in_err-parent-clause-none : goal.returns-in_err-parent-clause-none
returns-in_err-parent-clause-none c none first root_line D legal state =
    let number = sym c.ordinal.ensures ∙ c.in_ok-n.was in
    let s = subst (IsTaskState root_line D) (sym c.self.view_is) state in
    let mine = sym c.get.ensures.value ∙ ap option_copied c.in_ok-row.was in
    absurd (parent_there first root_line D _ legal s c.args.name.now c.in_ok-n.n c.in_ok-row.row.now number mine (sym c.get-2.ensures.value ∙ ap option_copied c.in_err-parent.was))

pub returns-clause-some : goal.returns-clause-some
returns-clause-some c first root_line D legal state =
    let number = sym c.ordinal.ensures ∙ c.in_ok-n.was in
    let s = subst (IsTaskState root_line D) (sym c.self.view_is) state in
    let mine = sym c.get.ensures.value ∙ ap option_copied c.in_ok-row.was in
    is_nth first root_line D _ legal s c.args.name.now c.in_ok-n.n c.in_ok-row.row.now number mine c.in_ok-parent.parent.now (sym c.get-2.ensures.value ∙ ap option_copied c.in_ok-parent.was)
