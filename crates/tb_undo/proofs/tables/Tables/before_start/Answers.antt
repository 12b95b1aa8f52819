use Rattle.std.proofs.Common.{option_map, sym, ap, ◌∙◌, subst}
use Rattle.std.specs.Option.{option_copied}
use Rattle.tb_undo.specs.Tasks.{row}
use Rattle.tb_undo.specs.State.{IsTaskState}
use Rattle.tb_undo.specs.Obstacles.{hindrance_by}
use Rattle.tb_undo.proofs.StartLemmas.{parent_kept, root_starts}
use Rattle.tb_undo.proofs.AskingLemmas.{by_waiting, by_started, by_excluded, by_nobody}
use Rattle.tb_undo.proofs.tables.Tables.before_start.Goals as goal

pub returns-in_err-n : goal.returns-in_err-n
returns-in_err-n c first root_line D legal state unended free =
    let none = sym c.ordinal.ensures ∙ c.in_err-n.was in
    root_starts first root_line D c.args.self.now legal state c.args.name.now none free ∙ sym (ap (option_map (hindrance_by c.args.name.now)) c.from_residual.ensures)

pub returns-in_err-parent : goal.returns-in_err-parent
returns-in_err-parent c first root_line D legal state unended free =
    let st = subst (IsTaskState root_line D) (sym c.self.view_is) state in
    let mine = ap (λ s. row s.rows c.args.name.now) c.self.view_is ∙ c.requires in
    absurd (parent_kept first root_line D _ legal st c.args.name.now c.in_ok-n.n c.args.own.now unended mine (sym c.ordinal.ensures ∙ c.in_ok-n.was) (sym c.get.ensures.value ∙ ap option_copied c.in_err-parent.was))

pub returns-in-Some : goal.returns-in-Some
returns-in-Some c =
    by_waiting _ c.args.self.now c.self.view_is c.args.name.now c.in_ok-n.n c.args.own.now c.in_ok-parent.parent.now c.requires (sym c.ordinal.ensures ∙ c.in_ok-n.was) (sym c.get.ensures.value ∙ ap option_copied c.in_ok-parent.was) c.next_before.result c.next_before.ensures c.in-Some.sibling c.in-Some.is

pub returns-then-own-gt0 : goal.returns-then-own-gt0
returns-then-own-gt0 c =
    by_started _ c.args.self.now c.self.view_is c.args.name.now c.in_ok-n.n c.args.own.now c.in_ok-parent.parent.now c.requires (sym c.ordinal.ensures ∙ c.in_ok-n.was) (sym c.get.ensures.value ∙ ap option_copied c.in_ok-parent.was) c.next_before.result c.next_before.ensures c.in_default.is c.if-own-gt0.true

pub returns-in_err-sibling : goal.returns-in_err-sibling
returns-in_err-sibling c =
    let told = by_nobody _ c.args.self.now c.self.view_is c.args.name.now c.in_ok-n.n c.args.own.now c.in_ok-parent.parent.now c.requires (sym c.ordinal.ensures ∙ c.in_ok-n.was) (sym c.get.ensures.value ∙ ap option_copied c.in_ok-parent.was) c.next_before.result c.next_before.ensures c.in_default.is c.if-own-gt0.false _ c.items.ensures c.busy_number.result c.busy_number.ensures c.in_err-sibling.was in
    λ first root_line D legal state unended free. told first root_line D legal state unended free ∙ sym (ap (option_map (hindrance_by c.args.name.now)) c.from_residual-in_err-sibling.ensures)

pub returns : goal.returns
returns c =
    by_excluded _ c.args.self.now c.self.view_is c.args.name.now c.in_ok-n.n c.args.own.now c.in_ok-parent.parent.now c.requires (sym c.ordinal.ensures ∙ c.in_ok-n.was) (sym c.get.ensures.value ∙ ap option_copied c.in_ok-parent.was) c.next_before.result c.next_before.ensures c.in_default.is c.if-own-gt0.false _ c.items.ensures c.busy_number.result c.busy_number.ensures c.in_ok-sibling.sibling c.in_ok-sibling.was
