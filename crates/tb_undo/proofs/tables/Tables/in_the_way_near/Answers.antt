use Rattle.std.proofs.Common.{option_map, refl, sym, ap, ◌∙◌, subst}
use Rattle.std.specs.Option.{option_copied}
use Rattle.tb_model.specs.Names.{child}
use Rattle.tb_model.specs.Hindrances.{Children, Group}
use Rattle.tb_undo.specs.State.{IsTaskState}
use Rattle.tb_undo.specs.Obstacles.{hindrance_by}
use Rattle.tb_undo.proofs.StartLemmas.{kept, was_spawned}
use Rattle.tb_undo.proofs.AskingLemmas.{by_undeferred, by_start, by_wait, by_close, by_none}
use Rattle.tb_undo.proofs.tables.Tables.in_the_way_near.Goals as goal

pub returns-in_err-row : goal.returns-in_err-row
returns-in_err-row c first root_line D legal state unended =
    let st = subst (IsTaskState root_line D) (sym c.self.view_is) state in
    absurd (kept first root_line D _ legal st c.args.name.now (was_spawned first root_line D c.args.self.now legal state c.args.name.now unended) (sym c.get.ensures.value ∙ ap option_copied c.in_err-row.was))

pub returns-in-Some : goal.returns-in-Some
returns-in-Some c =
    by_undeferred _ c.args.self.now c.self.view_is c.args.name.now c.in_ok-row.row.now (sym c.get.ensures.value ∙ ap option_copied c.in_ok-row.was) c.undeferred.result c.undeferred.ensures c.args.action.now c.in-Some.child c.in-Some.is

pub returns-in-Start : goal.returns-in-Start
returns-in-Start c =
    by_start _ c.args.self.now c.self.view_is c.args.name.now c.in_ok-row.row.now (sym c.get.ensures.value ∙ ap option_copied c.in_ok-row.was) c.undeferred.result c.undeferred.ensures c.in_default.is c.args.action.now _ c.in-Start.is c.before_start.ensures

pub returns-in_err-child-in-Wait : goal.returns-in_err-child-in-Wait
returns-in_err-child-in-Wait c =
    by_wait _ c.args.self.now c.self.view_is c.args.name.now c.in_ok-row.row.now (sym c.get.ensures.value ∙ ap option_copied c.in_ok-row.was) c.undeferred.result c.undeferred.ensures c.in_default.is c.args.action.now _ c.in-Wait.items _ c.next_covered.result c.in-Wait.is c.as_slice.ensures c.next_covered.ensures
    (ap (λ o. option_map Children (option_map (child c.args.name.now) o)) c.in_err-child-in-Wait.was ∙ sym (ap (option_map (hindrance_by c.args.name.now)) c.from_residual-in_err-child-in-Wait.ensures))

pub returns-in_ok-child-in-Wait : goal.returns-in_ok-child-in-Wait
returns-in_ok-child-in-Wait c =
    by_wait _ c.args.self.now c.self.view_is c.args.name.now c.in_ok-row.row.now (sym c.get.ensures.value ∙ ap option_copied c.in_ok-row.was) c.undeferred.result c.undeferred.ensures c.in_default.is c.args.action.now _ c.in-Wait.items _ c.next_covered.result c.in-Wait.is c.as_slice.ensures c.next_covered.ensures
    (ap (λ o. option_map Children (option_map (child c.args.name.now) o)) c.in_ok-child-in-Wait.was)

pub returns-in_err-member-in-Close : goal.returns-in_err-member-in-Close
returns-in_err-member-in-Close c =
    by_close _ c.args.self.now c.self.view_is c.args.name.now c.in_ok-row.row.now (sym c.get.ensures.value ∙ ap option_copied c.in_ok-row.was) c.undeferred.result c.undeferred.ensures c.in_default.is c.args.action.now _ (option_copied c.first_member.result) c.in-Close.is c.first_member.ensures
    (ap (λ o. option_map Group (option_copied o)) c.in_err-member-in-Close.was ∙ sym (ap (option_map (hindrance_by c.args.name.now)) c.from_residual-in_err-member-in-Close.ensures))

pub returns-in_ok-member-in-Close : goal.returns-in_ok-member-in-Close
returns-in_ok-member-in-Close c =
    by_close _ c.args.self.now c.self.view_is c.args.name.now c.in_ok-row.row.now (sym c.get.ensures.value ∙ ap option_copied c.in_ok-row.was) c.undeferred.result c.undeferred.ensures c.in_default.is c.args.action.now _ (option_copied c.first_member.result) c.in-Close.is c.first_member.ensures
    (ap (λ o. option_map Group (option_copied o)) c.in_ok-member-in-Close.was)

pub returns-in_default-action : goal.returns-in_default-action
returns-in_default-action c =
    by_none _ c.args.self.now c.self.view_is c.args.name.now c.in_ok-row.row.now (sym c.get.ensures.value ∙ ap option_copied c.in_ok-row.was) c.undeferred.result c.undeferred.ensures c.in_default.is c.args.action.now _ c.in_default-action.not-Start c.in_default-action.not-Wait c.in_default-action.not-Close refl
