use Rattle.std.proofs.Common.{refl, sym, ap, ◌∙◌, subst}
use Rattle.tb_undo.specs.contracts.tables.Tables.{the_view}
use Rattle.tb_undo.specs.Changes.{ChangedTasks}
use Rattle.tb_undo.specs.Tasks.{row, task}
use Rattle.tb_undo.proofs.ActLemmas.{changed_tasks}
use Rattle.tb_undo.proofs.tables.Tables.change_tasks.Goals as goal

pub advance-place-requires-clause-few : goal.advance-place-requires-clause-few
advance-place-requires-clause-few c k h =
    c.requires.can.few k (sym c.act.ensures.acted.own ∙ sym (ap (λ s. task s.rows c.args.event.now.task) c.self.view_is) ∙ h)

pub advance-place-requires-clause-room : goal.advance-place-requires-clause-room
advance-place-requires-clause-room c r h =
    c.act.ensures.acted.room r (sym (ap (λ s. row s.rows c.args.event.now.task) c.self.view_is) ∙ h)

pub returns-clause-changed : goal.returns-clause-changed
returns-clause-changed c =
    subst (ChangedTasks c.args.event.now c.args.to c.args.self.now) (sym c.turn_to_place.ensures)
    (changed_tasks c.args.event.now c.args.to c.args.self.now c.act.new.self (the_view c.self.inside) c.act.ensures.acted c.self.view_is
    _ (record { store = refl; waits = refl; marks = refl }) c.advance-place.ensures.tasks c.advance-place.ensures.holders)

pub returns-clause-replaced : goal.returns-clause-replaced
returns-clause-replaced c k h =
    c.advance-place.ensures.replaced k (ap (λ s. task s.rows c.args.event.now.task) c.self.view_is ∙ c.act.ensures.acted.own ∙ h)
