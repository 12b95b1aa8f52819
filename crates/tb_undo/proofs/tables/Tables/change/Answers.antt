use Rattle.std.proofs.Common.{sym, ap, ap₂, ◌∙◌, subst}
use Rattle.std.specs.Option.{option_or}
use Rattle.tb_undo.specs.Changes.{ChangedTasks, cell_over, cells_by, output_by}
use Rattle.tb_undo.proofs.ActLemmas.{tasks_kept, replaced_as}
use Rattle.tb_undo.proofs.StateLemmas.{tasks_room}
use Rattle.tb_undo.proofs.tables.Tables.change.Goals as goal

pub change_tasks-over-requires-clause-room : goal.change_tasks-over-requires-clause-room
change_tasks-over-requires-clause-room c = tasks_room c.args.self.now c.args.event.now.task c.args.event.now.action c.requires.room

pub returns-clause-changed : goal.returns-clause-changed
returns-clause-changed c = record {
  cells = c.write-number.ensures.cells ∙ ap (λ s. cells_by c.args.event.now.action s.cells) c.change_tasks-over.ensures.store;
  output = c.write-number.ensures.output ∙ ap (λ s. output_by c.args.event.now.action s.output) c.change_tasks-over.ensures.store;
  of_tasks = subst (ChangedTasks c.args.event.now c.args.to c.args.self.now) (sym c.write-number.ensures.rest)
      (tasks_kept c.args.event.now c.args.to c.args.self.now c.change_tasks-over.new.self c.write-number.new.self.store c.change_tasks-over.ensures.changed);
}

pub returns-clause-replaced : goal.returns-clause-replaced
returns-clause-replaced c k h =
    let stood = c.change_tasks-over.ensures.replaced k h in
    let cell = c.write-number.ensures.over ∙ ap (λ s. cell_over c.args.event.now.action s.cells) c.change_tasks-over.ensures.store in
    replaced_as c.args.event.now.action c.args.self.now.store.cells k (c.or.ensures ∙ ap₂ option_or cell stood.0) c.register.ensures stood.1
