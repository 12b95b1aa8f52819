use Rattle.std.proofs.Common.{◌∙◌, sym, ap, false}
use Rattle.std.specs.Prelude.{unwrap_or}
use Rattle.tb_ready.proofs.TasksLemmas.{mark_of_named}
use Rattle.tb_ready.proofs.ready.Ready.can.Goals as goal

pub returns-in-Some : goal.returns-in-Some
returns-in-Some c =
    let tasks = ap (λ v. v.tasks) c.self.view_is in
    rw (← tasks) (c.is_marked.ensures.mark
    ∙ ap (λ m. unwrap_or m false) (sym (mark_of_named c.self.inside.names.tasks c.args.name.now c.in-Some.at c.find.ensures.unique c.in-Some.ensures.found)))
