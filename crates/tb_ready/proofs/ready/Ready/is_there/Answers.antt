use Rattle.std.proofs.Common.{◌∙◌, ap}
use Rattle.tb_ready.proofs.TasksLemmas.{there_test}
use Rattle.tb_ready.proofs.ready.Ready.is_there.Goals as goal

pub returns : goal.returns
returns c =
    let tasks = ap (λ v. v.tasks) c.self.view_is in
    rw (← tasks) (c.is_some.ensures ∙ there_test c.self.inside.names.tasks c.args.name.now c.find.result c.find.ensures.unique c.find.ensures.found c.find.ensures.absent)
