use Rattle.std.proofs.Common.{◌∙◌, sym, ap, arith, length}
use Rattle.tb_ready.proofs.TasksLemmas.{without_name_named, without_absent, length_remove}
use Rattle.tb_ready.proofs.ready.Ready.remove.Goals as goal

pub invariant_of-self : goal.invariant_of-self
invariant_of-self c =
    let n = ap length c.forget-near.ensures.tasks in
    let less = length_remove c.self.inside.names.tasks c.in-Some.at c.in-Some.ensures.found.within in
    (c.forget-near.ensures.order, omega (arith, n, less, c.self.invariant.1, c.forget-near.ensures.capacity))

pub returns-in-Some-clause-tasks : goal.returns-in-Some-clause-tasks
returns-in-Some-clause-tasks c =
    let tasks = ap (λ v. v.tasks) c.self.view_is in
    rw (← tasks) (c.forget-near.ensures.tasks
    ∙ sym (without_name_named c.self.inside.names.tasks c.args.name.now c.in-Some.at c.find.ensures.unique c.in-Some.ensures.found))

pub returns-in-Some-clause-room : goal.returns-in-Some-clause-room
returns-in-Some-clause-room c =
    let n = ap length c.forget-near.ensures.tasks in
    let less = length_remove c.self.inside.names.tasks c.in-Some.at c.in-Some.ensures.found.within in
    let room = ap (λ v. v.room) c.self.view_is in
    rw (← room) (omega (arith, n, less, c.forget-near.ensures.room, c.forget-near.ensures.capacity))

pub returns-in_default-clause-tasks : goal.returns-in_default-clause-tasks
returns-in_default-clause-tasks c =
    let tasks = ap (λ v. v.tasks) c.self.view_is in
    rw (← tasks) (sym (without_absent c.self.inside.names.tasks c.args.name.now (c.find.ensures.absent c.in_default.is)))
