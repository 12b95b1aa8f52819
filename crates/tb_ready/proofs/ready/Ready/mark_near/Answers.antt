use Rattle.std.proofs.Common.{◌∙◌, sym, ap, arith, length}
use Rattle.tb_ready.proofs.TasksLemmas.{with_mark_named, with_mark_absent, length_set}
use Rattle.tb_ready.proofs.ready.Ready.mark_near.Goals as goal

pub invariant_of-self : goal.invariant_of-self
invariant_of-self c =
    let n = ap length c.set_mark-near.ensures.tasks ∙ length_set c.self.inside.names.tasks c.in-Some.at c.args.marked in
    (c.set_mark-near.ensures.order, omega (arith, n, c.self.invariant.1, c.set_mark-near.ensures.capacity))

pub returns-in-Some-clause-tasks : goal.returns-in-Some-clause-tasks
returns-in-Some-clause-tasks c =
    let tasks = ap (λ v. v.tasks) c.self.view_is in
    rw (← tasks) (c.set_mark-near.ensures.tasks
    ∙ sym (with_mark_named c.self.inside.names.tasks c.args.name.now c.in-Some.at c.args.marked c.find_near.ensures.unique c.in-Some.ensures.found))

pub returns-in-Some-clause-room : goal.returns-in-Some-clause-room
returns-in-Some-clause-room c =
    let n = ap length c.set_mark-near.ensures.tasks ∙ length_set c.self.inside.names.tasks c.in-Some.at c.args.marked in
    let room = ap (λ v. v.room) c.self.view_is in
    rw (← room) (omega (arith, n, c.set_mark-near.ensures.room, c.set_mark-near.ensures.capacity))

pub returns-in_default-clause-tasks : goal.returns-in_default-clause-tasks
returns-in_default-clause-tasks c =
    let tasks = ap (λ v. v.tasks) c.self.view_is in
    rw (← tasks) (sym (with_mark_absent c.self.inside.names.tasks c.args.name.now c.args.marked (c.find_near.ensures.absent c.in_default.is)))
