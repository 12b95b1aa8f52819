use Rattle.std.proofs.Common.{ap}
use Rattle.tb_ready.proofs.LayoutLemmas as lemma
use Rattle.tb_ready.proofs.names.Names.push.Goals as goal

pub invariant_of-self : goal.invariant_of-self
invariant_of-self c =
    let tasks = ap (λ v. v.tasks) c.self.view_is in
    let u = c.insert_reserved-key.ensures.updates in (
      lemma.push_kept c.self.inside.keys.entries c.insert.new.self.entries c.self.inside.marks.slots c.insert_reserved-key.new.self.slots c.args.name c.insert_reserved-key.result
          c.self.invariant.0 (rw tasks c.requires.absent) c.insert_reserved-key.ensures.was_vacant u.changed u.others (rw c.unwrap.ensures at c.insert.ensures.entries),
      c.insert.ensures.unique,
    )

pub returns-clause-tasks : goal.returns-clause-tasks
returns-clause-tasks c =
    let tasks = ap (λ v. v.tasks) c.self.view_is in
    let u = c.insert_reserved-key.ensures.updates in
    rw (← tasks) (lemma.push_tasks c.self.inside.keys.entries c.insert.new.self.entries c.self.inside.marks.slots c.insert_reserved-key.new.self.slots c.args.name c.insert_reserved-key.result
    c.self.invariant.0 (rw tasks c.requires.absent) c.insert_reserved-key.ensures.was_vacant u.changed u.others (rw c.unwrap.ensures at c.insert.ensures.entries))
