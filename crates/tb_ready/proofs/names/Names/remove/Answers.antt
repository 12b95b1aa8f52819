use Rattle.std.proofs.Common.{ap}
use Rattle.tb_ready.proofs.LayoutLemmas as lemma
use Rattle.tb_ready.proofs.names.Names.remove.Goals as goal

pub remove-requires : goal.remove-requires
remove-requires c =
    lemma.entry_there c.self.inside.keys.entries c.self.inside.marks.slots c.args.at c.entry-key.result.0.now c.entry-key.result.1 c.self.invariant.0 c.entry-key.ensures

pub invariant_of-self : goal.invariant_of-self
invariant_of-self c = (
  lemma.remove_kept c.self.inside.keys.entries c.shift_remove_index-entry.new.self.entries c.self.inside.marks.slots c.remove.new.self.slots c.args.at c.entry-key.result.0.now c.entry-key.result.1
      c.self.invariant.0 c.entry-key.ensures c.shift_remove_index-entry.ensures.entries c.remove.ensures.updates.others,
  c.shift_remove_index-entry.ensures.unique,
)

pub returns-clause-tasks : goal.returns-clause-tasks
returns-clause-tasks c =
    let tasks = ap (λ v. v.tasks) c.self.view_is in
    rw (← tasks) (lemma.remove_tasks c.self.inside.keys.entries c.shift_remove_index-entry.new.self.entries c.self.inside.marks.slots c.remove.new.self.slots c.args.at c.entry-key.result.0.now c.entry-key.result.1
    c.self.invariant.0 c.entry-key.ensures c.shift_remove_index-entry.ensures.entries c.remove.ensures.updates.others)
