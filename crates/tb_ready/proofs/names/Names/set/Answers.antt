use Rattle.std.proofs.Common.{ap}
use Rattle.slab.proofs.SlabLemmas.{Updates-with_value}
use Rattle.tb_ready.proofs.LayoutLemmas as lemma
use Rattle.tb_ready.proofs.names.Names.set.Goals as goal

pub index_mut-requires : goal.index_mut-requires
index_mut-requires c =
    lemma.entry_there c.self.inside.keys.entries c.self.inside.marks.slots c.args.at c.entry-key.result.0.now c.entry-key.result.1 c.self.invariant.0 c.entry-key.ensures

pub invariant_of-self : goal.invariant_of-self
invariant_of-self c =
    let there = lemma.entry_there c.self.inside.keys.entries c.self.inside.marks.slots c.args.at c.entry-key.result.0.now c.entry-key.result.1 c.self.invariant.0 c.entry-key.ensures in
    let u = Updates-with_value c.self.inside.marks c.entry-key.result.1 c.args.marked there in
    (lemma.set_kept c.self.inside.marks.slots _ c.entry-key.result.1 c.args.marked u.changed u.others c.self.inside.keys.entries c.self.invariant.0, c.self.invariant.1)

pub returns-clause-tasks : goal.returns-clause-tasks
returns-clause-tasks c =
    let tasks = ap (λ v. v.tasks) c.self.view_is in
    let there = lemma.entry_there c.self.inside.keys.entries c.self.inside.marks.slots c.args.at c.entry-key.result.0.now c.entry-key.result.1 c.self.invariant.0 c.entry-key.ensures in
    let u = Updates-with_value c.self.inside.marks c.entry-key.result.1 c.args.marked there in
    rw (← tasks) (lemma.set_tasks c.self.inside.marks.slots _ c.entry-key.result.1 c.args.marked u.changed u.others c.self.inside.keys.entries c.args.at c.entry-key.result.0.now c.self.invariant.0 c.entry-key.ensures)
