use Rattle.std.proofs.Common.{ap}
use Rattle.tb_ready.proofs.LayoutLemmas as lemma
use Rattle.tb_ready.proofs.names.Names.find.Goals as goal

pub returns-clause-found : goal.returns-clause-found
returns-clause-found c =
    let tasks = ap (λ v. v.tasks) c.self.view_is in
    rw (← tasks) (lemma.found c.self.inside.keys.entries c.self.inside.marks.slots c.args.name.now c.get_index_of.result c.get_index_of.ensures.index)

pub returns-clause-absent : goal.returns-clause-absent
returns-clause-absent c =
    let tasks = ap (λ v. v.tasks) c.self.view_is in
    rw (← tasks) (lemma.not_found c.self.inside.keys.entries c.self.inside.marks.slots c.args.name.now c.get_index_of.result c.get_index_of.ensures.found)

pub returns-clause-unique : goal.returns-clause-unique
returns-clause-unique c =
    let tasks = ap (λ v. v.tasks) c.self.view_is in
    rw (← tasks) (lemma.unique c.self.inside.keys.entries c.self.inside.marks.slots c.self.invariant.1)
