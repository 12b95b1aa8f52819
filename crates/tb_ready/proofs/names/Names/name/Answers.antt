use Rattle.std.proofs.Common.{ap, sym}
use Rattle.tb_ready.proofs.LayoutLemmas as lemma
use Rattle.tb_ready.proofs.names.Names.name.Goals as goal

pub returns-clause-name : goal.returns-clause-name
returns-clause-name c =
    let tasks = ap (λ v. v.tasks) c.self.view_is in
    rw (← tasks) (sym (lemma.entry_name c.self.inside.keys.entries c.self.inside.marks.slots c.args.at c.entry.result.0.now c.entry.result.1 c.entry.ensures))

pub returns-clause-unique : goal.returns-clause-unique
returns-clause-unique c =
    let tasks = ap (λ v. v.tasks) c.self.view_is in
    rw (← tasks) (lemma.unique c.self.inside.keys.entries c.self.inside.marks.slots c.self.invariant.1)
