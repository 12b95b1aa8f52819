use Rattle.std.proofs.Common.{ap, sym, ◌∙◌, false}
use Rattle.std.specs.Prelude.{unwrap_or}
use Rattle.tb_ready.proofs.LayoutLemmas as lemma
use Rattle.tb_ready.proofs.names.Names.is_marked.Goals as goal

pub index-requires : goal.index-requires
index-requires c =
    lemma.entry_there c.self.inside.keys.entries c.self.inside.marks.slots c.args.at c.entry-key.result.0.now c.entry-key.result.1 c.self.invariant.0 c.entry-key.ensures

pub returns-clause-mark : goal.returns-clause-mark
returns-clause-mark c =
    let tasks = ap (λ v. v.tasks) c.self.view_is in
    rw (← tasks) (sym (lemma.entry_mark c.self.inside.keys.entries c.self.inside.marks.slots c.args.at c.entry-key.result.0.now c.entry-key.result.1 c.entry-key.ensures
    ∙ ap (λ o. unwrap_or o false) c.index.ensures))

pub returns-clause-unique : goal.returns-clause-unique
returns-clause-unique c =
    let tasks = ap (λ v. v.tasks) c.self.view_is in
    rw (← tasks) (lemma.unique c.self.inside.keys.entries c.self.inside.marks.slots c.self.invariant.1)
