use Rattle.std.proofs.Common.{sym, ap, ◌∙◌}
use Rattle.std.specs.Option.{option_map}
use Rattle.std.specs.Map.Iter.{deref_pair}
use Rattle.tb_ready.proofs.LayoutLemmas as lemma
use Rattle.tb_ready.proofs.names.Names.stands_at.Goals as goal

pub returns-in-Some-clause-stands : goal.returns-in-Some-clause-stands
returns-in-Some-clause-stands c h =
    let tasks = ap (λ v. v.tasks) c.self.view_is in
    rw (← tasks) (lemma.stands_there c.self.inside.keys.entries c.self.inside.marks.slots c.args.at c.in-Some.key.now _ c.args.name.now (sym c.get_index.ensures.entry ∙ ap (option_map deref_pair) c.in-Some.is) (sym c.eq.ensures ∙ h))

pub returns-in-Some-clause-unique : goal.returns-in-Some-clause-unique
returns-in-Some-clause-unique c =
    let tasks = ap (λ v. v.tasks) c.self.view_is in
    rw (← tasks) (lemma.unique c.self.inside.keys.entries c.self.inside.marks.slots c.self.invariant.1)

pub returns-in-None-clause-unique : goal.returns-in-None-clause-unique
returns-in-None-clause-unique c =
    let tasks = ap (λ v. v.tasks) c.self.view_is in
    rw (← tasks) (lemma.unique c.self.inside.keys.entries c.self.inside.marks.slots c.self.invariant.1)
