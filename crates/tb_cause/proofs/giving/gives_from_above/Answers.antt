use Rattle.std.proofs.Common.{sym, ap, ◌∙◌}
use Rattle.indexmap.specs.IndexSet.{contains}
use Rattle.tb_model.specs.Names.{same_name}
use Rattle.tb_cause.proofs.HasLemmas.{passes_above, above_passes}
use Rattle.tb_cause.proofs.giving.gives_from_above.Goals as goal

pub returns-then-contains : goal.returns-then-contains
returns-then-contains c =
    let f = contains same_name c.args.set.now in
    sym (above_passes f c.in-Some.name (sym c.contains.ensures ∙ c.if-contains.true)) ∙ ap (passes_above f) (sym c.in-Some.is) ∙ c.up.invariant
