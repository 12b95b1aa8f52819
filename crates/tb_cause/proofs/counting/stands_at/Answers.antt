use Rattle.std.proofs.Common.{slice_get, sym, ap, ◌∙◌}
use Rattle.std.specs.Option.{option_map}
use Rattle.std.specs.Map.Iter.{deref_pair}
use Rattle.tb_cause.proofs.CountLemmas.{key_in}
use Rattle.tb_cause.proofs.counting.stands_at.Goals as goal

pub returns-in-Some : goal.returns-in-Some
returns-in-Some c h =
    key_in c.args.counts.now.entries c.args.at c.in-Some.key.now c.args.task.now _
    (ap (λ es. slice_get es c.args.at) (sym c.as_slice.ensures.entries) ∙ sym c.get_index.ensures.entry ∙ ap (option_map deref_pair) c.in-Some.is)
    (sym c.eq.ensures ∙ h)
