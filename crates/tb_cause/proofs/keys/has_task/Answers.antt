use Rattle.std.proofs.Common.{sym, ap, ◌∙◌}
use Rattle.std.specs.Option.{option_copied}
use Rattle.tb_cause.proofs.SetLemmas.{one_name}
use Rattle.tb_cause.proofs.keys.has_task.Goals as goal

pub returns-in-Some : goal.returns-in-Some
returns-in-Some c =
    c.eq.ensures
    ∙ one_name c.args.set.now.keys c.in-Some.one.now c.args.task.now (sym c.len.ensures.len ∙ c.if-len-eq1.true) (ap option_copied (sym c.in-Some.is) ∙ c.get_index.ensures.key)
