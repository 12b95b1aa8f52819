use Rattle.std.proofs.Common.{rules, subst, sym, reverse}
use Rattle.tb_model.specs.Journal.{hist}
use Rattle.tb_control.specs.Claims.{Claims, AreLawful}
use Rattle.tb_control.proofs.ControlLemmas.{lawful_none}
use Rattle.tb_live.proofs.live.Live.open.Goals as goal

pub invariant_of-result : goal.invariant_of-result
invariant_of-result c =
    (search rules, subst (λ (cs : Claims). AreLawful (hist (reverse c.in_ok-journal.journal.items)) cs) (sym c.in_ok-claims.ensures) (lawful_none (hist (reverse c.in_ok-journal.journal.items)) c.args.seats), tt, search rules)
