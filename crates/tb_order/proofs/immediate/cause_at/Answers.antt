use Rattle.std.proofs.Common.{sym, subst}
use Rattle.tb_model.specs.Names.{Name}
use Rattle.tb_model.specs.Facts.{IsSpawned}
use Rattle.tb_steps.specs.Scans.{history_of}
use Rattle.tb_core.proofs.LendingLemmas.{spawned_in}
use Rattle.tb_order.proofs.immediate.cause_at.Goals as goal
use Rattle.tb_steps.proofs.FirstLemmas.{there}

pub need_kind-requires-clause-earlier : goal.need_kind-requires-clause-earlier
need_kind-requires-clause-earlier c =
    let front = c.args.front.now in
    let w = there front c.args.first c.requires.within in
    subst (λ (t : Name). IsSpawned (history_of front) t) (sym (c.task.ensures w.0 w.1)) (spawned_in front c.args.first w.0 c.requires.within w.1 c.requires.legal)
