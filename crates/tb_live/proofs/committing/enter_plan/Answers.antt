use Rattle.std.proofs.Common.{subst, sym, Option}
use Rattle.tb_model.specs.Names.{Name}
use Rattle.tb_core.specs.Outcomes as outcomes
use Rattle.tb_core.specs.Seen.{Seen, history}
use Rattle.tb_next.specs.Floor.{IsCarried}
use Rattle.tb_next.proofs.NativeLemmas.{native_fits}
use Rattle.tb_live.proofs.committing.enter_plan.Goals as goal

pub enter_readied-requires-clause-fits : goal.enter_readied-requires-clause-fits
enter_readied-requires-clause-fits c =
    subst (λ (z : Seen). outcomes.Fits z c.args.plan) (sym c.event_for.ensures.run) (native_fits c.args.program.now c.args.core.now.run c.args.plan c.requires.fits c.requires.native)

pub returns-in-Ok-clause-carried : goal.returns-in-Ok-clause-carried
returns-in-Ok-clause-carried c =
    subst (λ (o : Option Name). IsCarried (history c.enter_readied.new.core.run) o c.enter_readied.new.floor) c.event_for.ensures.floor c.enter_readied.ensures.floor
