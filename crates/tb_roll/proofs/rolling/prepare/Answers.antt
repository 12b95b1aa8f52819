use Rattle.std.proofs.Common.{refl}
use Rattle.tb_cause.proofs.ConeLemmas.{same_step}
use Rattle.tb_roll.proofs.RollLemmas.{is_of_history}
use Rattle.tb_roll.proofs.rolling.prepare.Goals as goal

pub returns-clause-ready : goal.returns-clause-ready
returns-clause-ready c =
    is_of_history c.args.entries.now c.args.at c.args.step.now c.in_ok-places.field-0 _ c.in_ok-places.ensures.cone
    (same_step _ _ c.in_ok-clone.ensures.cases) refl refl c.len-2.ensures
