use Rattle.std.proofs.Common.{ap}
use Rattle.tb_model.specs.Lines.{events_of}
use Rattle.tb_steps.specs.Scans.{history_of}
use Rattle.tb_core.specs.Seen.{history}
use Rattle.tb_roll.proofs.OrderLemmas.{answered}
use Rattle.tb_roll.proofs.comparing.same_run.Goals as goal

pub returns : goal.returns
returns c =
    answered (history_of c.legal_entries-entries.result) (history_of c.legal_entries-others.result) (history c.args.one.now.run) (history c.args.other.now.run)
    (ap events_of c.legal_entries-entries.ensures.steps) (ap events_of c.legal_entries-others.ensures.steps) (c.in_ok-is_found_in.ensures.0 c.if-not-branch.false)
    c.is_found_in-2.result c.is_found_in-2.ensures
