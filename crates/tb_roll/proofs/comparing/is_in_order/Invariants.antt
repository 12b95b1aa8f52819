use Rattle.std.proofs.Common.{◌≡◌, List, true, take}
use Rattle.tb_model.specs.Ordered.{ordered}
use Rattle.tb_steps.specs.Entries.{Entry}
use Rattle.tb_steps.specs.Scans.{history_of}
use Rattle.tb_roll.specs.Comparing.{AreMatched}
use Rattle.tb_roll.proofs.comparing.is_in_order.Given as goal

-- those that were asked are in order
abbrev pub invariant-loop-later : goal.invariant-loop-later
invariant-loop-later l = (others : List Entry) → AreMatched l.entries l.places others → ordered (history_of others) (history_of (take l.later l.entries)) ≡ true
