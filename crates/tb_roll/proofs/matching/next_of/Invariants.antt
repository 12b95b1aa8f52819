use Rattle.std.proofs.Common.{◌≡◌, take}
use Rattle.tb_model.specs.Facts.{own}
use Rattle.tb_steps.specs.Scans.{history_of}
use Rattle.tb_roll.proofs.matching.next_of.Given as goal

-- those that were passed are of other tasks
abbrev pub invariant-loop-at : goal.invariant-loop-at
invariant-loop-at l = own l.task (history_of (take l.at l.entries)) ≡ own l.task (history_of (take l.begin l.entries))
