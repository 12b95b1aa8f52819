use Rattle.std.proofs.Common.{◌≡◌, ◌-◌, ◌++◌, length, take}
use Rattle.tb_steps.specs.Scans.{history_of}
use Rattle.tb_view.specs.Steps.{newest_lines, AreCounts}
use Rattle.tb_view.proofs.steps.append_newest.Given as goal

-- the lines of the newest steps so far, and all steps so far are counted
abbrev pub invariant-steps : goal.invariant-steps
invariant-steps l = record {
  counts : AreCounts (history_of (take l.at l.entries)) l.counts;
  text : l.text ≡ l.initial.text ++ newest_lines l.program (l.at - (length l.entries - l.count)) (history_of (take l.at l.entries));
}
