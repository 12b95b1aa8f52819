use Rattle.std.proofs.Common.{◌≡◌, ◌++◌, length, take, codes}
use Rattle.std.specs.Fmt.{decimal}
use Rattle.tb_steps.specs.Scans.{history_of}
use Rattle.tb_view.specs.Lines.{line}
use Rattle.tb_view.specs.Steps.{history_lines, AreCounts}
use Rattle.tb_view.proofs.steps.history_text.Given as goal

-- the lines of the steps so far, which are counted
abbrev pub invariant-steps : goal.invariant-steps
invariant-steps l = record {
  counts : AreCounts (history_of (take l.at l.entries)) l.counts;
  text : l.text ≡ line (codes "hist " ++ decimal (length l.entries)) ++ history_lines l.program (history_of (take l.at l.entries));
}
