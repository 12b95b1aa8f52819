use Rattle.std.proofs.Common.{◌≡◌, ◌++◌, length, take, codes}
use Rattle.std.specs.Fmt.{decimal}
use Rattle.tb_steps.specs.Scans.{history_of}
use Rattle.tb_view.specs.Lines.{line}
use Rattle.tb_view.proofs.ChosenLemmas.{each_line}
use Rattle.tb_view.proofs.steps.chosen_text.Given as goal

-- the lines of the steps so far
abbrev pub invariant-loop-step : goal.invariant-loop-step
invariant-loop-step l =
    l.text ≡ line (l.word ++ codes " " ++ decimal (length l.steps)) ++ each_line l.program (take l.step-index l.steps) (history_of l.entries)
