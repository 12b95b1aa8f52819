use Rattle.std.proofs.Common.{◌≡◌, List, Some, true, get_or, take}
use Rattle.tb_model.specs.declared.step_id.StepId.{StepId}
use Rattle.tb_model.specs.Ordered.{all_first}
use Rattle.tb_steps.specs.Entries.{Entry}
use Rattle.tb_steps.specs.Scans.{history_of, step_at}
use Rattle.tb_roll.specs.Comparing.{AreMatched}
use Rattle.tb_roll.proofs.comparing.comes_behind.Given as goal

-- it comes after those that were asked
abbrev pub invariant-loop-earlier : goal.invariant-loop-earlier
invariant-loop-earlier l =
    (others : List Entry) (i : StepId) (v : Entry) → AreMatched l.entries l.places others → step_at l.entries l.later ≡ Some i → v ≡ get_or l.entries l.later v
    → all_first (history_of others) i (history_of (take l.later l.entries)) v.event (history_of (take l.earlier l.entries)) ≡ true
