use Rattle.std.proofs.Common.{◌≡◌, ◌+◌, ◌≤◌, count_by, length}
use Rattle.tb_model.specs.Spelling.{is_dot}
use Rattle.tb_runs.specs.Names.{task_of}
use Rattle.tb_runs.proofs.NameLemmas.{led_by}
use Rattle.tb_runs.proofs.name.read_levels.Given as goal

-- what is left leads on from the name so far, which has a number for each dot in front
abbrev pub invariant-loop-left : goal.invariant-loop-left
invariant-loop-left l = record {
  led : led_by l.name l.left ≡ task_of l.word;
  dots : length l.name + count_by is_dot l.left ≤ count_by is_dot l.word;
}

abbrev pub decreases-loop-left : goal.decreases-loop-left
decreases-loop-left l = length l.left
