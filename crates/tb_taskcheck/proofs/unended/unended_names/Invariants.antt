use Rattle.std.proofs.Common.{◌-◌}
use Rattle.std.specs.Option.{option_copied}
use Rattle.tb_taskcheck.proofs.WalkLemmas.{Walked}
use Rattle.tb_verdict.specs.Held.{IsBehind}
use Rattle.tb_verdict.specs.Texts.{Sofar, history_in}
use Rattle.tb_taskcheck.proofs.unended.unended_names.Given as goal

-- the names so far are those of the first unended tasks, in their order
abbrev pub invariant-names : goal.invariant-names
invariant-names l = record {
  walked : (s : Sofar) → IsBehind l.judge s → Walked (history_in s) (option_copied l.after) l.names l.count;
}

abbrev pub decreases-names : goal.decreases-names
decreases-names l = 4294967295 - l.count
