use Rattle.std.proofs.Common.{◌≡◌}
use Rattle.tb_runs.specs.Reading.{args_in}
use Rattle.tb_runs.proofs.ListedLemmas.{behind}
use Rattle.tb_runs.proofs.items.take_args.Given as goal

-- the arguments so far, and those that the words that are left say, are those of all
abbrev pub invariant-args-2 : goal.invariant-args-2
invariant-args-2 l = record {
  all : behind l.args (args_in l.room l.words) ≡ args_in 16 l.fn.words;
}

abbrev pub decreases-args-2 : goal.decreases-args-2
decreases-args-2 l = l.room
