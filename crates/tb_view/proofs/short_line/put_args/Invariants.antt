use Rattle.std.proofs.Common.{◌≡◌, ◌≤◌, ◌++◌, length}
use Rattle.tb_view.specs.Step.{args_text}
use Rattle.tb_view.proofs.short_line.put_args.Given as goal

-- the arguments that are left, then the text so far, is the whole
abbrev pub invariant-each : goal.invariant-each
invariant-each l = record {
  few : length l.rest ≤ length l.args;
  whole : args_text l.rest ++ l.text ≡ args_text l.args ++ l.fn.text;
}

abbrev pub decreases-each : goal.decreases-each
decreases-each l = length l.rest
