use Rattle.std.proofs.Common.{◌≡◌, ◌++◌, drop}
use Rattle.tb_view.specs.Step.{args_text}
use Rattle.tb_view.proofs.action_text.append_args.Given as goal

-- the text so far, then the arguments that are left, is the whole
abbrev pub invariant-each : goal.invariant-each
invariant-each l = l.text ++ args_text (drop l.arg-index l.args) ≡ l.fn.text ++ args_text l.args
