use Rattle.std.proofs.Common.{◌++◌, codes, ap, ◌∙◌}
use Rattle.std.specs.Option.{option_copied}
use Rattle.tb_taskcheck.proofs.WalkLemmas.{walk_on}
use Rattle.tb_verdict.specs.Texts.{history_in}
use Rattle.tb_taskcheck.proofs.unended.unended_names.Goals as goal

pub names-preserved : goal.names-preserved
names-preserved c = record {
  walked = λ s behind.
      walk_on (history_in s) (option_copied c.names.after) c.names.names c.push_str.new.self c.names.count c.in-Some.task.now (c.names.invariant.walked s behind) (c.in-Some.ensures s behind)
      (c.in_ok-push_str.ensures.ok ∙ ap (λ l. l ++ codes "\n") c.in_ok-push_name.ensures.ok);
}
