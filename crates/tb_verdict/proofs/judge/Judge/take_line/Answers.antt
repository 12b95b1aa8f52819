use Rattle.std.proofs.Common.{subst}
use Rattle.tb_verdict.specs.Held.{IsBehind}
use Rattle.tb_verdict.proofs.HeldLemmas.{running_on}
use Rattle.tb_verdict.proofs.RefusalLemmas.{mapped}
use Rattle.tb_verdict.proofs.judge.Judge.take_line.Goals as goal

pub returns-in-Running-clause-ok : goal.returns-in-Running-clause-ok
returns-in-Running-clause-ok c =
    mapped c.run_line.result c.run_line.ensures.ok (λ ending runs s behind.
    running_on c.in-Running.count c.run_line.new.count c.in-Running.state c.run_line.new.state c.args.line.now ending runs s
    (subst (λ j. IsBehind j s) c.in-Running.is behind))
