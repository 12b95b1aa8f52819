use Rattle.std.proofs.Common.{subst}
use Rattle.tb_verdict.specs.Held.{IsBehind, HeadsBy}
use Rattle.tb_verdict.proofs.HeldLemmas.{running_on, stays_on, ends_at, runs_from}
use Rattle.tb_verdict.proofs.RefusalLemmas.{mapped}
use Rattle.tb_verdict.proofs.judge.Judge.judge_in_general.Goals as goal

pub returns-in-Running-clause-ok : goal.returns-in-Running-clause-ok
returns-in-Running-clause-ok c =
    mapped c.run_line.result c.run_line.ensures.ok (λ ending runs s behind.
    running_on c.in-Running.count c.run_line.new.count c.in-Running.state c.run_line.new.state c.args.line.now ending runs s
    (subst (λ j. IsBehind j s) c.in-Running.is behind))

pub returns-in-Stays-clause-ok : goal.returns-in-Stays-clause-ok
returns-in-Stays-clause-ok c s behind =
    let heads = subst (HeadsBy c.in-Heading.stage c.in-Heading.firsts.entries c.args.line.now c.head_line.new.stage c.head_line.new.firsts.entries) c.in-Stays.is c.in_ok-head_line-in-Heading.ensures.ok in
    stays_on c.in-Heading.stage c.head_line.new.stage c.in-Heading.firsts.entries c.head_line.new.firsts.entries c.in-Heading.root c.args.line.now heads s (subst (λ j. IsBehind j s) c.in-Heading.is behind)

pub returns-in-Runs-clause-ok : goal.returns-in-Runs-clause-ok
returns-in-Runs-clause-ok c s behind =
    let heads = subst (HeadsBy c.in-Heading.stage c.in-Heading.firsts.entries c.args.line.now c.head_line.new.stage c.head_line.new.firsts.entries) c.in-Runs.is c.in_ok-head_line-in-Heading.ensures.ok in
    runs_from c.in-Heading.stage c.head_line.new.stage c.in-Heading.firsts.entries c.head_line.new.firsts.entries c.in-Heading.root c.args.line.now c.in-Runs.count c.in-Runs.state c.in-Runs.event heads s (subst (λ j. IsBehind j s) c.in-Heading.is behind)

pub returns-in-Ends-clause-ok : goal.returns-in-Ends-clause-ok
returns-in-Ends-clause-ok c s behind =
    let heads = subst (HeadsBy c.in-Heading.stage c.in-Heading.firsts.entries c.args.line.now c.head_line.new.stage c.head_line.new.firsts.entries) c.in-Ends.is c.in_ok-head_line-in-Heading.ensures.ok in
    ends_at c.in-Heading.stage c.head_line.new.stage c.in-Heading.firsts.entries c.head_line.new.firsts.entries c.in-Heading.root c.args.line.now c.in-Ends.ending heads s (subst (λ j. IsBehind j s) c.in-Heading.is behind)
