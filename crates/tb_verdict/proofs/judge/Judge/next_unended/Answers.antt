use Rattle.std.proofs.Common.{Some, None, subst}
use Rattle.std.specs.Option.{option_copied}
use Rattle.tb_verdict.specs.Held.{IsBehind}
use Rattle.tb_verdict.proofs.UnendedLemmas.{first_of_all, none_behind, unended_running, unended_heading}
use Rattle.tb_verdict.proofs.judge.Judge.next_unended.Goals as goal

pub returns-in-Running-default : goal.returns-in-Running-default
returns-in-Running-default c s behind =
    unended_running c.in-Running-default.count-0 c.in-Running-default.state (option_copied c.args.after) (option_copied c.next_unended.result) c.next_unended.ensures s
    (subst (λ j. IsBehind j s) c.in-Running-default.is-0 behind)

pub returns-in-Heading-None : goal.returns-in-Heading-None
returns-in-Heading-None c s behind =
    unended_heading c.in-Heading-None.stage-0 c.in-Heading-None.firsts-0.entries c.in-Heading-None.root (option_copied c.args.after) (Some c.in-Heading-None.root)
    (λ is. rw (c.in-Heading-None.is-1, is) first_of_all) s (subst (λ j. IsBehind j s) c.in-Heading-None.is-0 behind)

pub returns-in-Heading-Some : goal.returns-in-Heading-Some
returns-in-Heading-Some c s behind =
    unended_heading c.in-Heading-Some.stage-0 c.in-Heading-Some.firsts-0.entries c.in-Heading-Some.root-0 (option_copied c.args.after) None
    (λ is. rw c.in-Heading-Some.is-1 (none_behind c.in-Heading-Some.field-0-1.now)) s (subst (λ j. IsBehind j s) c.in-Heading-Some.is-0 behind)
