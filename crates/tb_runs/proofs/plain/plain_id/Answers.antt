use Rattle.std.proofs.Common.{◌<◌, ◌≤◌, sym, ◌∙◌, arith}
use Rattle.tb_runs.proofs.PlainLemmas.{id_led}
use Rattle.tb_runs.proofs.plain.plain_id.Goals as goal

pub returns : goal.returns
returns c =
    let begins = sym c.begins_ordinal.ensures ∙ c.if-not-begins_ordinal.false in
    let some : 0 < c.in_ok-step.step = omega (arith, c.if-step-eq0.false) in
    let few : c.in_ok-step.step ≤ 9999999999 = omega (arith, c.if-step-gt-LAST_STEP.false) in
    id_led c.args.bytes.now c.in_ok-step.rest.now c.behind-digits.result.now c.hash_at-at.result c.in_ok-step.step c.in_ok-task.task
    c.hash_at-at.ensures.len c.behind-digits.ensures begins c.in_ok-step.ensures.number some few c.in_ok-task.ensures
