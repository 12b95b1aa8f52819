use Rattle.std.proofs.Common.{sym, ◌∙◌, arith, refl}
use Rattle.tb_runs.proofs.NameLemmas.{with_hash, without_hash}
use Rattle.tb_runs.proofs.name.read_id.Goals as goal

pub returns-then-at-word-clause-ok : goal.returns-then-at-word-clause-ok
returns-then-at-word-clause-ok c = rw (with_hash c.args.word.now c.hash_at-at.result c.hash_at-at.ensures.len c.if-at-word.true) c.numbered.ensures.ok

pub returns-in-Some-clause-ok : goal.returns-in-Some-clause-ok
returns-in-Some-clause-ok c =
    let named = sym c.in_ok-task.ensures.ok ∙ c.in-Some.is in
    rw (without_hash c.args.word.now c.hash_at-at.result c.hash_at-at.ensures.len (omega (arith, c.if-at-word.false)), named) refl
