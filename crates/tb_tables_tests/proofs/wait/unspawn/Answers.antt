use Rattle.std.proofs.Common.{sym, ◌∙◌}
use Rattle.tb_wait.proofs.SpawnLemmas.{last_from_children}
use Rattle.tb_tables_tests.proofs.wait.unspawn.Goals as goal

pub unspawned-requires : goal.unspawned-requires
unspawned-requires c =
    last_from_children c.args.table.now.tasks c.args.parent.now c.in_ok-child.child c.in-Some.n c.in-Some.ensures c.if-n-eq0.false c.in_ok-child.ensures.child (sym c.is_fresh.ensures ∙ c.if-not-is_fresh.false)
