use Rattle.std.proofs.Common.{sym, ◌∙◌}
use Rattle.indexmap.specs.IndexSet.{contains}
use Rattle.tb_model.specs.Names.{same_name}
use Rattle.tb_cause.proofs.HasLemmas.{put_one, put_all}
use Rattle.tb_cause.proofs.giving.put_above.Goals as goal

pub returns-then-contains : goal.returns-then-contains
returns-then-contains c =
    put_all c.args.task.now (contains same_name c.args.set.now) (contains same_name c.up.set) c.up.next c.up.invariant c.in-Some.name c.in-Some.is c.requires (sym c.contains.ensures ∙ c.if-contains.true)

pub up-preserved-in_ok-next : goal.up-preserved-in_ok-next
up-preserved-in_ok-next c =
    put_one c.args.task.now (contains same_name c.args.set.now) (contains same_name c.up.set) c.up.next c.up.invariant c.in-Some.name c.in-Some.is (contains same_name c.put.new.set) c.in_ok-put.ensures _ c.in_ok-next.ensures.parent

pub up-preserved : goal.up-preserved
up-preserved c =
    put_one c.args.task.now (contains same_name c.args.set.now) (contains same_name c.up.set) c.up.next c.up.invariant c.in-Some.name c.in-Some.is (contains same_name c.put.new.set) c.in_ok-put.ensures _ c.in_ok-next.ensures.parent

pub up-preserved-in_ok-next-2 : goal.up-preserved-in_ok-next-2
up-preserved-in_ok-next-2 c =
    put_one c.args.task.now (contains same_name c.args.set.now) (contains same_name c.up.set) c.up.next c.up.invariant c.in-Some.name c.in-Some.is (contains same_name c.put.new.set) c.in_ok-put.ensures _ c.in_ok-next.ensures.parent
