use Rattle.std.proofs.Common.{◌∙◌, sym, ap, arith, subst, below_more, Some}
use Rattle.std.specs.List.{list_any}
use Rattle.tb_model.specs.Names.{same_name}
use Rattle.tb_ready.specs.Tasks.{IsLeast}
use Rattle.tb_ready.proofs.OrderLemmas.{least_none, least_some}
use Rattle.tb_ready.proofs.order.least.Goals as goal

pub returns-then-not-contains : goal.returns-then-not-contains
returns-then-not-contains c =
    subst (λ n. IsLeast c.args.names.now.tasks c.args.skip.now (Some n)) (sym c.marked-name.ensures.name)
    (least_some c.args.names.now.tasks c.args.order.now.items c.requires c.args.skip.now c.marked-name.ensures.unique c.loop-k.k (omega arith) c.loop-k.invariant
    (ap (λ n. list_any (λ s. same_name s n) c.args.skip.now) (sym c.marked-name.ensures.name) ∙ sym c.contains.ensures.value ∙ c.if-not-contains.true))

pub loop-k-preserved : goal.loop-k-preserved
loop-k-preserved c =
    below_more _ _ c.loop-k.invariant
    (ap (λ n. list_any (λ s. same_name s n) c.args.skip.now) (sym c.marked-name.ensures.name) ∙ sym c.contains.ensures.value ∙ c.if-not-contains.false)

pub returns : goal.returns
returns c =
    least_none c.args.names.now.tasks c.args.order.now.items c.requires c.args.skip.now (λ a h. c.loop-k.invariant a (omega arith))
