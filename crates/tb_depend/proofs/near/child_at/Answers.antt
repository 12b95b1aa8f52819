use Rattle.std.proofs.Common.{leb, leb-true, leb-false, arith, rules, add-one, sym, ◌∙◌}
use Rattle.std.proofs.lemmas.List.Sorted.{IsPartitionPoint-from_clause, IsPartitionedBy-leb}
use Rattle.tb_depend.proofs.PlacesLemmas.{ends_order, child_found}
use Rattle.tb_depend.proofs.near.child_at.Goals as goal

pub returns : goal.returns
returns c =
    let parted = IsPartitionedBy-leb (λ e. e) _ c.args.at (ends_order 0 c.args.ends.now c.requires.0 c.requires.1) in
    let point = IsPartitionPoint-from_clause (λ e. leb e c.args.at) _ _ c.partition_point.ensures.partitioned parted (λ a r q k. search rules) in
    add-one c.partition_point.result ∙ sym (child_found c.args.ends.now c.args.at c.partition_point.result c.partition_point.ensures.bound
    (λ i d h. leb-true _ _ (point.0 i d (omega arith) h)) (λ i d h t. leb-false _ _ (point.1 i d h t)))
