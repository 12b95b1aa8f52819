use Rattle.std.proofs.Common.{ℕ, ltb, ltb-true, length, get_or, arith, rules}
use Rattle.std.proofs.lemmas.List.Sorted.{IsPartitionPoint-from_clause, IsPartitionedBy-ltb}
use Rattle.tb_places.proofs.NextLemmas.{rise}
use Rattle.tb_places.proofs.ClosingLemmas.{front_none, front_first, front_last, front_same}
use Rattle.tb_places.proofs.gaps.in_front.Goals as goal

pub returns-in_default-clause-same : goal.returns-in_default-clause-same
returns-in_default-clause-same c = front_same c.args.going.now c.args.places.now (length c.args.places.now) (λ i less within. front_none c.args.going.now (get_or c.args.places.now i 0) c.in_default.ensures.value)

pub returns-then-last-first-clause-same : goal.returns-then-last-first-clause-same
returns-then-last-first-clause-same c =
    front_last c.args.going.now c.args.places.now c.in-Some.first.now c.in-Some-last.last.now c.in-Some.ensures.value c.in-Some-last.ensures.value c.if-last-first.true c.requires

pub returns-clause-same : goal.returns-clause-same
returns-clause-same c =
    let places = c.args.places.now in
    let first = c.in-Some.first.now in
    let parted = IsPartitionedBy-ltb (λ (x : ℕ). x) _ first (rise 0 places c.requires) in
    let point = IsPartitionPoint-from_clause (λ (x : ℕ). ltb x first) _ _ c.partition_point.ensures.partitioned parted (λ a r q k. search rules) in
    front_same c.args.going.now places c.partition_point.result
    (λ i less within. front_first c.args.going.now first (get_or places i 0) c.in-Some.ensures.value (ltb-true _ _ (point.0 i 0 (omega arith) less)))
