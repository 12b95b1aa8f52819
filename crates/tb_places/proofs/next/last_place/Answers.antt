use Rattle.std.proofs.Common.{◌<◌, ◌-◌, ℕ, get_or, ltb, ltb-true, refl, arith, rules}
use Rattle.std.proofs.lemmas.Bool.{ltb-false}
use Rattle.std.proofs.lemmas.List.Sorted.{IsPartitionPoint-from_clause, IsPartitionedBy-ltb}
use Rattle.tb_places.proofs.NextLemmas.{last_of, passed, places_rise}
use Rattle.tb_places.proofs.next.last_place.Goals as goal

pub returns-then-after-eq0-clause-none : goal.returns-then-after-eq0-clause-none
returns-then-after-eq0-clause-none c p events is =
    let places = c.args.places.now in
    let before = c.args.before in
    let rises = places_rise p events places is in
    let parted = IsPartitionedBy-ltb (λ (x : ℕ). x) _ before rises in
    let point = IsPartitionPoint-from_clause (λ (x : ℕ). ltb x before) _ _ c.partition_point-after.ensures.partitioned parted (λ a r q k. search rules) in
    passed p events places 0 0 before is (λ i d h l. absurd (omega (arith, h))) (λ i d h l. ltb-false _ _ (point.1 i d (omega (arith, c.if-after-eq0.true)) l))

pub returns-clause-some : goal.returns-clause-some
returns-clause-some c p events is =
    let places = c.args.places.now in
    let before = c.args.before in
    let after = c.partition_point-after.result in
    let rises = places_rise p events places is in
    let parted = IsPartitionedBy-ltb (λ (x : ℕ). x) _ before rises in
    let point = IsPartitionPoint-from_clause (λ (x : ℕ). ltb x before) _ _ c.partition_point-after.ensures.partitioned parted (λ a r q k. search rules) in
    let some : 0 < after = omega (arith, c.if-after-eq0.false) in
    last_of p events places after before (get_or places (after - 1) 0) is some c.partition_point-after.ensures.bound refl (ltb-true _ _ (point.0 (after - 1) 0 (omega arith) (omega (arith, some))))
    (λ i d h l. ltb-false _ _ (point.1 i d h l))
