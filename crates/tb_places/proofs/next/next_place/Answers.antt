use Rattle.std.proofs.Common.{◌∙◌, ℕ, ltb, ltb-true, sym, arith, rules}
use Rattle.std.proofs.lemmas.Bool.{ltb-false}
use Rattle.std.proofs.lemmas.List.{get_or_default}
use Rattle.std.proofs.lemmas.List.Sorted.{IsPartitionPoint-from_clause, IsPartitionedBy-ltb}
use Rattle.tb_places.proofs.NextLemmas.{passed, places_rise}
use Rattle.tb_places.proofs.next.next_place.Goals as goal

pub returns-in-Some-clause-none : goal.returns-in-Some-clause-none
returns-in-Some-clause-none c p events is =
    let places = c.args.places.now in
    let from = c.args.from in
    let after = c.partition_point-after.result in
    let rises = places_rise p events places is in
    let parted = IsPartitionedBy-ltb (λ (x : ℕ). x) _ from rises in
    let point = IsPartitionPoint-from_clause (λ (x : ℕ). ltb x from) _ _ c.partition_point-after.ensures.partitioned parted (λ a r q k. search rules) in
    passed p events places after from c.min.result is (λ i d h l. ltb-true _ _ (point.0 i d (omega arith) h))
    (λ i d h l.
    let least = ltb-false _ _ (point.1 after d (omega arith) (omega (arith, h, l))) in
    let rest = rises after i d h l in
    let here = c.in-Some.ensures.lookup.1 ∙ get_or_default places after c.in-Some.place.now d (omega (arith, h, l)) in
    omega (arith, c.min.ensures, c.max.ensures, least, rest, here))

pub returns-in-None-clause-none : goal.returns-in-None-clause-none
returns-in-None-clause-none c p events is =
    let places = c.args.places.now in
    let from = c.args.from in
    let after = c.partition_point-after.result in
    let rises = places_rise p events places is in
    let parted = IsPartitionedBy-ltb (λ (x : ℕ). x) _ from rises in
    let point = IsPartitionPoint-from_clause (λ (x : ℕ). ltb x from) _ _ c.partition_point-after.ensures.partitioned parted (λ a r q k. search rules) in
    passed p events places after from c.args.end is (λ i d h l. ltb-true _ _ (point.0 i d (omega arith) h)) (λ i d h l. absurd (omega (arith, ltb-false _ _ (sym c.in-None.ensures.lookup.0), h, l)))
