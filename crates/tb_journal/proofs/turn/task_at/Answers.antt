use Rattle.std.proofs.Common.{◌-◌, ◌<◌, leb, leb-true, leb-false, arith, rules, sym}
use Rattle.std.proofs.lemmas.List.Sorted.{IsPartitionPoint-from_clause, IsPartitionedBy-leb}
use Rattle.tb_journal.specs.declared.turn.Turn.{Turn}
use Rattle.tb_journal.proofs.TurnLemmas.{turns_rise, none_begun, turn_found}
use Rattle.tb_journal.proofs.turn.task_at.Goals as goal

pub returns-then-after-eq0 : goal.returns-then-after-eq0
returns-then-after-eq0 c =
    let parted = IsPartitionedBy-leb (λ (x : Turn). x.from) _ c.args.place (turns_rise 0 c.args.turns.now c.requires.0 c.requires.1) in
    let point = IsPartitionPoint-from_clause (λ (x : Turn). leb x.from c.args.place) _ _ c.partition_point-after.ensures.partitioned parted (λ a r q k. search rules) in
    sym (none_begun c.args.root.now c.args.turns.now c.args.place (λ i d h. leb-false _ _ (point.1 i d (omega (arith, c.if-after-eq0.true)) h)))

pub returns : goal.returns
returns c =
    let parted = IsPartitionedBy-leb (λ (x : Turn). x.from) _ c.args.place (turns_rise 0 c.args.turns.now c.requires.0 c.requires.1) in
    let point = IsPartitionPoint-from_clause (λ (x : Turn). leb x.from c.args.place) _ _ c.partition_point-after.ensures.partitioned parted (λ a r q k. search rules) in
    let after = c.partition_point-after.result in
    let some : 0 < after = omega (arith, c.if-after-eq0.false) in
    sym (turn_found c.args.root.now c.args.turns.now c.args.place (after - 1) c.index-turns-after.result (omega (arith, some, c.partition_point-after.ensures.bound))
    (λ i d h. leb-true _ _ (point.0 i d (omega arith) (omega (arith, some, h))))
    (λ i d h k. leb-false _ _ (point.1 i d (omega (arith, some, h)) k)))
