use Rattle.std.proofs.Common.{subst, sym, ⊎_elim}
use Rattle.tb_lanes.specs.Linking.{order_of}
use Rattle.tb_lanes.specs.Rows.{IsNoted}
use Rattle.tb_lanes.proofs.AskedLemmas.{noted_item, on_ok_both, on_ok_map, the_kind}
use Rattle.tb_order.proofs.JoinedLemmas.{joins_trans}
use Rattle.tb_order.proofs.asked.merge_kind.Goals as goal

pub returns-clause-told : goal.returns-clause-told
returns-clause-told c =
    let o = order_of c.args.past.now.exclusion in
    let entries = c.args.entries.now in
    let tasks = c.args.tasks.now in
    let p = c.args.waiter.now.at in
    on_ok_both c.merge_key-2.result _ _ _
    (λ more told x i j asked got kind place.
    ⊎_elim
    (λ n. more.kept x asked.end.0 (c.in_ok-merge_key.ensures.told x (subst (λ k. IsNoted entries tasks p k x) (sym c.item_key-key.ensures) n) asked.linked))
    (λ n. told x (subst (λ k. IsNoted entries tasks p k x) (sym c.item_key-key-2.ensures) n) asked.linked)
    (noted_item o entries tasks p c.args.waiter.now.parent x i j c.in-Some.kind c.args.asked.1 asked got (the_kind c.args.asked.0 c.in-Some.kind j.kind c.in-Some.is kind) place))
    c.merge_key-2.ensures.more c.merge_key-2.ensures.told

pub returns-clause-more : goal.returns-clause-more
returns-clause-more c =
    on_ok_map c.merge_key-2.result _ _ (λ more. joins_trans c.args.entries.now c.args.tasks.now c.args.past.now c.args.waiter.now.lane c.args.waiter.now.at _ _ _ c.in_ok-merge_key.ensures.more more) c.merge_key-2.ensures.more
