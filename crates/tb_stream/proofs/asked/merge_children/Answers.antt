use Rattle.std.proofs.Common.{inl, refl}
use Rattle.tb_lanes.proofs.AskedLemmas.{on_ok_map}
use Rattle.tb_stream.specs.Ends.{IsNoted}
use Rattle.tb_stream.specs.Joins.{IsChildEnd}
use Rattle.tb_stream.proofs.MergeLemmas.{merges_so}
use Rattle.tb_stream.proofs.asked.merge_children.Goals as goal

pub returns : goal.returns
returns c =
    on_ok_map c.merge_key.result _ _
    (λ merges r n lanes wait are.
    merges_so r n lanes c.args.order.now.clocks.rows.items c.args.waiter.now.step.lane (IsNoted r n (c.args.waiter.now.parent, 0, 0)) (IsChildEnd r n c.args.waiter.now.parent) c.args.joined.now _ (λ x l s h. (s.0, (c.args.waiter.now.parent, s.1, inl refl))) (merges r n lanes wait are))
    c.merge_key.ensures
