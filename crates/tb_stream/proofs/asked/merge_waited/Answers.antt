use Rattle.std.proofs.Common.{◌≡◌, ◌∙◌, ◌||◌, Bool, None, true, false, sym, ap, IsTrue, arith}
use Rattle.tb_model.specs.declared.action.Action.TheVariants.{Wait}
use Rattle.tb_lanes.specs.Clocks.{IsEnd}
use Rattle.tb_lanes.specs.Rows.{waits_at}
use Rattle.tb_lanes.proofs.AskedLemmas.{on_ok_map, some_items}
use Rattle.tb_stream.specs.Seen.{order}
use Rattle.tb_stream.proofs.MergeLemmas.{merges_none, merges_so}
use Rattle.tb_stream.proofs.SeenLemmas.{id_at}
use Rattle.tb_stream.proofs.WaitLemmas.{action_is, none_waits, start_waits, wait_waits}
use Rattle.tb_stream.proofs.asked.merge_waited.Goals as goal

or_second : (a b : Bool) → a ≡ false → (a || b) ≡ true → b ≡ true
or_second a b e h = sym (ap (λ c. c || b) e) ∙ h

pub returns-in-Start : goal.returns-in-Start
returns-in-Start c =
    on_ok_map c.merge_items.result _ _
    (λ merges r n lanes wait are.
    let id = id_at r n n c.args.waiter.now.step.task (omega arith) wait.past.clocks.within wait.now.task wait.now.within in
    merges_so r n lanes _ _ _ _ c.args.joined.now _ (λ x l s h. start_waits r n lanes c.args.order.now c.args.waiter.now wait c.in-Start.is _ (c.items-items.ensures r.legal.cells _ _ wait.now.facts id) x s) (merges r n lanes wait are))
    c.merge_items.ensures

pub returns-then-is_empty : goal.returns-then-is_empty
returns-then-is_empty c =
    on_ok_map c.merge_children.result _ _
    (λ merges r n lanes wait are.
    merges_so r n lanes _ _ _ _ c.args.joined.now _ (λ x l s h. (wait_waits r n lanes c.args.order.now c.args.waiter.now wait c.in-Wait.items (sym (action_is r n lanes c.args.order.now c.args.waiter.now wait) ∙ c.in-Wait.is) x s).0) (merges r n lanes wait are))
    c.merge_children.ensures

pub returns-else-is_empty : goal.returns-else-is_empty
returns-else-is_empty c =
    let some = some_items c.as_slice-items.result.now c.is_empty.result c.is_empty.ensures c.if-is_empty.false in
    on_ok_map c.merge_items-else-is_empty.result _ _
    (λ merges r n lanes wait are.
    merges_so r n lanes _ _ _ _ c.args.joined.now _
    (λ x l s h.
    let it = wait_waits r n lanes c.args.order.now c.args.waiter.now wait c.as_slice-items.result.now (sym (action_is r n lanes c.args.order.now c.args.waiter.now wait) ∙ c.in-Wait.is ∙ ap Wait (sym c.as_slice-items.ensures)) x s in
    (it.0, or_second _ _ some it.1)) (merges r n lanes wait are))
    c.merge_items-else-is_empty.ensures

pub returns-in-Close : goal.returns-in-Close
returns-in-Close c =
    on_ok_map c.merge.result _ _
    (λ merges r n lanes wait are. merges_so r n lanes _ _ _ _ c.args.joined.now _ (λ x l s h. s.0) (merges r n lanes None wait are wait.past.ends))
    c.merge.ensures

pub returns-in_default : goal.returns-in_default
returns-in_default c r n lanes wait are =
    merges_none r n lanes c.args.order.now.clocks.rows.items c.args.waiter.now.step.lane c.args.joined.now are (λ x. IsEnd r.entries n x × IsTrue (waits_at (order r) r.entries n x))
    (λ x l s h. none_waits r n lanes c.args.order.now c.args.waiter.now wait c.in_default.not-Start c.in_default.not-Wait c.in_default.not-Close x s)
