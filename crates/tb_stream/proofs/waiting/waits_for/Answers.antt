use Rattle.std.proofs.Common.{sym, ap, ap₂, ◌∙◌, ◌&&◌, ◌||◌}
use Rattle.tb_model.specs.Facts.{covers, is_member, own}
use Rattle.tb_model.specs.Items.{has_no_items, is_before, some_meet}
use Rattle.tb_races.specs.Kinds.{wait_kind}
use Rattle.tb_races.specs.Orders.{counts_some}
use Rattle.tb_lanes.specs.Linking.{order_of}
use Rattle.tb_lanes.proofs.AskedLemmas.{other_waits}
use Rattle.tb_stream.proofs.AskLemmas.{group_counts, none_counts, wait_counts}
use Rattle.tb_stream.proofs.waiting.waits_for.Goals as goal

pub returns-in-Start : goal.returns-in-Start
returns-in-Start c cells H t u a id other =
    c.starts_after.ensures cells H t u a id other ∙ sym (ap (λ x. counts_some (order_of c.args.exclusion) (wait_kind H t x u)) c.in-Start.is)

pub returns-in-Wait : goal.returns-in-Wait
returns-in-Wait c cells H t u a id other =
    c.both.ensures
    ∙ ap₂ (λ x y. x && y) (c.is_child.ensures cells H t u a id other)
    (c.covers-covered.ensures ∙ ap₂ (λ x y. has_no_items x || some_meet is_before x y) c.as_slice.ensures (c.items.ensures cells H u a other))
    ∙ sym (wait_counts c.args.exclusion (covers H t c.in-Wait.items u))
    ∙ sym (ap (λ x. counts_some (order_of c.args.exclusion) (wait_kind H t x u)) c.in-Wait.is)

pub returns-in-Close : goal.returns-in-Close
returns-in-Close c cells H t u a id other =
    c.is_member.ensures cells H t u a id other
    ∙ sym (group_counts c.args.exclusion (is_member (own t H) u))
    ∙ sym (ap (λ x. counts_some (order_of c.args.exclusion) (wait_kind H t x u)) c.in-Close.is)

pub returns-in_default : goal.returns-in_default
returns-in_default c cells H t u a id other =
    sym (ap (counts_some (order_of c.args.exclusion)) (other_waits H t u c.args.action.now c.in_default.not-Start c.in_default.not-Wait c.in_default.not-Close) ∙ none_counts c.args.exclusion)
