use Rattle.std.proofs.Common.{Some, ap, sym, subst, ◌∙◌}
use Rattle.std.specs.Option.{option_copied}
use Rattle.tb_lanes.proofs.AskedLemmas.{on_ok_map}
use Rattle.tb_stream.specs.Ends.{IsNoted, IsRowOf}
use Rattle.tb_stream.proofs.WaitLemmas.{merges_no_row}
use Rattle.tb_stream.proofs.asked.merge_key.Goals as goal

pub returns-in-Some : goal.returns-in-Some
returns-in-Some c =
    on_ok_map c.merge.result _ _
    (λ merges r n lanes wait are.
    merges r n lanes (Some c.args.key) wait are
    (subst (IsRowOf r n lanes c.args.order.now.clocks.rows.items (IsNoted r n c.args.key)) (sym (sym (ap option_copied c.in-Some.is) ∙ c.row_of.ensures)) (wait.past.rows c.args.key)))
    c.merge.ensures

pub returns-in-None : goal.returns-in-None
returns-in-None c r n lanes wait are =
    merges_no_row r n lanes c.args.order.now.clocks.rows.items c.args.waiter.now.step.lane (IsNoted r n c.args.key) _ (sym (sym (ap option_copied c.in-None.is) ∙ c.row_of.ensures)) (wait.past.rows c.args.key) c.args.joined.now are
