use Rattle.std.proofs.Common.{ap, sym, subst, ◌∙◌, IsTrue}
use Rattle.std.specs.Option.{option_copied}
use Rattle.tb_lanes.specs.Clocks.{links_at}
use Rattle.tb_lanes.specs.Linking.{order_of}
use Rattle.tb_lanes.specs.Rows.{IsNoted, IsRowOf, IsTold}
use Rattle.tb_lanes.proofs.AskedLemmas.{on_ok_map, row_told}
use Rattle.tb_order.proofs.asked.merge_key.Goals as goal

pub returns-in-Some-clause-told : goal.returns-in-Some-clause-told
returns-in-Some-clause-told c =
    let o = order_of c.args.past.now.exclusion in
    let entries = c.args.entries.now in
    let tasks = c.args.tasks.now in
    let p = c.args.waiter.now.at in
    let row = subst (IsRowOf o entries (IsNoted entries tasks p c.args.key)) (sym (sym (ap option_copied c.in-Some.is) ∙ c.row_of.ensures)) (c.requires.waiting.front.rows c.args.key) in
    on_ok_map c.merge.result _ _
    (λ told. row_told o entries (IsNoted entries tasks p c.args.key) c.in-Some.row.now row (λ x. IsTrue (links_at o entries p x)) (IsTold entries tasks c.args.past.now c.args.waiter.now.lane p c.merge.new.joined) told)
    c.merge.ensures.told
