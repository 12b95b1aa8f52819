use Rattle.std.proofs.Common.{◌<◌, length, sym, subst, arith, ⊎_elim}
use Rattle.std.proofs.lemmas.Bool.{both_ways}
use Rattle.tb_races.specs.Orders.{Synchronised}
use Rattle.tb_lanes.specs.Linking.{order_of}
use Rattle.tb_lanes.specs.Rows.{IsAsked}
use Rattle.tb_lanes.specs.Bounds.{bound_among}
use Rattle.tb_lanes.specs.Clocks.{lanes_of}
use Rattle.tb_lanes.proofs.AfterLemmas.{at_read}
use Rattle.tb_lanes.proofs.AskedLemmas.{held_asked, held_goes_on, link_parts, not_starting}
use Rattle.tb_order.proofs.JoinedLemmas.{joins_trans}
use Rattle.tb_lanes.proofs.OwnLemmas.{ev}
use Rattle.tb_lanes.proofs.SoundLemmas.{told_own}
use Rattle.tb_order.proofs.asked.merge_all.Goals as goal

pub returns-in_ok-merge_children-clause-more : goal.returns-in_ok-merge_children-clause-more
returns-in_ok-merge_children-clause-more c =
    joins_trans c.args.entries.now c.args.tasks.now c.args.past.now c.args.waiter.now.lane c.args.waiter.now.at _ _ _ c.in_ok-merge_waited.ensures.more c.in_ok-merge_children.ensures.more

pub returns-in_ok-merge_children-clause-told : goal.returns-in_ok-merge_children-clause-told
returns-in_ok-merge_children-clause-told c x end h =
    let e = c.args.past.now.exclusion in
    let o = order_of e in
    let entries = c.args.entries.now in
    let tasks = c.args.tasks.now in
    let are = c.requires.waiting.by_task in
    let legal = c.requires.waiting.legal in
    let p = c.args.waiter.now.at in
    let w = c.requires.waiting.at in
    let i : x < length entries = omega (arith, end.0, w) in
    let more = c.in_ok-merge_children.ensures.more in
    ⊎_elim
    (λ own. told_own o entries tasks are p w (lanes_of c.args.past.now.clocks) c.requires.waiting.front.clocks.lanes c.args.waiter.now.lane c.requires.waiting.lane.own (bound_among c.merge_children.new.joined.rows.items) x end.0 own)
    (λ rest.
    ⊎_elim (λ a. more.kept x end.0 (c.in_ok-merge_waited.ensures.told x end a))
    (λ a.
    c.in_ok-merge_children.ensures.told x
    (subst (λ g. IsAsked o entries tasks p g x) (sym (c.requires.waiting.whose.other (not_starting e entries tasks are legal p x w end (held_goes_on e entries tasks are legal p x w end a))))
    (held_asked e entries tasks are legal p x w end a h)))
    rest)
    (link_parts o entries p x w i end.1 h)

pub returns-else-is_held-clause-told : goal.returns-else-is_held-clause-told
returns-else-is_held-clause-told c x end h =
    let o = order_of c.args.past.now.exclusion in
    let entries = c.args.entries.now in
    let tasks = c.args.tasks.now in
    let p = c.args.waiter.now.at in
    let w = c.requires.waiting.at in
    let i : x < length entries = omega (arith, end.0, w) in
    ⊎_elim
    (λ own. told_own o entries tasks c.requires.waiting.by_task p w (lanes_of c.args.past.now.clocks) c.requires.waiting.front.clocks.lanes c.args.waiter.now.lane c.requires.waiting.lane.own (bound_among c.merge_waited.new.joined.rows.items) x end.0 own)
    (λ rest.
    ⊎_elim (λ a. c.in_ok-merge_waited.ensures.told x end a)
    (λ a. absurd (both_ways _ (c.is_held.ensures c.if-is_held.false _ (at_read Synchronised entries p w) (ev entries x i).task) a))
    rest)
    (link_parts o entries p x w i end.1 h)
