use Rattle.std.proofs.Common.{◌≡◌, ◌<◌, length, refl, ap, arith}
use Rattle.std.specs.Prelude.{slice_set}
use Rattle.tb_order.specs.Pending.{last_of}
use Rattle.tb_lanes.proofs.ClockLemmas.{within_any}
use Rattle.tb_order.proofs.LaneMoreLemmas.{noted_after, noted_first, pending_more}
use Rattle.tb_order.proofs.pending.note_lane.Goals as goal

pub returns-in_ok-push-3-clause-pending : goal.returns-in_ok-push-3-clause-pending
returns-in_ok-push-3-clause-pending c entries tasks from lane after are more =
    let old = c.args.pending.now in
    let n = c.args.at in
    let k = c.args.lane in
    let k_is : k ≡ length old.firsts.items = omega (arith, c.if-lane-len.true, c.len.ensures, old.firsts.ok) in
    let noted = noted_first old _ n k c.requires.linked c.requires.at refl k_is c.in_ok-push-2.ensures.items c.in_ok-push-3.ensures.items c.in_ok-push.ensures.items in
    pending_more old _ n k c.requires.linked c.requires.at c.requires.within noted entries tasks from lane after are more

pub returns-else-lane-len-clause-pending : goal.returns-else-lane-len-clause-pending
returns-else-lane-len-clause-pending c entries tasks from lane after are more =
    let old = c.args.pending.now in
    let n = c.args.at in
    let k = c.args.lane in
    let inside : k < length old.firsts.items = omega (arith, c.requires.lane, c.if-lane-len.false, c.len.ensures, old.firsts.ok) in
    let last : c.index-last.result.now ≡ last_of old k = within_any old.lasts.items k 0 c.index-last.result.now (omega (arith, inside, c.requires.linked.lasts_listed)) c.index-last.ensures in
    let noted = noted_after old _ n k c.requires.linked c.requires.at refl c.push.new.self.items inside refl refl c.in_ok-push.ensures.items (ap (λ m. slice_set c.push.new.self.items m n) last) in
    pending_more old _ n k c.requires.linked c.requires.at c.requires.within noted entries tasks from lane after are more
