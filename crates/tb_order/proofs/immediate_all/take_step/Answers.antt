use Rattle.std.proofs.Common.{◌≡◌, ◌<◌, ◌≤◌, ◌+◌, ◌++◌, ℕ, Some, filter, length, not, sym, ap, ◌∙◌, subst, arith, true, Vec, Global}
use Rattle.tb_races.specs.Orders.{AllNeeds, WithExclusion}
use Rattle.tb_order.specs.AllNeeds.{AreDirect}
use Rattle.tb_lanes.specs.Clocks.{IsOneMore, lane, lanes_of}
use Rattle.tb_lanes.specs.Fewer.{AreFewer}
use Rattle.tb_lanes.specs.Linking.{order_of}
use Rattle.tb_lanes.specs.Needing.{FindsEnds, IsEndBefore, place_at}
use Rattle.tb_order.specs.Needed.{AreCandidates, AreNeeded, AreShared, IsBegun, IsRowFound, is_known, is_pending, shared_places}
use Rattle.tb_order.specs.Pending.{first_of, grown}
use Rattle.tb_order.proofs.ClockMoreLemmas.{clocks_taken, if_some, lane_few, lanes_noted, made_count}
use Rattle.tb_order.proofs.LaneMoreLemmas.{pending_later}
use Rattle.tb_order.proofs.TakenLemmas.{action_at, after_met, are_candidates, are_direct, asked_source, begun_of, low_source}
use Rattle.tb_order.proofs.immediate_all.take_step.Goals as goal
use Rattle.tb_steps.proofs.FirstLemmas.{there}

pub untold-requires-clause-low : goal.untold-requires-clause-low
untold-requires-clause-low c =
    let entries = c.args.entries.now in
    let tasks = c.args.tasks.now in
    let old = c.args.needs.now in
    let clocks = old.clocks in
    let s = c.begin-step.result in
    let n = c.args.at in
    let b = c.begin-step.ensures in
    let is = c.requires.needs in
    let begun : IsBegun entries tasks clocks s =
    begun_of entries tasks clocks s n b.at c.requires.tasks is.clocks c.requires.at (b.fewer (is_pending entries tasks n) AllNeeds entries c.requires.legal c.requires.tasks is.clocks) in
    let ends = c.advance.new.past.joined.items in
    let finds : FindsEnds WithExclusion entries s.at ends =
    subst (λ m. FindsEnds WithExclusion entries m ends) (sym b.at) (subst (λ e. FindsEnds (order_of e) entries n ends) is.strict c.in_ok-behind.ensures.joined) in
    let shared : AreShared entries s.at old.kept = subst (λ m. AreShared entries m old.kept) (sym b.at) is.shared in
    let a = c.action.result.now in
    let x = there entries n c.requires.at in
    let a_is = action_at entries s.at n b.at begun.at c.requires.at a (c.action.ensures x.0 x.1) in
    let all = ends ++ shared_places old.kept a in
    let may : c.deref-2.result.now ≡ all = c.deref-2.ensures.value ∙ c.in_ok-may.ensures ∙ ap (λ e. e ++ shared_places old.kept a) c.deref.ensures.value in
    subst (λ xs. (i : ℕ) → i < length xs → place_at xs i < s.at) (sym may) (low_source entries tasks clocks s begun ends finds old.kept shared a a_is)

pub untold-requires-clause-pending : goal.untold-requires-clause-pending
untold-requires-clause-pending c =
    let entries = c.args.entries.now in
    let tasks = c.args.tasks.now in
    let old = c.args.needs.now in
    let clocks = old.clocks in
    let s = c.begin-step.result in
    let n = c.args.at in
    let b = c.begin-step.ensures in
    let is = c.requires.needs in
    let begun : IsBegun entries tasks clocks s =
    begun_of entries tasks clocks s n b.at c.requires.tasks is.clocks c.requires.at (b.fewer (is_pending entries tasks n) AllNeeds entries c.requires.legal c.requires.tasks is.clocks) in
    let ends = c.advance.new.past.joined.items in
    let finds : FindsEnds WithExclusion entries s.at ends =
    subst (λ m. FindsEnds WithExclusion entries m ends) (sym b.at) (subst (λ e. FindsEnds (order_of e) entries n ends) is.strict c.in_ok-behind.ensures.joined) in
    let shared : AreShared entries s.at old.kept = subst (λ m. AreShared entries m old.kept) (sym b.at) is.shared in
    let a = c.action.result.now in
    let x = there entries n c.requires.at in
    let a_is = action_at entries s.at n b.at begun.at c.requires.at a (c.action.ensures x.0 x.1) in
    let all = ends ++ shared_places old.kept a in
    let may : c.deref-2.result.now ≡ all = c.deref-2.ensures.value ∙ c.in_ok-may.ensures ∙ ap (λ e. e ++ shared_places old.kept a) c.deref.ensures.value in
    subst (λ xs. (i : ℕ) → i < length xs → is_pending entries tasks s.at (place_at xs i) ≡ true) (sym may) (asked_source entries tasks clocks s begun ends finds old.kept shared a a_is)

pub needed_among-requires-clause-found : goal.needed_among-requires-clause-found
needed_among-requires-clause-found c =
    let entries = c.args.entries.now in
    let tasks = c.args.tasks.now in
    let old = c.args.needs.now in
    let clocks = old.clocks in
    let s = c.begin-step.result in
    let n = c.args.at in
    let b = c.begin-step.ensures in
    let is = c.requires.needs in
    let begun : IsBegun entries tasks clocks s =
    begun_of entries tasks clocks s n b.at c.requires.tasks is.clocks c.requires.at (b.fewer (is_pending entries tasks n) AllNeeds entries c.requires.legal c.requires.tasks is.clocks) in
    let ends = c.advance.new.past.joined.items in
    let finds : FindsEnds WithExclusion entries s.at ends =
    subst (λ m. FindsEnds WithExclusion entries m ends) (sym b.at) (subst (λ e. FindsEnds (order_of e) entries n ends) is.strict c.in_ok-behind.ensures.joined) in
    let shared : AreShared entries s.at old.kept = subst (λ m. AreShared entries m old.kept) (sym b.at) is.shared in
    let a = c.action.result.now in
    let x = there entries n c.requires.at in
    let a_is = action_at entries s.at n b.at begun.at c.requires.at a (c.action.ensures x.0 x.1) in
    let all = ends ++ shared_places old.kept a in
    let may : c.deref-2.result.now ≡ all = c.deref-2.ensures.value ∙ c.in_ok-may.ensures ∙ ap (λ e. e ++ shared_places old.kept a) c.deref.ensures.value in
    let found = c.in_ok-found.ensures ∙ ap (filter (λ q. not (is_known entries tasks clocks s q))) may in
    subst (AreCandidates entries tasks s.at) (sym found) (are_candidates entries tasks clocks s begun ends finds old.kept shared a a_is)

pub untold-requires-clause-begun : goal.untold-requires-clause-begun
untold-requires-clause-begun c =
    let entries = c.args.entries.now in
    let tasks = c.args.tasks.now in
    let clocks = c.args.needs.now.clocks in
    let s = c.begin-step.result in
    let n = c.args.at in
    let b = c.begin-step.ensures in
    let is = c.requires.needs in
    let begun : IsBegun entries tasks clocks s =
    begun_of entries tasks clocks s n b.at c.requires.tasks is.clocks c.requires.at (b.fewer (is_pending entries tasks n) AllNeeds entries c.requires.legal c.requires.tasks is.clocks) in
    begun

pub needed_among-requires-clause-begun : goal.needed_among-requires-clause-begun
needed_among-requires-clause-begun c =
    let entries = c.args.entries.now in
    let tasks = c.args.tasks.now in
    let clocks = c.args.needs.now.clocks in
    let s = c.begin-step.result in
    let n = c.args.at in
    let b = c.begin-step.ensures in
    let is = c.requires.needs in
    let begun : IsBegun entries tasks clocks s =
    begun_of entries tasks clocks s n b.at c.requires.tasks is.clocks c.requires.at (b.fewer (is_pending entries tasks n) AllNeeds entries c.requires.legal c.requires.tasks is.clocks) in
    begun

pub lane_on-lane-requires-clause-end : goal.lane_on-lane-requires-clause-end
lane_on-lane-requires-clause-end c =
    let entries = c.args.entries.now in
    let tasks = c.args.tasks.now in
    let clocks = c.args.needs.now.clocks in
    let s = c.begin-step.result in
    let n = c.args.at in
    let b = c.begin-step.ensures in
    let is = c.requires.needs in
    let begun : IsBegun entries tasks clocks s =
    begun_of entries tasks clocks s n b.at c.requires.tasks is.clocks c.requires.at (b.fewer (is_pending entries tasks n) AllNeeds entries c.requires.legal c.requires.tasks is.clocks) in
    let end =
    λ (y : ℕ) (e : c.in_ok-behind.behind ≡ Some y). subst (λ m. IsEndBefore WithExclusion entries m y) (sym b.at) (subst (λ z. IsEndBefore (order_of z) entries n y) is.strict (c.in_ok-behind.ensures.behind y e)) in
    if_some c.in_ok-behind.behind _ (λ y e. let l = (end y e).0 in (omega (arith, l, b.at, is.clocks.laned), is.clocks.lanes.few y (omega (arith, l, b.at))))

pub lane_on-lane-requires-clause-lane : goal.lane_on-lane-requires-clause-lane
lane_on-lane-requires-clause-lane c =
    let entries = c.args.entries.now in
    let tasks = c.args.tasks.now in
    let clocks = c.args.needs.now.clocks in
    let s = c.begin-step.result in
    let n = c.args.at in
    let b = c.begin-step.ensures in
    let is = c.requires.needs in
    let begun : IsBegun entries tasks clocks s =
    begun_of entries tasks clocks s n b.at c.requires.tasks is.clocks c.requires.at (b.fewer (is_pending entries tasks n) AllNeeds entries c.requires.legal c.requires.tasks is.clocks) in
    begun.begins.lane.few

pub add-requires : goal.add-requires
add-requires c =
    let entries = c.args.entries.now in
    let tasks = c.args.tasks.now in
    let clocks = c.args.needs.now.clocks in
    let s = c.begin-step.result in
    let n = c.args.at in
    let b = c.begin-step.ensures in
    let is = c.requires.needs in
    let begun : IsBegun entries tasks clocks s =
    begun_of entries tasks clocks s n b.at c.requires.tasks is.clocks c.requires.at (b.fewer (is_pending entries tasks n) AllNeeds entries c.requires.legal c.requires.tasks is.clocks) in
    let end =
    λ (y : ℕ) (e : c.in_ok-behind.behind ≡ Some y). subst (λ m. IsEndBefore WithExclusion entries m y) (sym b.at) (subst (λ z. IsEndBefore (order_of z) entries n y) is.strict (c.in_ok-behind.ensures.behind y e)) in
    record { few = omega (arith, lane_few entries tasks clocks s begun c.in_ok-behind.behind end c.lane_on-lane.result c.lane_on-lane.ensures, made_count clocks c.row_of.new.clocks s.row c.in_ok-row.row c.in_ok-left.left c.in_ok-row.ensures) }

pub note_lane-requires-clause-lane : goal.note_lane-requires-clause-lane
note_lane-requires-clause-lane c =
    let entries = c.args.entries.now in
    let tasks = c.args.tasks.now in
    let clocks = c.args.needs.now.clocks in
    let s = c.begin-step.result in
    let n = c.args.at in
    let b = c.begin-step.ensures in
    let is = c.requires.needs in
    let begun : IsBegun entries tasks clocks s =
    begun_of entries tasks clocks s n b.at c.requires.tasks is.clocks c.requires.at (b.fewer (is_pending entries tasks n) AllNeeds entries c.requires.legal c.requires.tasks is.clocks) in
    let end =
    λ (y : ℕ) (e : c.in_ok-behind.behind ≡ Some y). subst (λ m. IsEndBefore WithExclusion entries m y) (sym b.at) (subst (λ z. IsEndBefore (order_of z) entries n y) is.strict (c.in_ok-behind.ensures.behind y e)) in
    omega (arith, lane_few entries tasks clocks s begun c.in_ok-behind.behind end c.lane_on-lane.result c.lane_on-lane.ensures, is.counted, c.pruned_row.ensures.same.count)

pub returns-clause-places : goal.returns-clause-places
returns-clause-places c =
    let entries = c.args.entries.now in
    let tasks = c.args.tasks.now in
    let old = c.args.needs.now in
    let clocks = old.clocks in
    let s = c.begin-step.result in
    let n = c.args.at in
    let b = c.begin-step.ensures in
    let is = c.requires.needs in
    let begun : IsBegun entries tasks clocks s =
    begun_of entries tasks clocks s n b.at c.requires.tasks is.clocks c.requires.at (b.fewer (is_pending entries tasks n) AllNeeds entries c.requires.legal c.requires.tasks is.clocks) in
    let ends = c.advance.new.past.joined.items in
    let finds : FindsEnds WithExclusion entries s.at ends =
    subst (λ m. FindsEnds WithExclusion entries m ends) (sym b.at) (subst (λ e. FindsEnds (order_of e) entries n ends) is.strict c.in_ok-behind.ensures.joined) in
    let shared : AreShared entries s.at old.kept = subst (λ m. AreShared entries m old.kept) (sym b.at) is.shared in
    let a = c.action.result.now in
    let x = there entries n c.requires.at in
    let a_is = action_at entries s.at n b.at begun.at c.requires.at a (c.action.ensures x.0 x.1) in
    let all = ends ++ shared_places old.kept a in
    let may : c.deref-2.result.now ≡ all = c.deref-2.ensures.value ∙ c.in_ok-may.ensures ∙ ap (λ e. e ++ shared_places old.kept a) c.deref.ensures.value in
    let found = c.in_ok-found.ensures ∙ ap (filter (λ q. not (is_known entries tasks clocks s q))) may in
    let places = c.in_ok-made.places.items in
    subst (λ m. AreDirect entries m places) b.at
    (are_direct entries tasks clocks s begun ends finds old.kept shared a a_is places (subst (λ xs. AreNeeded entries tasks s.at xs places) found c.in_ok-made.ensures.needed))

pub returns-clause-needs : goal.returns-clause-needs
returns-clause-needs c =
    let entries = c.args.entries.now in
    let tasks = c.args.tasks.now in
    let old = c.args.needs.now in
    let clocks = old.clocks in
    let s = c.begin-step.result in
    let n = c.args.at in
    let b = c.begin-step.ensures in
    let is = c.requires.needs in
    let begun : IsBegun entries tasks clocks s =
    begun_of entries tasks clocks s n b.at c.requires.tasks is.clocks c.requires.at (b.fewer (is_pending entries tasks n) AllNeeds entries c.requires.legal c.requires.tasks is.clocks) in
    let ends = c.advance.new.past.joined.items in
    let finds : FindsEnds WithExclusion entries s.at ends =
    subst (λ m. FindsEnds WithExclusion entries m ends) (sym b.at) (subst (λ e. FindsEnds (order_of e) entries n ends) is.strict c.in_ok-behind.ensures.joined) in
    let shared : AreShared entries s.at old.kept = subst (λ m. AreShared entries m old.kept) (sym b.at) is.shared in
    let a = c.action.result.now in
    let x = there entries n c.requires.at in
    let a_is = action_at entries s.at n b.at begun.at c.requires.at a (c.action.ensures x.0 x.1) in
    let all = ends ++ shared_places old.kept a in
    let may : c.deref-2.result.now ≡ all = c.deref-2.ensures.value ∙ c.in_ok-may.ensures ∙ ap (λ e. e ++ shared_places old.kept a) c.deref.ensures.value in
    let found = c.in_ok-found.ensures ∙ ap (filter (λ q. not (is_known entries tasks clocks s q))) may in
    let end =
    λ (y : ℕ) (e : c.in_ok-behind.behind ≡ Some y). subst (λ m. IsEndBefore WithExclusion entries m y) (sym b.at) (subst (λ z. IsEndBefore (order_of z) entries n y) is.strict (c.in_ok-behind.ensures.behind y e)) in
    let pending = c.pruned_row.new.pending in
    let asked =
    c.pruned_row.ensures.pending tasks n (lane (lanes_of clocks)) (pending_later entries tasks n n (n + 1) (lane (lanes_of clocks)) old.pending (omega arith) is.pending) in
    let wanted =
    subst (λ m. (q : ℕ) → q < m → is_pending entries tasks (m + 1) q ≡ true → first_of pending (lane (lanes_of clocks) q) ≤ q) (sym b.at) asked.first in
    let one = subst (λ m. IsOneMore c.row_of.new.clocks c.in_ok-row.row c.lane_on-lane.result m c.add.new.clocks) (sym b.at) c.in_ok-add.ensures.one in
    let taken = clocks_taken entries tasks clocks s begun c.in_ok-behind.behind end c.lane_on-lane.result c.lane_on-lane.ensures (filter (λ q. not (is_known entries tasks clocks s q)) all)
    (after_met entries tasks clocks s begun ends finds old.kept shared a a_is) pending wanted c.in_ok-made.made c.in_ok-left.left
    (subst (λ xs. IsRowFound entries tasks clocks s xs c.in_ok-made.made) found c.in_ok-made.ensures.row) c.in_ok-left.ensures.part c.row_of.new.clocks c.in_ok-row.row c.in_ok-row.ensures c.add.new.clocks one in
    let noted = lanes_noted clocks c.row_of.new.clocks c.add.new.clocks s.row c.in_ok-row.row c.lane_on-lane.result n c.in_ok-left.left is.clocks.listed is.clocks.laned c.in_ok-row.ensures c.in_ok-add.ensures.one in record {
      past = c.in_ok-behind.ensures.past;
      strict = c.advance.ensures.same ∙ is.strict;
      clocks = subst (λ m. AreFewer (is_pending entries tasks (m + 1)) AllNeeds entries tasks (m + 1) c.add.new.clocks) b.at taken;
      shared = c.in_ok-note_shared.ensures;
      linked = c.in_ok-note_lane.ensures.linked;
      listed = ap (λ (v : Vec ℕ Global). length v.items) (c.note_lane.ensures.same ∙ c.pruned_row.ensures.same.until) ∙ is.listed;
      pending = c.in_ok-note_lane.ensures.pending entries tasks (n + 1) (lane (lanes_of clocks)) (lane (lanes_of c.add.new.clocks)) asked noted;
      counted = c.in_ok-note_lane.ensures.count ∙ ap (grown c.lane_on-lane.result) (c.pruned_row.ensures.same.count ∙ is.counted ∙ made_count clocks c.row_of.new.clocks s.row c.in_ok-row.row c.in_ok-left.left c.in_ok-row.ensures) ∙ sym c.in_ok-add.ensures.count;
    }
