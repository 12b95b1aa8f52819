use Rattle.std.proofs.Common.{sym, ◌∙◌, subst, inl, inr, ⊎_elim}
use Rattle.std.specs.Prelude.{slice_index_or}
use Rattle.tb_lanes.specs.Bounds.{bound_in}
use Rattle.tb_lanes.specs.Clocks.{IsLane, IsOneMore, IsSound, IsStanding, lanes_of, row_in}
use Rattle.tb_lanes.specs.Linking.{order_of}
use Rattle.tb_lanes.specs.Needing.{FindsEnds, IsEndBefore, IsOwn}
use Rattle.tb_lanes.specs.Rows.{IsPast}
use Rattle.tb_lanes.proofs.NeedingLemmas.{some_of}
use Rattle.tb_lanes.proofs.TableLemmas.{clocks_more}
use Rattle.tb_order.proofs.merging.advance.Goals as goal

pub finish-requires-clause-past : goal.finish-requires-clause-past
finish-requires-clause-past c = subst (IsPast c.args.entries.now c.args.tasks.now c.args.past.now) (sym c.begin-first.ensures.at) c.requires.past

pub finish-requires-clause-row : goal.finish-requires-clause-row
finish-requires-clause-row c = c.begin-first.ensures.row (order_of c.args.past.now.exclusion) c.args.entries.now c.requires.tasks c.requires.past.clocks

pub finish-requires-clause-rising : goal.finish-requires-clause-rising
finish-requires-clause-rising c = c.begin-first.ensures.rising (order_of c.args.past.now.exclusion) c.args.entries.now c.requires.tasks c.requires.past.clocks

pub finish-requires-clause-sound : goal.finish-requires-clause-sound
finish-requires-clause-sound c =
    let past = c.args.past.now in
    let o = order_of past.exclusion in
    let first = c.begin-first.result in
    subst (λ m. IsSound o c.args.entries.now c.args.tasks.now (lanes_of past.clocks) (bound_in (row_in past.clocks.rows.items first.row)) first.lane m) (sym c.begin-first.ensures.at)
    (c.begin-first.ensures.sound o c.args.entries.now c.requires.legal c.requires.tasks c.requires.past.clocks)

pub finish-requires-clause-own : goal.finish-requires-clause-own
finish-requires-clause-own c =
    let past = c.args.past.now in
    let o = order_of past.exclusion in
    let first = c.begin-first.result in
    subst (λ m. IsOwn o c.args.entries.now c.args.tasks.now (lanes_of past.clocks) (bound_in (row_in past.clocks.rows.items first.row)) first.lane m) (sym c.begin-first.ensures.at)
    (c.begin-first.ensures.own o c.args.entries.now c.requires.legal c.requires.tasks c.requires.past.clocks)

pub finish-requires-clause-lane : goal.finish-requires-clause-lane
finish-requires-clause-lane c =
    subst (IsLane c.args.entries.now (lanes_of c.args.past.now.clocks) c.begin-first.result.lane) (sym c.begin-first.ensures.at)
    (c.begin-first.ensures.lane (order_of c.args.past.now.exclusion) c.args.entries.now c.requires.legal c.requires.tasks c.requires.past.clocks)

pub behind_of-behind-requires : goal.behind_of-behind-requires
behind_of-behind-requires c = ⊎_elim (λ e. inl e) (λ h. inr h.0) c.in_ok-step.ensures.lane

pub note_over-requires-clause-clocks : goal.note_over-requires-clause-clocks
note_over-requires-clause-clocks c =
    let entries = c.args.entries.now in
    let tasks = c.args.tasks.now in
    let fin = c.finish.new.past in
    let o = order_of fin.exclusion in
    let at = c.args.at in
    let step = c.in_ok-step.step in
    let first = c.begin-first.ensures.at in
    let one : IsOneMore fin.clocks step.row step.lane at c.add.new.clocks =
    subst (λ m. IsOneMore fin.clocks step.row step.lane m c.add.new.clocks) (c.in_ok-step.ensures.at ∙ first) c.in_ok-add.ensures.one in
    let stands : IsStanding o entries tasks fin.clocks step.row step.lane at =
    subst (λ e. IsStanding (order_of e) entries tasks fin.clocks step.row step.lane at) (sym c.finish.ensures.same) (subst (IsStanding (order_of c.args.past.now.exclusion) entries tasks fin.clocks step.row step.lane) first c.in_ok-step.ensures.stands) in
    let past : IsPast entries tasks fin at = subst (IsPast entries tasks fin) first c.in_ok-step.ensures.past in
    clocks_more o entries tasks at fin.clocks c.add.new.clocks step.row step.lane one stands past.clocks

pub note_over-requires-clause-ends : goal.note_over-requires-clause-ends
note_over-requires-clause-ends c =
    let past : IsPast c.args.entries.now c.args.tasks.now c.finish.new.past c.args.at =
    subst (IsPast c.args.entries.now c.args.tasks.now c.finish.new.past) c.begin-first.ensures.at c.in_ok-step.ensures.past in
    past.ends

pub note_over-requires-clause-rows : goal.note_over-requires-clause-rows
note_over-requires-clause-rows c =
    let past : IsPast c.args.entries.now c.args.tasks.now c.finish.new.past c.args.at =
    subst (IsPast c.args.entries.now c.args.tasks.now c.finish.new.past) c.begin-first.ensures.at c.in_ok-step.ensures.past in
    past.rows

pub returns-clause-joined : goal.returns-clause-joined
returns-clause-joined c =
    subst (λ (v : _). FindsEnds (order_of c.args.past.now.exclusion) c.args.entries.now c.args.at v.items) (sym c.note_over.ensures.joined)
    (subst (λ m. FindsEnds (order_of c.args.past.now.exclusion) c.args.entries.now m c.finish.new.past.joined.items) c.begin-first.ensures.at c.in_ok-step.ensures.joined)

pub returns-clause-behind : goal.returns-clause-behind
returns-clause-behind c x e =
    let step = c.in_ok-step.step in
    let h = some_of c.behind_of-behind.result _ x c.behind_of-behind.ensures e in
    ⊎_elim (λ s. absurd (h.0 s))
    (λ b. subst (IsEndBefore (order_of c.args.past.now.exclusion) c.args.entries.now c.args.at) (sym h.1) (subst (λ m. IsEndBefore (order_of c.args.past.now.exclusion) c.args.entries.now m (slice_index_or c.finish.new.past.clocks.lasts.items step.lane 0)) c.begin-first.ensures.at b.1)) c.in_ok-step.ensures.lane
