use Rattle.std.proofs.Common.{length, refl, true, ◌≡◌, ℕ, Option, Some, None, sym, ap, ◌∙◌, subst, arith, inl, inr, ⊎_elim}
use Rattle.tb_lanes.specs.Clocks.{GoesOn, is_told, IsJoined, IsSound, IsStanding, TellsEnds, lanes_of, row_in}
use Rattle.tb_lanes.specs.Bounds.{IsRising, bound_among, bound_in}
use Rattle.tb_lanes.specs.Linking.{order_of}
use Rattle.tb_lanes.proofs.LaneLemmas.{goes_behind, stands_in}
use Rattle.tb_lanes.proofs.NeedingLemmas.{none_shared}
use Rattle.tb_lanes.proofs.AfterLemmas.{reaches_so}
use Rattle.tb_lanes.proofs.SoundLemmas.{no_ends_told, own_touches}
use Rattle.tb_lanes.proofs.TableLemmas.{clocks_kept, sound_same, stands_by}
use Rattle.tb_lanes.proofs.BoundLemmas.{first_bound, none_rising}
use mathlib.Core.Path.{fun_ext}
use Rattle.tb_order.proofs.merging.finish.Goals as goal

pub returns-then-not-may_wait-clause-stands : goal.returns-then-not-may_wait-clause-stands
returns-then-not-may_wait-clause-stands c =
    let o = order_of c.args.past.now.exclusion in
    let entries = c.args.entries.now in
    let tasks = c.args.tasks.now in
    let clocks = c.args.past.now.clocks in
    let at = c.args.step.at in
    let k = c.args.step.lane in
    let are = c.requires.tasks in
    let told = c.requires.past.clocks in
    let row = bound_in (row_in clocks.rows.items c.args.step.row) in
    let s = stands_in o entries tasks are at c.requires.at (lanes_of clocks) told.lanes row k c.stay.result.lane c.requires.lane c.requires.sound
    (no_ends_told o entries tasks are at c.requires.at (lanes_of clocks) told.lanes k c.requires.lane.own row (λ x l e h. c.may_wait.ensures c.if-not-may_wait.true c.args.past.now.exclusion x l e h))
    (none_shared c.args.past.now.exclusion entries tasks (lanes_of clocks) row k at)
    (c.stay.ensures.lane o entries are told c.requires.past.ends c.requires.rising) in
    subst (λ n. IsStanding o entries tasks clocks n c.stay.result.lane at) (sym c.stay.ensures.row) (record {
      within = c.requires.row;
      rising = c.requires.rising;
      clock = s.0;
      low = c.requires.sound.low;
      lane = s.1;
    })

pub returns-in-None-clause-stands : goal.returns-in-None-clause-stands
returns-in-None-clause-stands c =
    let o = order_of c.args.past.now.exclusion in
    let entries = c.args.entries.now in
    let tasks = c.args.tasks.now in
    let clocks = c.args.past.now.clocks in
    let at = c.args.step.at in
    let k = c.args.step.lane in
    let are = c.requires.tasks in
    let told = c.requires.past.clocks in
    let row = bound_in (row_in clocks.rows.items c.args.step.row) in
    let own : c.in_ok-own.own.items ≡ row_in clocks.rows.items c.args.step.row =
    c.in_ok-own.ensures.items ∙ c.row.ensures ∙ ap (λ rows. row_in rows c.args.step.row) c.deref.ensures.value in
    let same =
    ap bound_among (c.in_ok-merge_all.ensures.more.same c.in-None.is).0 ∙ fun_ext (λ j. first_bound c.new-2.result.items c.new-2.ensures.items j (bound_among c.add_row.new.rows.items j) (bound_in c.in_ok-own.own.items j) (c.in_ok-add_row.ensures.bounds j)) ∙ ap bound_in own in
    let s = stands_in o entries tasks are at c.requires.at (lanes_of clocks) told.lanes row k c.stay-in-None.result.lane c.requires.lane c.requires.sound
    (subst (λ r. TellsEnds o entries tasks (lanes_of clocks) r k at) same (λ x l e h. c.in_ok-merge_all.ensures.told x (l, e) h))
    (none_shared c.args.past.now.exclusion entries tasks (lanes_of clocks) row k at)
    (c.stay-in-None.ensures.lane o entries are told c.requires.past.ends c.requires.rising) in
    subst (λ n. IsStanding o entries tasks clocks n c.stay-in-None.result.lane at) (sym c.stay-in-None.ensures.row) (record {
      within = c.requires.row;
      rising = c.requires.rising;
      clock = s.0;
      low = c.requires.sound.low;
      lane = s.1;
    })

pub merge_all-requires-clause-waiting : goal.merge_all-requires-clause-waiting
merge_all-requires-clause-waiting c = record {
  legal = c.requires.legal;
  by_task = c.requires.tasks;
  at = c.requires.at;
  front = record {
    clocks = c.requires.past.clocks;
    ends = c.requires.past.ends;
    rows = c.requires.past.rows;
  };
  whose = record {
    start = c.whose_children.ensures.start;
    other = c.whose_children.ensures.other;
  };
  lane = c.requires.lane;
  from = c.first_asked.ensures c.args.past.now.exclusion;
}

pub merge_all-requires-clause-joined : goal.merge_all-requires-clause-joined
merge_all-requires-clause-joined c = record {
  rising = c.in_ok-add_row.ensures.rising (none_rising c.new-2.result.items c.new-2.ensures.items) (subst IsRising (sym own) c.requires.rising);
  sound = sound_same (order_of c.args.past.now.exclusion) c.args.entries.now c.args.tasks.now (lanes_of c.args.past.now.clocks) (bound_in (row_in c.args.past.now.clocks.rows.items c.args.step.row)) (bound_among c.add_row.new.rows.items) c.args.step.lane c.args.step.at
      (λ j. ap (λ r. bound_in r j) (sym own) ∙ sym (first_bound c.new-2.result.items c.new-2.ensures.items j (bound_among c.add_row.new.rows.items j) (bound_in c.in_ok-own.own.items j) (c.in_ok-add_row.ensures.bounds j))) c.requires.sound;
  end = λ x e. absurd (no_some x e);
  ends = λ i l. absurd (omega (arith, l, ap length c.new-3.ensures.items));
}
  where
    own : c.in_ok-own.own.items ≡ row_in c.args.past.now.clocks.rows.items c.args.step.row
    own = c.in_ok-own.ensures.items ∙ c.row.ensures ∙ ap (λ rows. row_in rows c.args.step.row) c.deref.ensures.value

    no_some : (x : ℕ) → ◌≡◌ {A = Option ℕ} None (Some x) → ⊥
    no_some x e = cc

pub returns-in_ok-push-in-Some-clause-past : goal.returns-in_ok-push-in-Some-clause-past
returns-in_ok-push-in-Some-clause-past c = record {
  clocks = clocks_kept (order_of c.args.past.now.exclusion) c.args.entries.now c.args.tasks.now c.args.step.at c.args.past.now.clocks c.push.new.self c.in_ok-row-in-Some.row c.in_ok-push-in-Some.ensures.items c.requires.past.clocks;
  ends = c.requires.past.ends;
  rows = c.requires.past.rows;
}

pub returns-in_ok-push-in-Some-clause-stands : goal.returns-in_ok-push-in-Some-clause-stands
returns-in_ok-push-in-Some-clause-stands c =
    let o = order_of c.args.past.now.exclusion in
    let entries = c.args.entries.now in
    let tasks = c.args.tasks.now in
    let clocks = c.args.past.now.clocks in
    let at = c.args.step.at in
    let k = c.args.step.lane in
    let are = c.requires.tasks in
    let told = c.requires.past.clocks in
    let rows = c.merge_all.new.joined.rows.items in
    let whole = c.in_ok-row-in-Some.row.items in
    let row = bound_in whole in
    let exact = c.in_ok-row-in-Some.ensures.items ∙ c.deref-in-Some.ensures.value in
    let more = c.in_ok-merge_all.ensures.more.are in
    let same : bound_among rows ≡ row = fun_ext (λ j. sym (ap (λ r. bound_in r j) exact ∙ c.in_ok-merged-in-Some.ensures.bounds j)) in
    let sound : IsSound o entries tasks (lanes_of clocks) row k at = subst (λ r. IsSound o entries tasks (lanes_of clocks) r k at) same more.sound in
    let joined : IsJoined o entries tasks (lanes_of clocks) row k at c.in-Some.end =
    subst (λ r. IsJoined o entries tasks (lanes_of clocks) r k at c.in-Some.end) same (more.end c.in-Some.end c.in-Some.is) in
    let goes : GoesOn o entries tasks (lanes_of clocks) row k at c.lane_behind.result =
    ⊎_elim (λ e. inl e) (λ h. inr (c.in-Some.end, joined, h.0, h.1, h.2)) c.lane_behind.ensures in
    let ends : TellsEnds o entries tasks (lanes_of clocks) row k at =
    subst (λ r. TellsEnds o entries tasks (lanes_of clocks) r k at) same (λ x l e h. c.in_ok-merge_all.ensures.told x (l, e) h) in
    let s =
    stands_in o entries tasks are at c.requires.at (lanes_of clocks) told.lanes row k c.lane_behind.result c.requires.lane sound ends (none_shared c.args.past.now.exclusion entries tasks (lanes_of clocks) row k at) goes in
    stands_by o entries tasks at clocks c.push.new.self c.in_ok-row-in-Some.row c.in_ok-push-in-Some.ensures.items told c.len.result c.lane_behind.result (omega (arith, c.len.ensures, c.push.new.self.ok)) (subst IsRising (sym exact) (c.in_ok-merged-in-Some.ensures.rising more.rising)) s.0 sound.low s.1

pub lane_behind-requires-clause-end : goal.lane_behind-requires-clause-end
lane_behind-requires-clause-end c = omega (arith, (c.in_ok-merge_all.ensures.more.are.end c.in-Some.end c.in-Some.is).0, c.requires.past.clocks.laned)

pub returns-then-not-may_wait-clause-joined : goal.returns-then-not-may_wait-clause-joined
returns-then-not-may_wait-clause-joined c =
    let o = order_of c.args.past.now.exclusion in
    let entries = c.args.entries.now in
    let tasks = c.args.tasks.now in
    let at = c.args.step.at in
    let are = c.requires.tasks in
    let told = c.requires.past.clocks.lanes in record {
      each = λ i l. absurd (omega (arith, l, ap length c.new.ensures.items));
      all = λ x h. inl (
        x,
        h.0,
        own_touches o entries tasks are at c.requires.at (lanes_of c.args.past.now.clocks) told x (omega (arith, h.0, c.requires.at)) (c.may_wait.ensures c.if-not-may_wait.true c.args.past.now.exclusion x h.0 h.1 h.2),
        reaches_so o entries x x (inl refl),
      );
    }

pub returns-then-not-may_wait-clause-lane : goal.returns-then-not-may_wait-clause-lane
returns-then-not-may_wait-clause-lane c =
    let o = order_of c.args.past.now.exclusion in
    let entries = c.args.entries.now in
    let clocks = c.args.past.now.clocks in
    let told = c.requires.past.clocks in
    goes_behind o entries c.args.tasks.now c.requires.tasks c.args.step.at c.requires.at (lanes_of clocks) told.lanes (bound_in (row_in clocks.rows.items c.args.step.row)) c.args.step.lane c.stay.result.lane c.requires.sound
    (c.stay.ensures.lane o entries c.requires.tasks told c.requires.past.ends c.requires.rising)

pub returns-in_ok-push-in-Some-clause-lane : goal.returns-in_ok-push-in-Some-clause-lane
returns-in_ok-push-in-Some-clause-lane c =
    let o = order_of c.args.past.now.exclusion in
    let entries = c.args.entries.now in
    let tasks = c.args.tasks.now in
    let clocks = lanes_of c.args.past.now.clocks in
    let at = c.args.step.at in
    let k = c.args.step.lane in
    let row = bound_among c.merge_all.new.joined.rows.items in
    let more = c.in_ok-merge_all.ensures.more.are in
    let joined : IsJoined o entries tasks clocks row k at c.in-Some.end = more.end c.in-Some.end c.in-Some.is in
    goes_behind o entries tasks c.requires.tasks at c.requires.at clocks c.requires.past.clocks.lanes row k c.lane_behind.result more.sound (⊎_elim (λ e. inl e) (λ h. inr (c.in-Some.end, joined, h.0, h.1, h.2)) c.lane_behind.ensures)

pub returns-in-None-clause-lane : goal.returns-in-None-clause-lane
returns-in-None-clause-lane c =
    let o = order_of c.args.past.now.exclusion in
    let entries = c.args.entries.now in
    let clocks = c.args.past.now.clocks in
    let told = c.requires.past.clocks in
    goes_behind o entries c.args.tasks.now c.requires.tasks c.args.step.at c.requires.at (lanes_of clocks) told.lanes (bound_in (row_in clocks.rows.items c.args.step.row)) c.args.step.lane c.stay-in-None.result.lane c.requires.sound
    (c.stay-in-None.ensures.lane o entries c.requires.tasks told c.requires.past.ends c.requires.rising)

pub returns-in_ok-push-in-Some-clause-joined : goal.returns-in_ok-push-in-Some-clause-joined
returns-in_ok-push-in-Some-clause-joined c =
    let more = c.in_ok-merge_all.ensures.more in record {
      each = more.are.ends;
      all = λ x h.
          ⊎_elim
          (λ a. inl (c.requires.own x h.0
          (subst (λ r. is_told (order_of c.args.past.now.exclusion) c.args.entries.now c.args.tasks.now (lanes_of c.args.past.now.clocks) r c.args.step.lane c.args.step.at x ≡ true)
          (fun_ext (λ j. first_bound c.new-2.result.items c.new-2.ensures.items j (bound_among c.add_row.new.rows.items j) (bound_in c.in_ok-own.own.items j) (c.in_ok-add_row.ensures.bounds j))
          ∙ ap bound_in (c.in_ok-own.ensures.items ∙ c.row.ensures ∙ ap (λ rows. row_in rows c.args.step.row) c.deref.ensures.value)) a)))
          (λ a. inr a)
          (more.added x h.0 (c.in_ok-merge_all.ensures.told x (h.0, h.1) h.2));
    }

pub returns-in-None-clause-joined : goal.returns-in-None-clause-joined
returns-in-None-clause-joined c =
    let more = c.in_ok-merge_all.ensures.more in record {
      each = more.are.ends;
      all = λ x h.
          ⊎_elim
          (λ a. inl (c.requires.own x h.0
          (subst (λ r. is_told (order_of c.args.past.now.exclusion) c.args.entries.now c.args.tasks.now (lanes_of c.args.past.now.clocks) r c.args.step.lane c.args.step.at x ≡ true)
          (fun_ext (λ j. first_bound c.new-2.result.items c.new-2.ensures.items j (bound_among c.add_row.new.rows.items j) (bound_in c.in_ok-own.own.items j) (c.in_ok-add_row.ensures.bounds j))
          ∙ ap bound_in (c.in_ok-own.ensures.items ∙ c.row.ensures ∙ ap (λ rows. row_in rows c.args.step.row) c.deref.ensures.value)) a)))
          (λ a. inr a)
          (more.added x h.0 (c.in_ok-merge_all.ensures.told x (h.0, h.1) h.2));
    }
