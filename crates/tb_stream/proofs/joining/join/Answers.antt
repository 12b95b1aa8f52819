use Rattle.std.proofs.Common.{◌≡◌, ◌-◌, ◌||◌, ℕ, suc, false, true, max, nat_lt, refl, sym, ap, ap₂, ◌∙◌, subst, arith}
use Rattle.tb_lanes.specs.Bounds.{AreRising, bound_among, bound_in}
use Rattle.tb_lanes.specs.Clocks.{Lanes, is_told, origin, reaches, says}
use Rattle.tb_lanes.proofs.BoundLemmas.{first_bound, none_rising, says_both}
use Rattle.tb_lanes.proofs.JoinLemmas.{adds_all, adds_low, adds_up, joined, joined_end, joined_up, low_more}
use Rattle.tb_stream.specs.Seen.{AreClocks, IsFull, Run, order}
use Rattle.tb_stream.proofs.joining.join.Goals as goal

pub up-init : goal.up-init
up-init c =
    let new = bound_among c.add_row.new.rows.items in
    let first = c.in_ok-first.first.items in
    let bounds = λ (j : ℕ). first_bound c.new-more.result.items c.new-more.ensures.items j (new j) (bound_in first j) (c.in_ok-add_row.ensures.bounds j) in
    let told_by = λ (r : Run) (n : ℕ) (lanes : Lanes) (full : IsFull r n lanes c.args.clocks.now.rows.items c.args.end) (j q : ℕ). ap (nat_lt q) (bounds j) ∙ c.in_ok-first.ensures.adds r n lanes full j q in record {
      rows = refl;
      full = λ r n lanes are full. full;
      rising = λ r n lanes are full. c.in_ok-add_row.ensures.rising (none_rising c.new-more.result.items c.new-more.ensures.items) (c.in_ok-first.ensures.rising full.rising);
      same = λ r n lanes are full q m. joined (order r) r.entries r.tasks n lanes r.by_task are.are are.within c.args.end.at full.mark.at q m false new (told_by r n lanes full (lanes.lane q) q);
      low = λ r n lanes are full j q h. adds_low (order r) r.entries r.tasks n lanes r.by_task are.are are.within c.args.end.at full.mark.at n full.mark.at j q (sym (told_by r n lanes full j q) ∙ h);
    }

pub up-preserved : goal.up-preserved
up-preserved c =
    let l = c.up in
    let up = c.in-Some.origin.at in
    let old = bound_among l.more.items in
    let new = bound_among c.add_row-in-Some.new.rows.items in
    let next = c.in_ok-next.next.items in
    let from = λ (r : Run) (n : ℕ) (lanes : Lanes) (are : AreClocks r n lanes c.args.clocks.now) (full : IsFull r n lanes c.args.clocks.now.rows.items c.args.end).
    (let here = l.invariant.full r n lanes are full in c.in-Some.ensures.origin r n lanes are (omega (arith, here.mark.at)) (omega (arith, here.mark.at, are.within)) here.task) in
    let told_by = λ (r : Run) (n : ℕ) (lanes : Lanes) (above : IsFull r n lanes c.args.clocks.now.rows.items c.in-Some.origin) (j q : ℕ).
    says_both q (new j) (old j) (bound_in next j) (c.in_ok-add_row-3.ensures.bounds j) ∙ ap (λ b. nat_lt q (old j) || b) (c.in_ok-next.ensures.adds r n lanes above j q) in record {
      rows = l.invariant.rows;
      full = λ r n lanes are full. (from r n lanes are full).0;
      rising = λ r n lanes are full. c.in_ok-add_row-3.ensures.rising (l.invariant.rising r n lanes are full) (c.in_ok-next.ensures.rising (from r n lanes are full).0.rising);
      same = λ r n lanes are full q m.
          let it = from r n lanes are full in
          let b = says old (lanes.lane q) q in
          let e : up ≡ suc up - 1 = omega arith in
          joined (order r) r.entries r.tasks n lanes r.by_task are.are are.within up it.0.mark.at q m b new (told_by r n lanes it.0 (lanes.lane q) q)
          ∙ ap (λ x. b || reaches (order r) r.entries x q) e
          ∙ joined_up (order r) r.entries (origin r.tasks l.mark.at) (suc up) q b it.1 (λ z. omega (arith, z, it.1))
          ∙ l.invariant.same r n lanes are full q m;
      low = λ r n lanes are full.
          let it = from r n lanes are full in
          low_more (order r) r.entries r.tasks n lanes r.by_task are.are are.within up it.0.mark.at n it.0.mark.at old new (told_by r n lanes it.0) (l.invariant.low r n lanes are full);
    }

pub returns-then-is_merged-clause-rising : goal.returns-then-is_merged-clause-rising
returns-then-is_merged-clause-rising c r n lanes are full up = c.in_ok-add_row-2.ensures.rising (subst AreRising (sym c.up.invariant.rows) up) (c.in_ok-row.ensures.rising (c.up.invariant.rising r n lanes are full))

pub returns-clause-rising : goal.returns-clause-rising
returns-clause-rising c r n lanes are full up = c.in_ok-add_row-4.ensures.rising (subst AreRising (sym c.up.invariant.rows) up) (c.in_ok-row-2.ensures.rising (c.up.invariant.rising r n lanes are full))

pub returns-then-is_merged-clause-more : goal.returns-then-is_merged-clause-more
returns-then-is_merged-clause-more c r n lanes are step full rise so =
    let l = c.up in
    let k = c.args.step.lane in
    let here = l.invariant.full r n lanes are full in
    let it = c.in-Some.ensures.origin r n lanes are (omega (arith, here.mark.at)) (omega (arith, here.mark.at, are.within)) here.task in
    let up = c.in-Some.origin.at in
    let row = bound_among c.args.rows.now.items in
    let more = bound_among l.more.items in
    let next = bound_among c.add_row-then-is_merged.new.rows.items in
    let rows = c.deref.ensures.value ∙ l.invariant.rows in
    let bound_is = c.bound_among.ensures (subst AreRising (sym rows) rise) ∙ ap₂ bound_among rows it.0.mark.lane in
    let merged : is_told (order r) r.entries r.tasks lanes row k n up ≡ true = sym (c.is_merged.ensures r n lanes row are step it.0.mark bound_is) ∙ c.if-is_merged.true in
    let both = λ (j q : ℕ). says_both q (next j) (row j) (more j) (c.in_ok-add_row-2.ensures.bounds j ∙ ap₂ max (ap (λ x. bound_among x j) l.invariant.rows) (c.in_ok-row.ensures.bounds j)) in
    let e : up ≡ suc up - 1 = omega arith in
    adds_up (order r) r.entries r.tasks n step.within lanes k c.args.end.at row more next so.low (l.invariant.low r n lanes are full) both up
    (λ q m. ap (λ x. says more (lanes.lane q) q || reaches (order r) r.entries x q) e ∙ joined_up (order r) r.entries (origin r.tasks l.mark.at) (suc up) q (says more (lanes.lane q) q) it.1 (λ z. omega (arith, z, it.1)) ∙ l.invariant.same r n lanes are full q m)
    it.0.mark.at so merged

pub returns-clause-more : goal.returns-clause-more
returns-clause-more c r n lanes are step full rise so =
    let l = c.up in
    let here = l.invariant.full r n lanes are full in
    let none = c.in_default.ensures.origin r n lanes are (omega (arith, here.mark.at)) (omega (arith, here.mark.at, are.within)) here.task in
    let row = bound_among c.args.rows.now.items in
    let more = bound_among l.more.items in
    let next = bound_among c.add_row-2.new.rows.items in
    let both = λ (j q : ℕ). says_both q (next j) (row j) (more j) (c.in_ok-add_row-4.ensures.bounds j ∙ ap₂ max (ap (λ x. bound_among x j) l.invariant.rows) (c.in_ok-row-2.ensures.bounds j)) in
    adds_all (order r) r.entries r.tasks n step.within lanes c.args.step.lane c.args.end.at row more next so.low (l.invariant.low r n lanes are full) both
    (λ q m. joined_end (order r) r.entries (origin r.tasks l.mark.at) q (says more (lanes.lane q) q) none ∙ l.invariant.same r n lanes are full q m)
