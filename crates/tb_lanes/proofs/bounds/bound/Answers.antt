use Rattle.std.proofs.Common.{◌<◌, ◌+◌, ◌-◌, ◌/◌, length, get_or, sym, ap, ◌∙◌, arith, ⊎_elim}
use Rattle.std.proofs.lemmas.Bool.{cases_eq, cases_lt}
use Rattle.std.proofs.lemmas.List.{get_or_default}
use Rattle.tb_lanes.specs.declared.lane_bound.LaneBound.{LaneBound}
use Rattle.tb_lanes.specs.Bounds.{bound_in}
use Rattle.tb_lanes.proofs.BoundLemmas.{bound_found, bound_none}
use Rattle.tb_lanes.proofs.bounds.bound.Goals as goal

pub returns-then-found-lane : goal.returns-then-found-lane
returns-then-found-lane c up =
    let row = c.args.row.now in
    let m = c.halve.low + (c.halve.high - c.halve.low) / 2 in
    let none : LaneBound = record { lane = 0; to = 0 } in
    let x = get_or row m none in
    let l : m < length row = omega (arith, c.halve-test.true, c.halve.invariant.within) in
    sym (bound_found row m x up l (get_or_default row m none x l)) ∙ ap (bound_in row) c.if-found-lane.true

pub halve-preserved-then-found-lane-2 : goal.halve-preserved-then-found-lane-2
halve-preserved-then-found-lane-2 c =
    let row = c.args.row.now in
    let m = c.halve.low + (c.halve.high - c.halve.low) / 2 in
    let none : LaneBound = record { lane = 0; to = 0 } in
    let y = get_or row m none in
    let l : m < length row = omega (arith, c.halve-test.true, c.halve.invariant.within) in record {
      within = c.halve.invariant.within;
      left = λ up i x h e.
          ⊎_elim
          (λ s. omega (arith, c.if-found-lane-2.true, ap (λ (z : LaneBound). z.lane) (e ∙ ap (λ n. get_or row n x) s ∙ get_or_default row m x none l)))
          (λ d. omega (arith, c.if-found-lane-2.true, up i m x y (omega (arith, h, d)) l e (get_or_default row m none y l)))
          (cases_eq i m);
      right = c.halve.invariant.right;
    }

pub halve-preserved : goal.halve-preserved
halve-preserved c =
    let row = c.args.row.now in
    let m = c.halve.low + (c.halve.high - c.halve.low) / 2 in
    let none : LaneBound = record { lane = 0; to = 0 } in
    let y = get_or row m none in
    let l : m < length row = omega (arith, c.halve-test.true, c.halve.invariant.within) in
    let on : c.args.lane < y.lane = omega (arith, c.if-found-lane-2.false, c.if-found-lane.false) in record {
      within = omega (arith, l);
      left = c.halve.invariant.left;
      right = λ up i x h w e.
          ⊎_elim
          (λ s. omega (arith, on, ap (λ (z : LaneBound). z.lane) (e ∙ ap (λ n. get_or row n x) s ∙ get_or_default row m x none l)))
          (λ d. omega (arith, on, up m i y x (omega (arith, h, d)) w (get_or_default row m none y l) e))
          (cases_eq i m);
    }

pub returns : goal.returns
returns c up =
    sym
    (bound_none c.args.row.now c.args.lane (λ i x l e s.
    ⊎_elim (λ h. omega (arith, s, c.halve.invariant.left up i x h e)) (λ h. omega (arith, s, c.halve.invariant.right up i x (omega (arith, h, c.halve-test.false)) l e)) (cases_lt i c.halve.low)))
