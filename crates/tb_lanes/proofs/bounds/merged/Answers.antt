use Rattle.std.proofs.Common.{◌≡◌, ◌<◌, ◌+◌, length, get_or, sym, subst, arith, ⊎_elim}
use Rattle.std.proofs.lemmas.List.{get_or_default}
use Rattle.tb_lanes.specs.declared.lane_bound.LaneBound.{LaneBound}
use Rattle.tb_lanes.specs.Bounds.{IsUnder}
use Rattle.tb_lanes.proofs.BoundLemmas.{part_more, pushed_bound, pushed_rising, pushed_under}
use Rattle.tb_lanes.proofs.bounds.merged.Goals as goal

pub merge-preserved-then-not-from_left : goal.merge-preserved-then-not-from_left
merge-preserved-then-not-from_left c =
    let l = c.merge.invariant in
    let i = c.merge.i in
    let j = c.merge.j in
    let left = c.args.left.now in
    let right = c.args.right.now in
    let none : LaneBound = record { lane = 0; to = 0 } in
    let x = get_or right j none in
    let no = c.comes_next-from_left.ensures.no c.if-not-from_left.true in
    let m : j < length right = ⊎_elim (λ h. omega (arith, h, l.left_in, l.right_in, c.merge-test.true)) (λ h. h.0) no in
    let here : x ≡ get_or right j x = get_or_default right j none x m in
    let e = c.in_ok-push.ensures.items in record {
      left_in = l.left_in;
      right_in = omega (arith, m);
      bounds = λ k. omega (arith, pushed_bound c.merge.row.items c.push.new.self.items x e k, part_more right j x k m here, l.bounds k);
      rising = λ up over. pushed_rising c.merge.row.items c.push.new.self.items x e (l.rising up over) (l.right_on up over x m here);
      left_on = λ up over y h s.
          pushed_under c.merge.row.items c.push.new.self.items x e y.lane (l.right_on up over x m here) (⊎_elim (λ z. absurd (omega (arith, z, h))) (λ z. z.1 y x s here) no);
      right_on = λ up over y h s. pushed_under c.merge.row.items c.push.new.self.items x e y.lane (l.right_on up over x m here) (over j (j + 1) x y (omega arith) h here s);
    }

pub merge-preserved-then-not-comes_next : goal.merge-preserved-then-not-comes_next
merge-preserved-then-not-comes_next c =
    let l = c.merge.invariant in
    let i = c.merge.i in
    let j = c.merge.j in
    let left = c.args.left.now in
    let right = c.args.right.now in
    let none : LaneBound = record { lane = 0; to = 0 } in
    let x = get_or left i none in
    let yes = c.comes_next-from_left.ensures.yes c.if-not-from_left.false in
    let no = c.comes_next.ensures.no c.if-not-comes_next.true in
    let m : i < length left = yes.0 in
    let here : x ≡ get_or left i x = get_or_default left i none x m in
    let row = c.merge.row.items in
    let new = c.push-then-not-comes_next.new.self.items in
    let e = c.in_ok-push-2.ensures.items in record {
      left_in = omega (arith, m);
      right_in = l.right_in;
      bounds = λ k. omega (arith, pushed_bound row new x e k, part_more left i x k m here, l.bounds k);
      rising = λ up over. pushed_rising row new x e (l.rising up over) (l.left_on up over x m here);
      left_on = λ up over y h s. pushed_under row new x e y.lane (l.left_on up over x m here) (up i (i + 1) x y (omega arith) h here s);
      right_on = λ up over y h s. pushed_under row new x e y.lane (l.left_on up over x m here) (⊎_elim (λ z. absurd (omega (arith, z, h))) (λ z. z.1 y x s here) no);
    }

pub merge-preserved : goal.merge-preserved
merge-preserved c =
    let l = c.merge.invariant in
    let i = c.merge.i in
    let j = c.merge.j in
    let left = c.args.left.now in
    let right = c.args.right.now in
    let none : LaneBound = record { lane = 0; to = 0 } in
    let x = get_or left i none in
    let y = get_or right j none in
    let z = c.further.result in
    let yes = c.comes_next-from_left.ensures.yes c.if-not-from_left.false in
    let also = c.comes_next.ensures.yes c.if-not-comes_next.false in
    let m : i < length left = yes.0 in
    let n : j < length right = also.0 in
    let here : x ≡ get_or left i x = get_or_default left i none x m in
    let there : y ≡ get_or right j y = get_or_default right j none y n in
    let lane : z.lane ≡ x.lane = c.further.ensures.lane in
    let same : x.lane ≡ y.lane = omega (arith, yes.1 x y here n there, also.1 y x there m here) in
    let row = c.merge.row.items in
    let new = c.push-else-not-comes_next.new.self.items in
    let e = c.in_ok-push-3.ensures.items in
    record {
      left_in = omega (arith, m);
      right_in = omega (arith, n);
      bounds = λ k. omega (arith, pushed_bound row new z e k, part_more left i x k m here, part_more right j y k n there, c.further.ensures.bound k, l.bounds k);
      rising = λ up over. pushed_rising row new z e (l.rising up over) (subst (IsUnder row) (sym lane) (l.left_on up over x m here));
      left_on = λ up over u h s. pushed_under row new z e u.lane (subst (IsUnder row) (sym lane) (l.left_on up over x m here)) (omega (arith, lane, up i (i + 1) x u (omega arith) h here s));
      right_on = λ up over u h s. pushed_under row new z e u.lane (subst (IsUnder row) (sym lane) (l.left_on up over x m here)) (omega (arith, lane, same, over j (j + 1) y u (omega arith) h there s));
    }
